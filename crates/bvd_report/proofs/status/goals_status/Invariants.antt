use Rattle.std.proofs.Common.{◌≡◌, max, drop}
use Rattle.bvd_report.specs.Report.{goals_status}
use Rattle.bvd_report.specs.Shown.{lines_shown}
use Rattle.bvd_report.proofs.status.goals_status.Given as goal

abbrev pub invariant-goals : goal.invariant-goals
invariant-goals l = max l.status (goals_status (lines_shown (drop l.line-index l.goals))) ≡ goals_status (lines_shown l.goals)
