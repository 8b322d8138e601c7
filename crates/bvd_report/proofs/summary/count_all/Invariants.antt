use Rattle.std.proofs.Common.{◌≡◌, ◌+◌, drop}
use Rattle.bvd_report.specs.Report.{count_of, all_goals}
use Rattle.bvd_report.specs.Shown.{parts_shown, verdict_shown}
use Rattle.bvd_report.proofs.summary.count_all.Given as goal

abbrev pub invariant-parts : goal.invariant-parts
invariant-parts l = l.count + count_of (verdict_shown l.verdict) (all_goals (parts_shown (drop l.part-index l.parts))) ≡ count_of (verdict_shown l.verdict) (all_goals (parts_shown l.parts))
