use Rattle.std.proofs.Common.{◌≡◌, ◌+◌, ◌≤◌, drop}
use Rattle.bvd_report.specs.Report.{count_of}
use Rattle.bvd_report.specs.Shown.{lines_shown, verdict_shown}
use Rattle.bvd_report.proofs.summary.count_in.Given as goal

abbrev pub invariant-goals : goal.invariant-goals
invariant-goals l = record {
  count : l.count + count_of (verdict_shown l.verdict) (lines_shown (drop l.line-index l.goals)) ≡ count_of (verdict_shown l.verdict) (lines_shown l.goals);
  most : l.count ≤ l.line-index;
}
