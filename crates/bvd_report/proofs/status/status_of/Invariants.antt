use Rattle.std.proofs.Common.{◌≡◌, max, drop}
use Rattle.bvd_report.specs.Report.{status_of}
use Rattle.bvd_report.specs.Shown.{parts_shown}
use Rattle.bvd_report.proofs.status.status_of.Given as goal

abbrev pub invariant-parts : goal.invariant-parts
invariant-parts l = max l.status (status_of (parts_shown (drop l.part-index l.parts))) ≡ status_of (parts_shown l.parts)
