use Rattle.std.proofs.Common.{◌≡◌, drop}
use Rattle.bvd_report.specs.Report.{certificates_of}
use Rattle.bvd_report.specs.Shown.{lines_shown}
use Rattle.bvd_top.specs.Storing.{IsStoredTo}
use Rattle.bvd_top.proofs.storing.store_lines.Given as goal

abbrev pub invariant-lines : goal.invariant-lines
invariant-lines g l = record {
  files : IsStoredTo (certificates_of (lines_shown l.lines)) (certificates_of (lines_shown (drop l.line-index l.lines))) (g.K.Keeper.files l.initial.keeper) (g.K.Keeper.files l.keeper);
  faults : g.K.Keeper.faults l.keeper ≡ g.K.Keeper.faults l.initial.keeper;
  missing : g.K.Keeper.missing l.keeper ≡ g.K.Keeper.missing l.initial.keeper;
}
