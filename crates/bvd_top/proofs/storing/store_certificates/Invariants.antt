use Rattle.std.proofs.Common.{◌≡◌, drop}
use Rattle.bvd_report.specs.Report.{all_goals, certificates, certificates_of}
use Rattle.bvd_report.specs.Shown.{parts_shown}
use Rattle.bvd_top.specs.Storing.{IsStoredTo}
use Rattle.bvd_top.proofs.storing.store_certificates.Given as goal

abbrev pub invariant-parts : goal.invariant-parts
invariant-parts g l = record {
  files : IsStoredTo (certificates (parts_shown l.parts)) (certificates_of (all_goals (parts_shown (drop l.part-index l.parts)))) (g.K.Keeper.files l.initial.keeper) (g.K.Keeper.files l.keeper);
  faults : g.K.Keeper.faults l.keeper ≡ g.K.Keeper.faults l.initial.keeper;
  missing : g.K.Keeper.missing l.keeper ≡ g.K.Keeper.missing l.initial.keeper;
}
