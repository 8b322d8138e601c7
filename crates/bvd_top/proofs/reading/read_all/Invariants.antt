use Rattle.std.proofs.Common.{◌≡◌, ◌≤◌, take, map}
use Rattle.std.specs.Prelude.{All}
use Rattle.bvd_host.specs.Causes.{Rose}
use Rattle.bvd_top.specs.Reading.{AreRead, IsWithin}
use Rattle.bvd_top.proofs.reading.read_all.Given as goal

abbrev pub invariant-names : goal.invariant-names
invariant-names g l = record {
  read : AreRead 4194304 (g.K.Keeper.files l.initial.keeper) (Rose (g.K.Keeper.missing l.initial.keeper) (g.K.Keeper.missing l.keeper)) (map (λ n. n.now) (take l.name-index l.names)) l.reads.items;
  within : All (λ r. IsWithin 4194304 r.content) l.reads.items;
  files : g.K.Keeper.files l.keeper ≡ g.K.Keeper.files l.initial.keeper;
  faults : g.K.Keeper.faults l.keeper ≡ g.K.Keeper.faults l.initial.keeper;
  missing : g.K.Keeper.missing l.initial.keeper ≤ g.K.Keeper.missing l.keeper;
}
