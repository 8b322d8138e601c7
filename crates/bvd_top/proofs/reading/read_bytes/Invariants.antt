use Rattle.std.proofs.Common.{◌≡◌, ◌-◌, ◌≤◌, length, IfSome}
use Rattle.bvd_host.specs.Files.{file_at}
use Rattle.bvd_top.specs.Reading.{IsFrontOf}
use Rattle.bvd_top.proofs.reading.read_bytes.Given as goal

abbrev pub invariant-pieces : goal.invariant-pieces
invariant-pieces g l = record {
  front : IfSome (g.K.Keeper.files l.keeper) (λ f. IsFrontOf (file_at f l.name) l.size l.bytes.items);
  most : length l.bytes.items ≤ l.size;
  files : g.K.Keeper.files l.keeper ≡ g.K.Keeper.files l.initial.keeper;
  faults : g.K.Keeper.faults l.keeper ≡ g.K.Keeper.faults l.initial.keeper;
  missing : g.K.Keeper.missing l.initial.keeper ≤ g.K.Keeper.missing l.keeper;
}

abbrev pub decreases-pieces : goal.decreases-pieces
decreases-pieces g l = l.size - length l.bytes.items
