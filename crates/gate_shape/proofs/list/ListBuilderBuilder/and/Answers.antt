use Rattle.std.proofs.Common.{sym}
use Rattle.gate_shape.proofs.Listing.{one_each}
use Rattle.gate_shape.proofs.list.ListBuilderBuilder.and.Goals as goal

pub returns-clause-once : goal.returns-clause-once
returns-clause-once c = rw (sym c.self.view_is) (one_each _ _ _ c.self.invariant)
