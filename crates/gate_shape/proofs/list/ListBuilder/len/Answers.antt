use Rattle.std.proofs.Common.{sym}
use Rattle.std.proofs.lemmas.List.{length-map}
use Rattle.gate_shape.proofs.Listing.{length-gates_of}
use Rattle.gate_shape.proofs.list.ListBuilder.len.Goals as goal

pub returns-clause-count : goal.returns-clause-count
returns-clause-count c = rw (sym c.self.view_is, length-gates_of, length-map) c.len.ensures
