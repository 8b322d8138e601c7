use Rattle.std.proofs.Common.{◌-◌, false, length, replicate, take}
use Rattle.gate_shape.specs.Edge.{constant}
use Rattle.gate_shape.specs.Row.{gather, both}
use Rattle.gate_shape.specs.Builds.{edge, edges, StandAll}
use Rattle.gate_shape.proofs.Looping.{Reached}
use Rattle.blast_mul.proofs.partial_product.Given as goal

abbrev pub invariant-loop-j : goal.invariant-loop-j
invariant-loop-j g l =
    let m = g.B.Builder.meaning l.initial.b in
    Reached g.B.Builder.noted StandAll (gather (both (edge m l.fn.bit))) (replicate l.fn.place (constant false)) (take (length (edges m l.x) - l.fn.place) (edges m l.x)) m (g.B.Builder.meaning l.b) l.row.items l.j
