use Rattle.std.proofs.Common.{true}
use Rattle.std.specs.List.{zip}
use Rattle.gate_shape.specs.Edge.{constant}
use Rattle.gate_shape.specs.Builds.{edges, Stands}
use Rattle.gate_shape.proofs.Looping.{Reached}
use Rattle.blast_arith.specs.Comparisons.{equal_bit}
use Rattle.blast_arith.proofs.comparisons.eq.Given as goal

abbrev pub invariant-loop-i : goal.invariant-loop-i
invariant-loop-i g l =
    let m = g.B.Builder.meaning l.initial.b in
    Reached g.B.Builder.noted Stands equal_bit (constant true) (zip (edges m l.x) (edges m l.y)) m (g.B.Builder.meaning l.b) l.all l.i
