use Rattle.std.proofs.Common.{[]}
use Rattle.std.specs.List.{zip}
use Rattle.gate_shape.specs.Builds.{edge, edges, StandAllAndOne}
use Rattle.gate_shape.proofs.Looping.{Reached}
use Rattle.blast_arith.specs.Sums.{add_bit}
use Rattle.blast_arith.proofs.sums.add.Given as goal

abbrev pub invariant-loop-i : goal.invariant-loop-i
invariant-loop-i g l =
    let m = g.B.Builder.meaning l.initial.b in
    Reached g.B.Builder.noted StandAllAndOne add_bit ([], edge m l.fn.carry) (zip (edges m l.x) (edges m l.y)) m (g.B.Builder.meaning l.b) (l.sums.items, l.next) l.i
