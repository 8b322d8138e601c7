use Rattle.std.proofs.Common.{true}
use Rattle.gate_shape.specs.Edge.{constant}
use Rattle.gate_shape.specs.Builds.{edges, Stands}
use Rattle.gate_shape.proofs.Looping.{Reached}
use Rattle.blast_div.specs.Division.{zero_bit}
use Rattle.blast_div.proofs.unsigned.is_zero.Given as goal

abbrev pub invariant-loop-i : goal.invariant-loop-i
invariant-loop-i g l =
    let m = g.B.Builder.meaning l.initial.b in
    Reached g.B.Builder.noted Stands zero_bit (constant true) (edges m l.y) m (g.B.Builder.meaning l.b) l.zero l.i
