use Rattle.std.proofs.Common.{◌≡◌, [], false, length, replicate, reverse}
use Rattle.gate_shape.specs.Edge.{constant}
use Rattle.gate_shape.specs.Builds.{edges}
use Rattle.gate_shape.proofs.Looping.{Reached}
use Rattle.blast_div.specs.Division.{divide_bit, negated_divisor}
use Rattle.blast_div.proofs.Dividing.{StandReversed}
use Rattle.blast_div.proofs.unsigned.divide.Given as goal

abbrev pub invariant-loop-i : goal.invariant-loop-i
invariant-loop-i g l =
    let m = g.B.Builder.meaning l.initial.b in
    record {
      built : Reached g.B.Builder.noted StandReversed (divide_bit (negated_divisor (edges m l.y))) ([], replicate (length (edges m l.x)) (constant false)) (reverse (edges m l.x)) m (g.B.Builder.meaning l.b) (l.quotient.items, l.rest.items) l.i;
      lengths : length l.rest.items ≡ length l.x;
    }
