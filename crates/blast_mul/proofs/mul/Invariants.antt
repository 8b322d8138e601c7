use Rattle.std.proofs.Common.{◌≡◌, false, length, replicate}
use Rattle.std.specs.List.{enumerate_from}
use Rattle.gate_shape.specs.Edge.{constant}
use Rattle.gate_shape.specs.Builds.{edges, StandAll}
use Rattle.gate_shape.proofs.Looping.{Reached}
use Rattle.blast_mul.specs.Product.{add_partial}
use Rattle.blast_mul.proofs.mul.Given as goal

abbrev pub invariant-loop-i : goal.invariant-loop-i
invariant-loop-i g l =
    let m = g.B.Builder.meaning l.initial.b in
    record {
      built : Reached g.B.Builder.noted StandAll (add_partial (edges m l.x)) (replicate (length (edges m l.x)) (constant false)) (enumerate_from 0 (edges m l.y)) m (g.B.Builder.meaning l.b) l.sum.items l.i;
      lengths : length l.sum.items ≡ length l.x;
    }
