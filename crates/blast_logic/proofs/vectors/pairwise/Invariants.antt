use Rattle.std.proofs.Common.{[]}
use Rattle.std.specs.List.{zip}
use Rattle.gate_shape.specs.Row.{gather}
use Rattle.gate_shape.specs.Builds.{edges, StandAll}
use Rattle.gate_shape.proofs.Looping.{Reached}
use Rattle.blast_logic.specs.Connectives.{connective}
use Rattle.blast_logic.proofs.vectors.pairwise.Given as goal

abbrev pub invariant-loop-i : goal.invariant-loop-i
invariant-loop-i g l =
    let m = g.B.Builder.meaning l.initial.b in
    Reached g.B.Builder.noted StandAll (gather (λ p. connective l.fn.how p.0 p.1)) [] (zip (edges m l.x) (edges m l.y)) m (g.B.Builder.meaning l.b) l.out.items l.i
