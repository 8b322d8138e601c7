use Rattle.std.proofs.Common.{[]}
use Rattle.std.specs.List.{zip}
use Rattle.gate_shape.specs.Row.{gather, choice}
use Rattle.gate_shape.specs.Builds.{edge, edges, StandAll}
use Rattle.gate_shape.proofs.Looping.{Reached}
use Rattle.blast_logic.proofs.choices.choose.Given as goal

abbrev pub invariant-loop-i : goal.invariant-loop-i
invariant-loop-i g l =
    let m = g.B.Builder.meaning l.initial.b in
    Reached g.B.Builder.noted StandAll (gather (λ p. choice (edge m l.fn.c) p.0 p.1)) [] (zip (edges m l.x) (edges m l.y)) m (g.B.Builder.meaning l.b) l.out.items l.i
