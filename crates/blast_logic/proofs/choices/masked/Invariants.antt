use Rattle.std.proofs.Common.{[]}
use Rattle.gate_shape.specs.Row.{gather, both}
use Rattle.gate_shape.specs.Builds.{edge, edges, StandAll}
use Rattle.gate_shape.proofs.Looping.{Reached}
use Rattle.blast_logic.proofs.choices.masked.Given as goal

abbrev pub invariant-loop-i : goal.invariant-loop-i
invariant-loop-i g l =
    let m = g.B.Builder.meaning l.initial.b in
    Reached g.B.Builder.noted StandAll (gather (both (edge m l.fn.mask))) [] (edges m l.x) m (g.B.Builder.meaning l.b) l.out.items l.i
