use Rattle.std.proofs.Common.{false}
use Rattle.std.specs.List.{enumerate_from}
use Rattle.gate_shape.specs.Edge.{constant}
use Rattle.gate_shape.specs.Builds.{edges, Stands}
use Rattle.gate_shape.proofs.Looping.{Reached}
use Rattle.blast_shift.specs.Stages.{or_overflow}
use Rattle.blast_shift.proofs.stages.overflow.Given as goal

abbrev pub invariant-loop-k : goal.invariant-loop-k
invariant-loop-k g l =
    let m = g.B.Builder.meaning l.initial.b in
    Reached g.B.Builder.noted Stands (or_overflow l.fn.width) (constant false) (enumerate_from 0 (edges m l.y)) m (g.B.Builder.meaning l.b) l.over l.k
