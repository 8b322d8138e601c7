use Rattle.std.specs.List.{enumerate_from}
use Rattle.gate_shape.specs.Builds.{edges, StandAll}
use Rattle.gate_shape.proofs.Looping.{Reached}
use Rattle.blast_shift.specs.Stages.{stage}
use Rattle.blast_shift.specs.Ways.{moved_by}
use Rattle.blast_shift.proofs.stages.stages.Given as goal

abbrev pub invariant-loop-k : goal.invariant-loop-k
invariant-loop-k g l =
    let m = g.B.Builder.meaning l.initial.b in
    Reached g.B.Builder.noted StandAll (stage (moved_by l.fn.way)) (edges m l.x) (enumerate_from 0 (edges m l.y)) m (g.B.Builder.meaning l.b) l.moved.items l.k
