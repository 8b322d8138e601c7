use Rattle.std.proofs.Common.{ℕ, ◌<◌, true, slice_index_or}
use Rattle.gate_shape.specs.Edge.{constant}
use Rattle.gate_shape.specs.Builds.{Stands}
use Rattle.gate_shape.proofs.Looping.{Reached}
use Rattle.bv_expr.specs.Term.{Term}
use Rattle.bv_expr.specs.Sorts.{IsExpr}
use Rattle.blast_goal.specs.Circuit.{and_hypothesis}
use Rattle.blast_goal.proofs.goal.hypotheses.Given as goal

abbrev pub invariant-loop-hyp : goal.invariant-loop-hyp
invariant-loop-hyp g l =
    Reached g.B.Builder.noted Stands and_hypothesis (constant true) l.hyps (g.B.Builder.meaning l.initial.b) (g.B.Builder.meaning l.b) l.e l.hyp-index
    × ((k : ℕ) (d : Term) → k < l.hyp-index → IsExpr (slice_index_or l.hyps k d))
