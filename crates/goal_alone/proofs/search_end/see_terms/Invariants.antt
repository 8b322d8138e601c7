use Rattle.std.proofs.Common.{ℕ, ◌<◌, slice_index_or}
use Rattle.bv_expr.specs.Term.{Term}
use Rattle.bv_expr.specs.Sorts.{IsExpr}
use Rattle.goal_alone.proofs.search_end.see_terms.Given as goal

abbrev pub invariant-loop-term : goal.invariant-loop-term
invariant-loop-term l = (k : ℕ) (d : Term) → k < l.term-index → IsExpr (slice_index_or l.terms k d)
