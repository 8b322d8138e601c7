-- What a goal comes to by its own terms and budget: no table, thread or schedule occurs in it.
use Rattle.std.specs.Prelude.{ℕ, List, length}
use Rattle.gate_shape.specs.Edge.{Edge}
use Rattle.bv_expr.specs.declared.ops.Val.{Val}
use Rattle.bv_expr.specs.Term.{Term}
use Rattle.bv_expr.specs.Goal.{Binders}
use Rattle.blast_goal.specs.Values.{values_of}
use Rattle.sat_form.specs.Literals.{Literal}
use Rattle.sat_form.specs.Truth.{value_of}
use Rattle.search_learn.specs.declared.Turn.{Turn}
use Rattle.search_learn.specs.declared.Turn.TheVariants as turn
use Rattle.search_learn.specs.Machine.{Machine, run}
use Rattle.lrat_lines.specs.Lines.{written}
use Rattle.lrat_trim.specs.Trim.{trim}
use Rattle.goal_alone.specs.Ends.{Made, TooDeep, TooMany}
use Rattle.goal_alone.specs.Formula.{goal_edge, goal_end, goal_clauses, goal_variables}
use Rattle.goal_alone.specs.Satisfying.{cone_bits}

-- A certificate's text, values of the goal's variables, the steps spent, or why there are no clauses.
pub data Answer : Type 0 where
  Proved : List ℕ → Answer
  False : List Val → Answer
  Budget : ℕ → Answer
  Deep : Answer
  Large : Answer

-- What the end of a search over the clauses of an edge means. A run doesn't end with More.
abbrev pub answer_of : Binders → Edge → List (List Literal) → Machine → Turn → Answer
answer_of binders e cs m turn.Unsat = Proved (written (trim (length cs) m.log))
answer_of binders e cs m turn.Sat = False (values_of binders (cone_bits e (value_of m.state.signs)))
answer_of binders e cs m (turn.Budget spent) = Budget spent
answer_of binders e cs m turn.More = Budget m.state.spent

-- What the search over the goal's clauses comes to.
unfoldable pub solved : Binders → List Term → Term → ℕ → Answer
solved binders hyps concl budget =
    let m = run (goal_variables hyps concl) (goal_clauses hyps concl) budget in
    answer_of binders (goal_edge hyps concl) (goal_clauses hyps concl) m m.state.end

-- The gates first, and then the search.
unfoldable pub alone : Binders → List Term → Term → ℕ → Answer
alone binders hyps concl budget = elim (goal_end hyps concl) as (λ _. Answer) [ TooDeep ↦ Deep | TooMany ↦ Large | Made ↦ solved binders hyps concl budget ]
