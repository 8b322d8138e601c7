-- A goal's edge, how the making of its gates ends, and its clauses.
use Rattle.std.specs.Prelude.{ℕ, List, []}
use Rattle.gate_shape.specs.Edge.{Edge}
use Rattle.bv_expr.specs.Term.{Term}
use Rattle.sat_form.specs.Literals.{Literal}
use Rattle.tseitin.specs.Clauses.{clauses, variables}
use Rattle.blast_goal.specs.Circuit.{goal_row}
use Rattle.goal_alone.specs.Ends.{End, end_of}

-- the most different gates of a goal
abbrev pub most_gates : ℕ
most_gates = 4000000

-- the goal's edge, made of its normal form, which is true exactly for the values that falsify the goal
abbrev pub goal_edge : List Term → Term → Edge
goal_edge hyps concl = (goal_row hyps concl).answer

-- how the making of the goal's gates ends
abbrev pub goal_end : List Term → Term → End
goal_end hyps concl = end_of most_gates [] (goal_row hyps concl).gates

-- the goal's clauses, and how many variables they have
abbrev pub goal_clauses : List Term → Term → List (List Literal)
goal_clauses hyps concl = clauses (goal_edge hyps concl)

abbrev pub goal_variables : List Term → Term → ℕ
goal_variables hyps concl = variables (goal_edge hyps concl)
