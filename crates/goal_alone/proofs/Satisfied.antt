-- The clauses of a goal are satisfiable exactly where some values falsify it.
use Rattle.std.proofs.Common.{◌≡◌, ℕ, Bool, true, List}
use Rattle.std.specs.Prelude.{◌↔◌}
use Rattle.gate_shape.specs.Edge.{value}
use Rattle.sat_form.specs.Literals.{Literal}
use Rattle.sat_form.specs.Truth.{satisfies}
use Rattle.bv_expr.specs.declared.ops.Val.{Val}
use Rattle.bv_expr.specs.Term.{Term}
use Rattle.bv_expr.specs.Goal.{Binders, AreValues, IsGoal, Falsifies}
use Rattle.blast_goal.specs.Values.{input_bits}
use Rattle.blast_goal.specs.Falsified.{IsTrueWhereFalsified, IsTrueWhereBitsFalsify}
use Rattle.tseitin.specs.Clauses.{node_values}
use Rattle.tseitin.proofs.Law.{satisfiable_exactly}
use Rattle.goal_alone.specs.Formula.{goal_edge, goal_clauses}
use Rattle.goal_alone.specs.Satisfying.{IsSatisfiable, IsFalsifiable, IsRefutation, cone_bits}
use Rattle.goal_alone.proofs.Once.{cone_extends}
use Rattle.blast_goal.proofs.Reading.{are_values}

-- the goal's edge is true exactly for the values that falsify the goal, and so for those that are read off any bits
pub record IsEdgeOf (binders : Binders) (hyps : List Term) (concl : Term) : Type 0 where
  pub of_values : IsTrueWhereFalsified binders hyps concl (goal_edge hyps concl)
  pub of_bits : IsTrueWhereBitsFalsify binders hyps concl (goal_edge hyps concl)

module _ (binders : Binders) (hyps : List Term) (concl : Term) (goal : IsGoal binders hyps concl) (edge : IsEdgeOf binders hyps concl) where
  -- values that satisfy the clauses give values that falsify the goal
  pub falsified : (values : ℕ → Bool) → satisfies values (goal_clauses hyps concl) ≡ true → IsRefutation binders hyps concl (goal_edge hyps concl) values
  falsified values h =
      let bits = cone_bits (goal_edge hyps concl) values in
      let holds : value bits (goal_edge hyps concl) ≡ true = (satisfiable_exactly (goal_edge hyps concl)).only_where_true bits values (cone_extends (goal_edge hyps concl) values) h in
      (are_values binders bits goal.sorts, (edge.of_bits bits).0 holds)

  -- values that falsify the goal give values that satisfy the clauses
  pub satisfied : (values : List Val) → AreValues binders values → Falsifies hyps concl values → satisfies (node_values (input_bits values) (goal_edge hyps concl)) (goal_clauses hyps concl) ≡ true
  satisfied values are false_at = (satisfiable_exactly (goal_edge hyps concl)).where_true (input_bits values) ((edge.of_values values are).1 false_at)

  -- the same of clauses that are the goal's
  pub satisfiable_where_falsifiable : (cs : List (List Literal)) → cs ≡ goal_clauses hyps concl → IsSatisfiable cs ↔ IsFalsifiable binders hyps concl
  satisfiable_where_falsifiable cs are = (
    λ some. let p = falsified some.0 (rw are at some.1) in (_, p.0, p.1),
    λ some. (node_values (input_bits some.0) (goal_edge hyps concl), rw are (satisfied some.0 some.1 some.2)),
  )

  pub falsified_at : (cs : List (List Literal)) → cs ≡ goal_clauses hyps concl → (values : ℕ → Bool) → satisfies values cs ≡ true → IsRefutation binders hyps concl (goal_edge hyps concl) values
  falsified_at cs are values h = falsified values (rw are at h)
