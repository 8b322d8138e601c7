-- An edge that is true where the normal form of a goal is falsified is true where the goal is.
use Rattle.std.proofs.Common.{List, IsTrue, Result, Ok, Err}
use Rattle.std.specs.Prelude.{IfOk, All}
use Rattle.gate_shape.specs.Literal.{Literal}
use Rattle.gate_shape.specs.Builds.{Meaning, edge}
use Rattle.gate_shape.specs.declared.builder.GateStop.{GateStop}
use Rattle.bv_expr.specs.Term.{Term}
use Rattle.bv_expr.specs.Goal.{Binders, is_sort}
use Rattle.bv_normal.specs.Goals.{FalsifiedAlike}
use Rattle.blast_goal.specs.Values.{values_of}
use Rattle.blast_goal.specs.Falsified.{IsTrueWhereFalsified, IsTrueWhereBitsFalsify}
use Rattle.blast_goal.proofs.Reading.{are_values}

module _ (binders : Binders) (hyps others : List Term) (concl other : Term) (alike : FalsifiedAlike binders hyps concl others other) (m : Meaning) where
  pub value_of_goal : (r : Result Literal GateStop) → IfOk r (λ l. IsTrueWhereFalsified binders others other (edge m l)) → IfOk r (λ l. IsTrueWhereFalsified binders hyps concl (edge m l))
  value_of_goal (Ok l) h = λ values are.
      let p = h values are in
      let q = alike values are in (λ e. q.0 (p.0 e), λ f. p.1 (q.1 f))
  value_of_goal (Err e) h = tt

  pub read_of_goal : All (λ b. IsTrue (is_sort b.1)) binders → (r : Result Literal GateStop) → IfOk r (λ l. IsTrueWhereBitsFalsify binders others other (edge m l)) → IfOk r (λ l. IsTrueWhereBitsFalsify binders hyps concl (edge m l))
  read_of_goal sorts (Ok l) h = λ bits.
      let p = h bits in
      let q = alike (values_of binders bits) (are_values binders bits sorts) in (λ e. q.0 (p.0 e), λ f. p.1 (q.1 f))
  read_of_goal sorts (Err e) h = tt
