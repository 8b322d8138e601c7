-- What a goal states, apart from the proof that its terms fit its variables.
use Rattle.std.specs.Prelude.{ℕ, List, Option}
use Rattle.bv_expr.specs.Term.{Term}
use Rattle.bv_expr.specs.Goal.{Binders}
use Rattle.bv_expr.specs.declared.goal.Goal.{Goal}

-- a goal's name, its variables with their sorts, its hypotheses, its conclusion, and the file of a stored certificate
pub record Statement : Type 0 where
  pub name : List ℕ
  pub binders : Binders
  pub hyps : List Term
  pub concl : Term
  pub stored : Option (List ℕ)

abbrev pub statement_of : Goal → Statement
statement_of goal = record { name = goal.name; binders = goal.binders; hyps = goal.hyps; concl = goal.concl; stored = goal.stored }
