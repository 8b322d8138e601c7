-- The log of a search.
use Rattle.std.specs.Prelude.{ℕ, List}
use Rattle.sat_form.specs.Literals.{Literal}

-- A line of a log: a learnt clause with its id, and the ids of the clauses that it follows from by unit propagation,
-- in the order in which they become unit, the false one last (LRAT's hints).
pub record Logged : Type 0 where
  pub id : ℕ
  pub lits : List Literal
  pub hints : List ℕ
