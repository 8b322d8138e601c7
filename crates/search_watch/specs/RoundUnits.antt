-- A round: the unit clauses, in rising order.
use Rattle.std.specs.Prelude.{◌≡◌, ℕ, ◌+◌, true, List, map, Some, Contains}
use Rattle.std.specs.List.Sorted.{IsNonDecreasingBy}
use Rattle.std.specs.declared.option.Option.{Option}
use Rattle.search_learn.specs.declared.Step.{Step}
use Rattle.search_watch.specs.declared.watch.UnitClause.{UnitClause}
use Rattle.search_watch.specs.Watched.{IsAtMost, is_false}

-- their places don't fall
abbrev pub AreRising : List UnitClause → Type 0
AreRising us = IsNonDecreasingBy (λ u. u.clause) us

-- what a unit clause puts on the trail
abbrev pub entry : ℕ → UnitClause → Step
entry d u = record { lit = u.lit; level = d; reason = u.clause + 1 }

abbrev pub entries : ℕ → List UnitClause → List Step
entries d us = map (entry d) us

-- A unit clause at a place was made false by another one of its round.
abbrev pub IsBroken : List Step → List UnitClause → ℕ → Type 0
IsBroken t us i = (u : UnitClause) × Contains us u × (u.clause ≡ i) × (is_false t u.lit ≡ true)

-- the least of these places
pub record IsLeastBroken (t : List Step) (us : List UnitClause) (least : Option ℕ) : Type 0 where
  pub is : (i : ℕ) → least ≡ Some i → IsBroken t us i
  pub at_most : (i : ℕ) → IsBroken t us i → IsAtMost least i
