-- The cases of a step.
use Rattle.std.specs.Prelude.{◌≡◌, ℕ, false, None}
use Rattle.search_learn.specs.Cases.{IsConflict, IsRound}
use Rattle.search_learn.specs.Machine.{State, false_clause, has_unit, quietly, step}
use Rattle.search_learn.specs.declared.Turn.TheVariants.{Budget, More}
use Rattle.search_watch.specs.declared.Case.{Case}
use Rattle.search_watch.specs.declared.Case.TheVariants.{Ended, Spent, Conflict, Units, Quiet}

-- No clause is false.
pub record IsUnbroken (m : State) : Type 0 where
  pub before : m.end ≡ More
  pub none : false_clause m ≡ None

-- No clause is false, and none is unit.
pub record IsQuiet (m : State) : Type 0 where
  pub unbroken : IsUnbroken m
  pub unit : has_unit m ≡ false

-- which case a step is
abbrev pub IsCase : ℕ → State → Case → Type 0
IsCase budget m Ended = step budget m ≡ quietly m
IsCase budget m Spent = step budget m ≡ quietly (record m { end = Budget m.spent })
IsCase budget m (Conflict id) = IsConflict budget m id
IsCase budget m Units = IsRound budget m × IsUnbroken m
IsCase budget m Quiet = IsQuiet m
