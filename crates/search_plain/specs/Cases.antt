-- The cases of a step.
use Rattle.std.specs.Prelude.{◌≡◌, ℕ}
use Rattle.search_learn.specs.Cases.{IsConflict, IsRound, IsChoice}
use Rattle.search_learn.specs.Machine.{State, quietly, step}
use Rattle.search_learn.specs.declared.Turn.TheVariants.{Sat, Budget}
use Rattle.search_plain.specs.declared.Case.{Case}
use Rattle.search_plain.specs.declared.Case.TheVariants.{Ended, Solved, Spent, Conflict, Units, Choice}

-- which case a step is
abbrev pub IsCase : ℕ → State → Case → Type 0
IsCase budget m Ended = step budget m ≡ quietly m
IsCase budget m Solved = step budget m ≡ quietly (record m { end = Sat })
IsCase budget m Spent = step budget m ≡ quietly (record m { end = Budget m.spent })
IsCase budget m (Conflict id) = IsConflict budget m id
IsCase budget m Units = IsRound budget m
IsCase budget m Choice = IsChoice budget m
