-- A trail with arrays by variable: the values and the levels.
use Rattle.std.specs.Prelude.{◌≡◌, ℕ, ◌-◌, ◌<◌, Bool, false, true, List, length, get_or, Some, None}
use Rattle.std.specs.declared.option.Option.{Option}
use Rattle.sat_form.specs.Literals.{Literal, same_sign}
use Rattle.search_learn.specs.declared.Step.{Step}
use Rattle.search_learn.specs.Rule.{IsTrail}
use Rattle.search_learn.specs.Trail.{is_true, is_assigned, level_of}

-- A trail over the variables 1 to vars, the oldest entry first.
pub record Entries : Type 0 where
  pub vars : ℕ
  pub steps : List Step

abbrev pub is_value : Option Bool → Bool → Bool
is_value None b = false
is_value (Some v) b = same_sign v b

-- values: that of each variable, from variable 1, where it is assigned
pub record AreValues (vars : ℕ) (values : List (Option Bool)) (trail : List Step) : Type 0 where
  pub size : length values ≡ vars
  pub each : (l : Literal) → 0 < l.var → is_value (get_or values (l.var - 1) None) l.positive ≡ is_true trail l

-- levels: that of each variable, from variable 1, where it is assigned; an unassigned variable may have any
pub record AreLevels (vars : ℕ) (levels : List ℕ) (trail : List Step) : Type 0 where
  pub size : length levels ≡ vars
  pub each : (l : Literal) → 0 < l.var → is_assigned trail l ≡ true → get_or levels (l.var - 1) 0 ≡ level_of trail l

-- What the type of a trail keeps.
pub record AreKept (vars : ℕ) (values : List (Option Bool)) (levels : List ℕ) (trail : List Step) : Type 0 where
  pub values_kept : AreValues vars values trail
  pub levels_kept : AreLevels vars levels trail

-- The trail is one of the machine, whatever its clauses are.
abbrev pub IsOfMachine : ℕ → List Step → Type 0
IsOfMachine vars trail = (clause_of : ℕ → List Literal) × IsTrail clause_of vars trail
