-- The values of variables, some of which have none.
use Rattle.std.specs.Prelude.{◌≡◌, ℕ, Bool, if◌then◌else◌, nat_eq, nat_lt, length, Option, None, slice_index_or}
use Rattle.std.specs.Ordering.{nat_cmp}
use Rattle.std.specs.BTreeMap.{get}
use Rattle.lrat_judge.specs.declared.values.Values.{Values}

-- the value of a variable
abbrev pub value_in : Values → ℕ → Option Bool
value_in values var = if nat_lt var (length values.low.items) then slice_index_or values.low.items var None else get nat_cmp values.high var

-- one variable has this value then, and all others have theirs
abbrev pub Gets : (old new : ℕ → Option Bool) → ℕ → Option Bool → Type 0
Gets old new var value = (k : ℕ) → new k ≡ (if nat_eq k var then value else old k)
