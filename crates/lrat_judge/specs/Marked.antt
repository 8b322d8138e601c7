-- Literals that are true, and the values that they give to variables.
use Rattle.std.specs.Prelude.{◌≡◌, ℕ, Bool, false, List, length, take, Option, None, Some, slice_index_or, ◌<◌}
use Rattle.sat_form.specs.Literals.{Literal, member, same_sign}
use Rattle.sat_form.specs.Assignment.{is_assigned}

-- a variable's value makes its literal of this sign true
abbrev pub makes_true : Option Bool → Bool → Bool
makes_true None positive = false
makes_true (Some value) positive = same_sign value positive

-- exactly these literals are true at the values
abbrev pub AreTrueAt : (ℕ → Option Bool) → List Literal → Type 0
AreTrueAt values trail = (var : ℕ) (positive : Bool) → makes_true (values var) positive ≡ member trail (record { var = var; positive = positive })

-- each literal was unassigned before it was made true
abbrev pub IsTrail : List Literal → Type 0
IsTrail trail = (k : ℕ) (d : Literal) → k < length trail → is_assigned (take k trail) (slice_index_or trail k d) ≡ false

-- the same literals are true
abbrev pub Same : List Literal → List Literal → Type 0
Same a b = (l : Literal) → member a l ≡ member b l
