-- At which sort a kind is read, and the sorts of terms.
use Rattle.std.specs.Prelude.{◌≡◌, ℕ, ◌≤◌, Some}
use Rattle.bv_expr.specs.declared.ops.Sort.{Sort}
use Rattle.bv_expr.specs.declared.ops.Sort.TheVariants.{Vector}
use Rattle.bv_expr.specs.Term.{Term}
use Rattle.bv_expr.specs.Sorts.{sort_of}
use Rattle.bv_typing.specs.declared.kind.Kind.{Kind}
use Rattle.bv_typing.specs.declared.kind.Kind.TheVariants as kind
use Rattle.bv_typing.specs.Readings.{Env, variable_at}

abbrev pub IsWidth : ℕ → Type 0
IsWidth w = (1 ≤ w) × (w ≤ 128)

-- the sort as which a kind is read at a width
abbrev pub read : ℕ → Kind → Sort
read w (kind.Sorted s) = s
read w kind.Bare = Vector w
read w (kind.Number n) = Vector w

-- a bare term is read at a width
abbrev pub Readable : ℕ → Kind → Type 0
Readable w (kind.Sorted s) = Unit {0}
Readable w kind.Bare = IsWidth w
Readable w (kind.Number n) = IsWidth w

-- a part whose term, read at a width, has its sort there
abbrev pub Sorts : (ℕ → Term) → Kind → Type 0
Sorts f k = (v : ℕ) → Readable v k → sort_of (f v) ≡ Some (read v k)

-- the variables' sorts have widths of 1 to 128
abbrev pub Bounded : Env → Type 0
Bounded e = (i k u : ℕ) → variable_at e i ≡ Some (k, Some (Vector u)) → IsWidth u
