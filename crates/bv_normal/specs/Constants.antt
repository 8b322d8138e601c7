-- Constants: which terms are some, and the constants that rules write.
use Rattle.std.specs.Prelude.{ℕ, zero, suc, ◌+◌, ◌^◌, ◌==◌, Bool, true, false, if◌then◌else◌, Option, Some, None, option_and_then}
use Rattle.bv_value.specs.BitVector.{of_number}
use Rattle.bv_expr.specs.declared.ops.Val.{Val}
use Rattle.bv_expr.specs.declared.ops.Val.TheVariants.{Truth, Vector}
use Rattle.bv_expr.specs.declared.ops.Sort.{Sort}
use Rattle.bv_expr.specs.declared.ops.Sort.TheVariants as sort
use Rattle.bv_expr.specs.Term.{Term, constant, truth}
use Rattle.bv_expr.specs.Sorts.{sort_of}

-- The constant of a value.
abbrev pub literal : Val → Term
literal (Vector v) = constant v
literal (Truth b) = truth b

abbrev pub is_constant : Term → Bool
is_constant (constant v) = true
is_constant (truth b) = true
is_constant _ = false

-- The number of a constant vector.
abbrev pub number : Term → Option ℕ
number (constant v) = Some v.number
number _ = None

-- The constant vector with this number.
abbrev pub is_number : ℕ → Term → Bool
is_number n (constant v) = v.number == n
is_number n _ = false

-- The constant vector whose bits are all ones.
abbrev pub is_all_ones : Term → Bool
is_all_ones (constant v) = v.number + 1 == 2 ^ v.width
is_all_ones _ = false

abbrev pub width_of_sort : Option Sort → ℕ
width_of_sort (Some (sort.Vector w)) = w
width_of_sort _ = 0

-- The width of a vector term.
abbrev pub width : Term → ℕ
width x = width_of_sort (sort_of x)

-- The constant vector of x's width with this number.
abbrev pub number_like : Term → ℕ → Term
number_like x n = constant (of_number (width x) n)

-- The k from 1 up to a bound of which the number is 2 ^ k.
unfoldable pub exponent_to : ℕ → ℕ → Option ℕ
exponent_to zero n = None
exponent_to (suc k) n = if n == 2 ^ suc k then Some (suc k) else exponent_to k n

-- The k of a constant vector with the number 2 ^ k, k at least 1.
abbrev pub exponent : Term → Option ℕ
exponent x = option_and_then (exponent_to 127) (number x)
