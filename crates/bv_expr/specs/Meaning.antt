-- What a term means at values of its variables: the operators of Lean 4's `BitVec` and `Bool`.
use Rattle.std.specs.Prelude.{Bool, false, not, ◌&&◌, ◌||◌, ◌==◌, List, slice_index_or, slice_get, Some, option_map, ◌≡◌, if◌then◌else◌}
use Rattle.bv_value.specs.BitVector.{BitVector, of_number}
use Rattle.bv_value.specs.Bits.{differ}
use Rattle.bv_value.specs.Operations as is
use Rattle.bv_expr.specs.declared.ops.Unary.{Unary}
use Rattle.bv_expr.specs.declared.ops.Unary.TheVariants as of
use Rattle.bv_expr.specs.declared.ops.Binary.{Binary}
use Rattle.bv_expr.specs.declared.ops.Binary.TheVariants as on
use Rattle.bv_expr.specs.declared.ops.Sort.{Sort}
use Rattle.bv_expr.specs.declared.ops.Sort.TheVariants as sort
use Rattle.bv_expr.specs.declared.ops.Val.{Val}
use Rattle.bv_expr.specs.declared.ops.Val.TheVariants.{Truth, Vector}
use Rattle.bv_expr.specs.Term.{Term, constant, variable, truth, truth_variable, unary, binary, choice, truth_choice}

-- The sort of a value.
abbrev pub sort_of_value : Val → Sort
sort_of_value (Truth b) = sort.Truth
sort_of_value (Vector x) = sort.Vector x.width

-- The bit vector of a value. Of a truth it is a zero, which no fitting term asks for, as `is_true` of a vector.
abbrev pub vector : Val → BitVector
vector (Vector x) = x
vector (Truth b) = of_number 1 0

-- The truth of a value.
abbrev pub is_true : Val → Bool
is_true (Truth b) = b
is_true (Vector x) = false

-- What an operator on one part gives.
abbrev pub unary_value : Unary → Val → Val
unary_value of.Not a = Vector (is.bitwise_not (vector a))
unary_value of.Neg a = Vector (is.neg (vector a))
unary_value of.Msb a = Truth (is.msb (vector a))
unary_value of.TNot a = Truth (not (is_true a))
unary_value (of.ShlBy n) a = Vector (is.shl_by (vector a) n)
unary_value (of.LshrBy n) a = Vector (is.lshr_by (vector a) n)
unary_value (of.AshrBy n) a = Vector (is.ashr_by (vector a) n)
unary_value (of.RotL n) a = Vector (is.rotl (vector a) n)
unary_value (of.RotR n) a = Vector (is.rotr (vector a) n)
unary_value (of.Bit i) a = Truth (is.bit (vector a) i)
unary_value (of.Extract start len) a = Vector (is.extract (vector a) start len)
unary_value (of.SetWidth v) a = Vector (is.set_width (vector a) v)
unary_value (of.SignExtend v) a = Vector (is.sign_extend (vector a) v)

-- What an operator on two parts gives.
abbrev pub binary_value : Binary → Val → Val → Val
binary_value on.And a b = Vector (is.bitwise_and (vector a) (vector b))
binary_value on.Or a b = Vector (is.bitwise_or (vector a) (vector b))
binary_value on.Xor a b = Vector (is.bitwise_xor (vector a) (vector b))
binary_value on.Add a b = Vector (is.add (vector a) (vector b))
binary_value on.Sub a b = Vector (is.sub (vector a) (vector b))
binary_value on.Mul a b = Vector (is.mul (vector a) (vector b))
binary_value on.Udiv a b = Vector (is.udiv (vector a) (vector b))
binary_value on.Umod a b = Vector (is.umod (vector a) (vector b))
binary_value on.Sdiv a b = Vector (is.sdiv (vector a) (vector b))
binary_value on.Srem a b = Vector (is.srem (vector a) (vector b))
binary_value on.Smod a b = Vector (is.smod (vector a) (vector b))
binary_value on.Append a b = Vector (is.append (vector a) (vector b))
binary_value on.Shl a b = Vector (is.shl_by (vector a) (vector b).number)
binary_value on.Lshr a b = Vector (is.lshr_by (vector a) (vector b).number)
binary_value on.Ashr a b = Vector (is.ashr_by (vector a) (vector b).number)
binary_value on.Eq a b = Truth ((vector a).number == (vector b).number)
binary_value on.Ult a b = Truth (is.ult (vector a) (vector b))
binary_value on.Ule a b = Truth (is.ule (vector a) (vector b))
binary_value on.Slt a b = Truth (is.slt (vector a) (vector b))
binary_value on.Sle a b = Truth (is.sle (vector a) (vector b))
binary_value on.TAnd a b = Truth (is_true a && is_true b)
binary_value on.TOr a b = Truth (is_true a || is_true b)
binary_value on.TXor a b = Truth (differ (is_true a) (is_true b))
binary_value on.Implies a b = Truth (not (is_true a) || is_true b)
binary_value on.TEq a b = Truth (not (differ (is_true a) (is_true b)))

-- The meaning of a term at values, one for each variable by its number.
abbrev pub meaning : Term → List Val → Val
meaning (constant v) values = Vector v
meaning (variable k w) values = slice_index_or values k (Vector (of_number w 0))
meaning (truth b) values = Truth b
meaning (truth_variable k) values = slice_index_or values k (Truth false)
meaning (unary op x) values = unary_value op (meaning x values)
meaning (binary op x y) values = binary_value op (meaning x values) (meaning y values)
meaning (choice c x y) values = if is_true (meaning c values) then meaning x values else meaning y values
meaning (truth_choice c x y) values = if is_true (meaning c values) then meaning x values else meaning y values

-- Each variable of the term has a value of its sort.
abbrev pub HasValues : List Val → Term → Type 0
HasValues values (constant v) = Unit {0}
HasValues values (variable k w) = option_map sort_of_value (slice_get values k) ≡ Some (sort.Vector w)
HasValues values (truth b) = Unit {0}
HasValues values (truth_variable k) = option_map sort_of_value (slice_get values k) ≡ Some sort.Truth
HasValues values (unary op x) = HasValues values x
HasValues values (binary op x y) = HasValues values x × HasValues values y
HasValues values (choice c x y) = HasValues values c × HasValues values x × HasValues values y
HasValues values (truth_choice c x y) = HasValues values c × HasValues values x × HasValues values y
