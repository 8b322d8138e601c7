-- The sort of a term, and which terms have one.
use Rattle.std.specs.Prelude.{ℕ, ◌+◌, ◌<◌, ◌≤◌, ◌≡◌, ◌&&◌, ◌==◌, nat_le, if◌then◌else◌, Option, Some, None, IsSome, option_and_then}
use Rattle.bv_value.specs.BitVector.{IsBitVector}
use Rattle.bv_expr.specs.declared.ops.Unary.{Unary}
use Rattle.bv_expr.specs.declared.ops.Unary.TheVariants as of
use Rattle.bv_expr.specs.declared.ops.Binary.{Binary}
use Rattle.bv_expr.specs.declared.ops.Binary.TheVariants as on
use Rattle.bv_expr.specs.declared.ops.Sort.{Sort}
use Rattle.bv_expr.specs.declared.ops.Sort.TheVariants.{Truth, Vector}
use Rattle.bv_expr.specs.Term.{Term, constant, variable, truth, truth_variable, unary, binary, choice, truth_choice, depth}

-- The sort of vectors of this width, where it is 1 to 128.
abbrev pub vectors : ℕ → Option Sort
vectors w = if nat_le 1 w && nat_le w 128 then Some (Vector w) else None

-- This sort, where two widths are equal.
abbrev pub where_equal : ℕ → ℕ → Sort → Option Sort
where_equal v w s = if v == w then Some s else None

-- The sort that an operator on one part gives.
abbrev pub unary_sort : Unary → Sort → Option Sort
unary_sort of.TNot Truth = Some Truth
unary_sort op Truth = None
unary_sort of.Not (Vector w) = Some (Vector w)
unary_sort of.Neg (Vector w) = Some (Vector w)
unary_sort of.Msb (Vector w) = Some Truth
unary_sort of.TNot (Vector w) = None
unary_sort (of.ShlBy n) (Vector w) = Some (Vector w)
unary_sort (of.LshrBy n) (Vector w) = Some (Vector w)
unary_sort (of.AshrBy n) (Vector w) = Some (Vector w)
unary_sort (of.RotL n) (Vector w) = Some (Vector w)
unary_sort (of.RotR n) (Vector w) = Some (Vector w)
unary_sort (of.Bit i) (Vector w) = Some Truth
unary_sort (of.Extract start len) (Vector w) = vectors len
unary_sort (of.SetWidth v) (Vector w) = vectors v
unary_sort (of.SignExtend v) (Vector w) = vectors v

-- The sort that an operator on two vectors gives.
abbrev pub vector_sort : Binary → ℕ → ℕ → Option Sort
vector_sort on.And v w = where_equal v w (Vector v)
vector_sort on.Or v w = where_equal v w (Vector v)
vector_sort on.Xor v w = where_equal v w (Vector v)
vector_sort on.Add v w = where_equal v w (Vector v)
vector_sort on.Sub v w = where_equal v w (Vector v)
vector_sort on.Mul v w = where_equal v w (Vector v)
vector_sort on.Udiv v w = where_equal v w (Vector v)
vector_sort on.Umod v w = where_equal v w (Vector v)
vector_sort on.Sdiv v w = where_equal v w (Vector v)
vector_sort on.Srem v w = where_equal v w (Vector v)
vector_sort on.Smod v w = where_equal v w (Vector v)
vector_sort on.Append v w = vectors (v + w)
vector_sort on.Shl v w = Some (Vector v)
vector_sort on.Lshr v w = Some (Vector v)
vector_sort on.Ashr v w = Some (Vector v)
vector_sort on.Eq v w = where_equal v w Truth
vector_sort on.Ult v w = where_equal v w Truth
vector_sort on.Ule v w = where_equal v w Truth
vector_sort on.Slt v w = where_equal v w Truth
vector_sort on.Sle v w = where_equal v w Truth
vector_sort on.TAnd v w = None
vector_sort on.TOr v w = None
vector_sort on.TXor v w = None
vector_sort on.Implies v w = None
vector_sort on.TEq v w = None

-- The sort that an operator on two truths gives.
abbrev pub truth_sort : Binary → Option Sort
truth_sort on.TAnd = Some Truth
truth_sort on.TOr = Some Truth
truth_sort on.TXor = Some Truth
truth_sort on.Implies = Some Truth
truth_sort on.TEq = Some Truth
truth_sort _ = None

-- The sort that an operator on two parts gives.
abbrev pub binary_sort : Binary → Sort → Sort → Option Sort
binary_sort op Truth Truth = truth_sort op
binary_sort op (Vector v) (Vector w) = vector_sort op v w
binary_sort op Truth (Vector w) = None
binary_sort op (Vector v) Truth = None

-- The sort of a choice between two vectors, and of one between two truths.
abbrev pub choice_sort : Sort → Sort → Sort → Option Sort
choice_sort Truth (Vector v) (Vector w) = where_equal v w (Vector v)
choice_sort _ _ _ = None

abbrev pub truth_choice_sort : Sort → Sort → Sort → Option Sort
truth_choice_sort Truth Truth Truth = Some Truth
truth_choice_sort _ _ _ = None

-- The sort of a term, or none where the sorts and widths of its parts do not fit.
abbrev pub sort_of : Term → Option Sort
sort_of (constant v) = vectors v.width
sort_of (variable k w) = vectors w
sort_of (truth b) = Some Truth
sort_of (truth_variable k) = Some Truth
sort_of (unary op x) = option_and_then (unary_sort op) (sort_of x)
sort_of (binary op x y) = option_and_then (λ s. option_and_then (binary_sort op s) (sort_of y)) (sort_of x)
sort_of (choice c x y) = option_and_then (λ r. option_and_then (λ s. option_and_then (choice_sort r s) (sort_of y)) (sort_of x)) (sort_of c)
sort_of (truth_choice c x y) = option_and_then (λ r. option_and_then (λ s. option_and_then (truth_choice_sort r s) (sort_of y)) (sort_of x)) (sort_of c)

-- All constants are bit vectors, and all variables have numbers below 64.
abbrev pub LeavesFit : Term → Type 0
LeavesFit (constant v) = IsBitVector v
LeavesFit (variable k w) = k < 64
LeavesFit (truth b) = Unit {0}
LeavesFit (truth_variable k) = k < 64
LeavesFit (unary op x) = LeavesFit x
LeavesFit (binary op x y) = LeavesFit x × LeavesFit y
LeavesFit (choice c x y) = LeavesFit c × LeavesFit x × LeavesFit y
LeavesFit (truth_choice c x y) = LeavesFit c × LeavesFit x × LeavesFit y

-- What holds of every expression.
pub record IsExpr (t : Term) : Type 0 where
  pub sorted : IsSome (sort_of t)
  pub leaves : LeavesFit t
  pub shallow : depth t ≤ 1000

-- What an expression keeps beside its node.
pub record IsKept (t : Term) (s : Sort) (d : ℕ) : Type 0 where
  pub expr : IsExpr t
  pub sort_is : sort_of t ≡ Some s
  pub depth_is : d ≡ depth t

-- The number that a node itself keeps of a variable is below 64.
abbrev pub KeepsNumberBelow64 : Term → Type 0
KeepsNumberBelow64 (constant v) = Unit {0}
KeepsNumberBelow64 (variable k w) = k < 64
KeepsNumberBelow64 (truth b) = Unit {0}
KeepsNumberBelow64 (truth_variable k) = k < 64
KeepsNumberBelow64 (unary op x) = Unit {0}
KeepsNumberBelow64 (binary op x y) = Unit {0}
KeepsNumberBelow64 (choice c x y) = Unit {0}
KeepsNumberBelow64 (truth_choice c x y) = Unit {0}
