-- How terms are typed: for each form, of which kinds its parts may be, and of which kind it then is.
use Rattle.std.specs.Prelude.{ℕ, ◌+◌, ◌-◌, ◌==◌, ◌&&◌, ◌||◌, nat_le, Bool, true, false, if◌then◌else◌, List, [], ◌∷◌, Option, Some, None, option_and_then}
use Rattle.bv_grammar.specs.declared.words.Word.{Word}
use Rattle.bv_grammar.specs.declared.words.Word.TheVariants as words
use Rattle.bv_expr.specs.declared.ops.Sort.{Sort}
use Rattle.bv_expr.specs.declared.ops.Sort.TheVariants.{Truth, Vector}
use Rattle.bv_expr.specs.declared.ops.Binary.{Binary}
use Rattle.bv_expr.specs.declared.ops.Binary.TheVariants as on
use Rattle.bv_expr.specs.Sorts.{binary_sort}
use Rattle.bv_typing.specs.declared.kind.Kind.{Kind}
use Rattle.bv_typing.specs.declared.kind.Kind.TheVariants as kind
use Rattle.bv_typing.specs.declared.kind.Row.{Row}
use Rattle.bv_typing.specs.declared.kind.Row.TheVariants as row
use Rattle.bv_typing.specs.declared.method.Method.{Method}
use Rattle.bv_typing.specs.declared.method.Method.TheVariants as method
use Rattle.bv_typing.specs.declared.method.Numbered.{Numbered}
use Rattle.bv_typing.specs.declared.method.Numbered.TheVariants as numbered

-- typed where there is a sort
abbrev pub sorted : Option Sort → Row
sorted None = row.Fails
sorted (Some s) = row.Typed (kind.Sorted s)

-- vectors of a width that an operator gives, which may be too great
abbrev pub resized : ℕ → Row
resized w = if nat_le 1 w && nat_le w 128 then row.Typed (kind.Sorted (Vector w)) else row.TooWide

-- a numeral is a bare term
abbrev pub as_term : Kind → Kind
as_term (kind.Number n) = kind.Bare
as_term k = k

-- ---- prefix operators

abbrev pub negation_row : Kind → Row
negation_row (kind.Sorted Truth) = row.Typed (kind.Sorted Truth)
negation_row _ = row.Fails

-- of a vector, or of a bare term
abbrev pub arithmetic_row : Kind → Row
arithmetic_row (kind.Sorted Truth) = row.Fails
arithmetic_row k = row.Typed (as_term k)

abbrev pub prefix_row : Word → Kind → Row
prefix_row words.Complement k = arithmetic_row k
prefix_row words.Minus k = arithmetic_row k
prefix_row words.Not k = negation_row k
prefix_row words.BoolNot k = negation_row k
prefix_row _ k = row.Fails

-- ---- infix operators

-- equality of truths, or of vectors
abbrev pub equality : Sort → Binary
equality Truth = on.TEq
equality (Vector w) = on.Eq

-- the node that an infix operator makes, where its first part has this sort
abbrev pub binary_of : Word → Sort → Option Binary
binary_of words.ShiftLeft s = Some on.Shl
binary_of words.ShiftRight s = Some on.Lshr
binary_of words.Times s = Some on.Mul
binary_of words.Divide s = Some on.Udiv
binary_of words.Modulo s = Some on.Umod
binary_of words.Plus s = Some on.Add
binary_of words.Minus s = Some on.Sub
binary_of words.Append s = Some on.Append
binary_of words.BitAnd s = Some on.And
binary_of words.BitXor s = Some on.Xor
binary_of words.BitOr s = Some on.Or
binary_of words.Equal s = Some (equality s)
binary_of words.NotEqual s = Some (equality s)
binary_of words.BoolEqual s = Some (equality s)
binary_of words.BoolNotEqual s = Some (equality s)
binary_of words.Less s = Some on.Ult
binary_of words.AtMost s = Some on.Ule
binary_of words.Greater s = Some on.Ult
binary_of words.AtLeast s = Some on.Ule
binary_of words.And s = Some on.TAnd
binary_of words.BoolAnd s = Some on.TAnd
binary_of words.BoolXor s = Some on.TXor
binary_of words.Or s = Some on.TOr
binary_of words.BoolOr s = Some on.TOr
binary_of words.Implies s = Some on.Implies
binary_of words.Iff s = Some on.TEq
binary_of _ s = None

-- the sort that its parts' sorts give; `>` and `≥` take both parts of one sort, so their order doesn't matter here
abbrev pub infix_sort : Word → Sort → Sort → Option Sort
infix_sort w s t = option_and_then (λ op. binary_sort op s t) (binary_of w s)

-- operators on two vectors of one width that give such a vector, and those that compare two of one width
abbrev pub is_arithmetic : Word → Bool
is_arithmetic words.Times = true
is_arithmetic words.Divide = true
is_arithmetic words.Modulo = true
is_arithmetic words.Plus = true
is_arithmetic words.Minus = true
is_arithmetic words.BitAnd = true
is_arithmetic words.BitXor = true
is_arithmetic words.BitOr = true
is_arithmetic _ = false

abbrev pub is_comparison : Word → Bool
is_comparison words.Equal = true
is_comparison words.NotEqual = true
is_comparison words.BoolEqual = true
is_comparison words.BoolNotEqual = true
is_comparison words.Less = true
is_comparison words.AtMost = true
is_comparison words.Greater = true
is_comparison words.AtLeast = true
is_comparison _ = false

-- a bare part beside a part of this sort is read at its width
abbrev pub beside_bare : Word → Sort → Row
beside_bare w Truth = row.Fails
beside_bare w (Vector v) = if is_arithmetic w || is_comparison w then sorted (infix_sort w (Vector v) (Vector v)) else row.Fails

abbrev pub both_bare : Word → Row
both_bare w = if is_arithmetic w then row.Typed kind.Bare else row.Fails

abbrev pub plain_row : Word → Kind → Kind → Row
plain_row w (kind.Sorted s) (kind.Sorted t) = sorted (infix_sort w s t)
plain_row w (kind.Sorted s) _ = beside_bare w s
plain_row w _ (kind.Sorted t) = beside_bare w t
plain_row w _ _ = both_bare w

-- the amount is a numeral, or a vector of any width
abbrev pub amount_row : Kind → Kind → Row
amount_row k (kind.Number n) = arithmetic_row k
amount_row k (kind.Sorted (Vector w)) = arithmetic_row k
amount_row k (kind.Sorted Truth) = row.Fails
amount_row k kind.Bare = row.Fails

abbrev pub append_row : Kind → Kind → Row
append_row (kind.Sorted (Vector v)) (kind.Sorted (Vector w)) = resized (v + w)
append_row _ _ = row.Fails

abbrev pub infix_row : Word → Kind → Kind → Row
infix_row words.ShiftLeft k l = amount_row k l
infix_row words.ShiftRight k l = amount_row k l
infix_row words.Append k l = append_row k l
infix_row w k l = plain_row w k l

-- ---- choices and ascriptions

abbrev pub branches_row : Kind → Kind → Row
branches_row (kind.Sorted Truth) (kind.Sorted Truth) = row.Typed (kind.Sorted Truth)
branches_row k l = plain_row words.Plus k l

abbrev pub choice_row : Kind → Kind → Kind → Row
choice_row (kind.Sorted Truth) k l = branches_row k l
choice_row _ k l = row.Fails

-- a term of the sort that is written, or a bare one that is read at its width
abbrev pub ascribed_row : Sort → Kind → Row
ascribed_row Truth (kind.Sorted Truth) = row.Typed (kind.Sorted Truth)
ascribed_row Truth _ = row.Fails
ascribed_row (Vector w) (kind.Sorted Truth) = row.Fails
ascribed_row (Vector w) (kind.Sorted (Vector v)) = if v == w then row.Typed (kind.Sorted (Vector w)) else row.Fails
ascribed_row (Vector w) _ = row.Typed (kind.Sorted (Vector w))

-- ---- methods

-- a vector of the receiver's width, or a bare term
abbrev pub argument_row : Binary → ℕ → Kind → Row
argument_row op w (kind.Sorted s) = sorted (binary_sort op (Vector w) s)
argument_row op w _ = sorted (binary_sort op (Vector w) (Vector w))

abbrev pub numbered_row : Numbered → ℕ → ℕ → Row
numbered_row numbered.AshrBy w n = row.Typed (kind.Sorted (Vector w))
numbered_row numbered.RotL w n = row.Typed (kind.Sorted (Vector w))
numbered_row numbered.RotR w n = row.Typed (kind.Sorted (Vector w))
numbered_row numbered.Bit w n = row.Typed (kind.Sorted Truth)
numbered_row numbered.SetWidth w n = resized n
numbered_row numbered.SignExtend w n = resized n

-- of a receiver of this width
abbrev pub arguments_row : Method → ℕ → List Kind → Row
arguments_row method.Msb w [] = row.Typed (kind.Sorted Truth)
arguments_row (method.With op) w (k ∷ []) = argument_row op w k
arguments_row method.ArithmeticShift w (kind.Sorted (Vector v) ∷ []) = row.Typed (kind.Sorted (Vector w))
arguments_row (method.By m) w (kind.Number n ∷ []) = numbered_row m w n
arguments_row method.Extract w (kind.Number start ∷ kind.Number len ∷ []) = resized len
arguments_row method.ExtractBetween w (kind.Number high ∷ kind.Number low ∷ []) = resized (high - low + 1)
arguments_row _ w _ = row.Fails

abbrev pub method_row : Option Method → Kind → List Kind → Row
method_row (Some m) (kind.Sorted (Vector w)) ks = arguments_row m w ks
method_row _ _ ks = row.Fails
