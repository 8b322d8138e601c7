-- Normal forms, computed by the definition.
use Rattle.std.proofs.Common.{◌≡◌, ℕ, true, refl}
use Rattle.bv_expr.specs.declared.ops.Unary.TheVariants as of
use Rattle.bv_expr.specs.declared.ops.Binary.TheVariants as on
use Rattle.bv_expr.specs.Term.{Term, constant, variable, truth, unary, binary, choice}
use Rattle.bv_normal.specs.Same.{same, same_unary, same_binary}
use Rattle.bv_normal.specs.Constants.{exponent_to}
use Rattle.bv_normal.specs.Fitting.{first_fit}
use Rattle.bv_normal.specs.Folding.{constant_parts, undone}
use Rattle.bv_normal.specs.Operands.{equal_cancelled, zero_dropped, zero_kept, one_dropped, ones_kept, equal_joined}
use Rattle.bv_normal.specs.Comparisons.{equal_holds, equal_fails}
use Rattle.bv_normal.specs.Shifts.{shift_by_constant, shift_by_nothing, shift_past_width}
use Rattle.bv_normal.specs.Choices.{decided_choice}
use Rattle.bv_normal.specs.Quotients.{product_by_power, division_by_zero, division_by_one, division_by_power}
use Rattle.bv_normal.specs.Widths.{same_width}
use Rattle.bv_normal.specs.Normal.{rewritten, normal}

x : Term
x = variable 0 8

n : ℕ → Term
n number = constant (record { width = 8; number = number })

-- a product by a power of two and a shift have one form
product : normal (binary on.Mul x (n 2)) ≡ unary (of.ShlBy 1) x
unfolding x n same same_unary same_binary exponent_to first_fit constant_parts undone equal_cancelled zero_dropped zero_kept one_dropped ones_kept equal_joined equal_holds equal_fails shift_by_constant shift_by_nothing shift_past_width decided_choice product_by_power division_by_zero division_by_one division_by_power same_width rewritten normal
product = refl

product_turned : normal (binary on.Mul (n 2) x) ≡ unary (of.ShlBy 1) x
unfolding x n same same_unary same_binary exponent_to first_fit constant_parts undone equal_cancelled zero_dropped zero_kept one_dropped ones_kept equal_joined equal_holds equal_fails shift_by_constant shift_by_nothing shift_past_width decided_choice product_by_power division_by_zero division_by_one division_by_power same_width rewritten normal
product_turned = refl

shift : normal (binary on.Shl x (n 1)) ≡ unary (of.ShlBy 1) x
unfolding x n same same_unary same_binary exponent_to first_fit constant_parts undone equal_cancelled zero_dropped zero_kept one_dropped ones_kept equal_joined equal_holds equal_fails shift_by_constant shift_by_nothing shift_past_width decided_choice product_by_power division_by_zero division_by_one division_by_power same_width rewritten normal
shift = refl

-- a rule is applied once: the shift by 0 that a shift became stays
shift_by_zero : normal (binary on.Shl x (n 0)) ≡ unary (of.ShlBy 0) x
unfolding x n same same_unary same_binary exponent_to first_fit constant_parts undone equal_cancelled zero_dropped zero_kept one_dropped ones_kept equal_joined equal_holds equal_fails shift_by_constant shift_by_nothing shift_past_width decided_choice product_by_power division_by_zero division_by_one division_by_power same_width rewritten normal
shift_by_zero = refl

-- where several rules fit, the first decides: constants come first, and 1 before powers of two
constants_first : normal (binary on.Shl (n 1) (n 3)) ≡ n 8
unfolding x n same same_unary same_binary exponent_to first_fit constant_parts undone equal_cancelled zero_dropped zero_kept one_dropped ones_kept equal_joined equal_holds equal_fails shift_by_constant shift_by_nothing shift_past_width decided_choice product_by_power division_by_zero division_by_one division_by_power same_width rewritten normal
constants_first = refl

product_of_constants : normal (binary on.Mul (n 3) (n 2)) ≡ n 6
unfolding x n same same_unary same_binary exponent_to first_fit constant_parts undone equal_cancelled zero_dropped zero_kept one_dropped ones_kept equal_joined equal_holds equal_fails shift_by_constant shift_by_nothing shift_past_width decided_choice product_by_power division_by_zero division_by_one division_by_power same_width rewritten normal
product_of_constants = refl

remainder_of_constants : normal (binary on.Umod (n 7) (n 0)) ≡ n 7
unfolding x n same same_unary same_binary exponent_to first_fit constant_parts undone equal_cancelled zero_dropped zero_kept one_dropped ones_kept equal_joined equal_holds equal_fails shift_by_constant shift_by_nothing shift_past_width decided_choice product_by_power division_by_zero division_by_one division_by_power same_width rewritten normal
remainder_of_constants = refl

one_first : normal (binary on.Mul x (n 1)) ≡ x
unfolding x n same same_unary same_binary exponent_to first_fit constant_parts undone equal_cancelled zero_dropped zero_kept one_dropped ones_kept equal_joined equal_holds equal_fails shift_by_constant shift_by_nothing shift_past_width decided_choice product_by_power division_by_zero division_by_one division_by_power same_width rewritten normal
one_first = refl

-- parts come first
parts_first : normal (binary on.Add x (binary on.Sub (variable 1 8) (variable 1 8))) ≡ x
unfolding x n same same_unary same_binary exponent_to first_fit constant_parts undone equal_cancelled zero_dropped zero_kept one_dropped ones_kept equal_joined equal_holds equal_fails shift_by_constant shift_by_nothing shift_past_width decided_choice product_by_power division_by_zero division_by_one division_by_power same_width rewritten normal
parts_first = refl

parts_then_node : normal (unary of.Not (unary of.Not (binary on.Or x (n 0)))) ≡ x
unfolding x n same same_unary same_binary exponent_to first_fit constant_parts undone equal_cancelled zero_dropped zero_kept one_dropped ones_kept equal_joined equal_holds equal_fails shift_by_constant shift_by_nothing shift_past_width decided_choice product_by_power division_by_zero division_by_one division_by_power same_width rewritten normal
parts_then_node = refl

-- quotients and remainders
quotient_by_zero : normal (binary on.Udiv x (n 0)) ≡ n 0
unfolding x n same same_unary same_binary exponent_to first_fit constant_parts undone equal_cancelled zero_dropped zero_kept one_dropped ones_kept equal_joined equal_holds equal_fails shift_by_constant shift_by_nothing shift_past_width decided_choice product_by_power division_by_zero division_by_one division_by_power same_width rewritten normal
quotient_by_zero = refl

remainder_by_zero : normal (binary on.Umod x (n 0)) ≡ x
unfolding x n same same_unary same_binary exponent_to first_fit constant_parts undone equal_cancelled zero_dropped zero_kept one_dropped ones_kept equal_joined equal_holds equal_fails shift_by_constant shift_by_nothing shift_past_width decided_choice product_by_power division_by_zero division_by_one division_by_power same_width rewritten normal
remainder_by_zero = refl

quotient_by_power : normal (binary on.Udiv x (n 4)) ≡ unary (of.LshrBy 2) x
unfolding x n same same_unary same_binary exponent_to first_fit constant_parts undone equal_cancelled zero_dropped zero_kept one_dropped ones_kept equal_joined equal_holds equal_fails shift_by_constant shift_by_nothing shift_past_width decided_choice product_by_power division_by_zero division_by_one division_by_power same_width rewritten normal
quotient_by_power = refl

remainder_by_power : normal (binary on.Umod x (n 8)) ≡ binary on.And x (n 7)
unfolding x n same same_unary same_binary exponent_to first_fit constant_parts undone equal_cancelled zero_dropped zero_kept one_dropped ones_kept equal_joined equal_holds equal_fails shift_by_constant shift_by_nothing shift_past_width decided_choice product_by_power division_by_zero division_by_one division_by_power same_width rewritten normal
remainder_by_power = refl

-- comparisons, choices and widths
equal : normal (binary on.Ule (binary on.Add x (n 3)) (binary on.Add x (n 3))) ≡ truth true
unfolding x n same same_unary same_binary exponent_to first_fit constant_parts undone equal_cancelled zero_dropped zero_kept one_dropped ones_kept equal_joined equal_holds equal_fails shift_by_constant shift_by_nothing shift_past_width decided_choice product_by_power division_by_zero division_by_one division_by_power same_width rewritten normal
equal = refl

chosen : normal (choice (binary on.Eq x x) (variable 1 8) (n 0)) ≡ variable 1 8
unfolding x n same same_unary same_binary exponent_to first_fit constant_parts undone equal_cancelled zero_dropped zero_kept one_dropped ones_kept equal_joined equal_holds equal_fails shift_by_constant shift_by_nothing shift_past_width decided_choice product_by_power division_by_zero division_by_one division_by_power same_width rewritten normal
chosen = refl

turned_whole : normal (unary (of.RotL 16) x) ≡ x
unfolding x n same same_unary same_binary exponent_to first_fit constant_parts undone equal_cancelled zero_dropped zero_kept one_dropped ones_kept equal_joined equal_holds equal_fails shift_by_constant shift_by_nothing shift_past_width decided_choice product_by_power division_by_zero division_by_one division_by_power same_width rewritten normal
turned_whole = refl

past_width : normal (unary (of.LshrBy 8) x) ≡ n 0
unfolding x n same same_unary same_binary exponent_to first_fit constant_parts undone equal_cancelled zero_dropped zero_kept one_dropped ones_kept equal_joined equal_holds equal_fails shift_by_constant shift_by_nothing shift_past_width decided_choice product_by_power division_by_zero division_by_one division_by_power same_width rewritten normal
past_width = refl

width_kept : normal (unary (of.SetWidth 8) x) ≡ x
unfolding x n same same_unary same_binary exponent_to first_fit constant_parts undone equal_cancelled zero_dropped zero_kept one_dropped ones_kept equal_joined equal_holds equal_fails shift_by_constant shift_by_nothing shift_past_width decided_choice product_by_power division_by_zero division_by_one division_by_power same_width rewritten normal
width_kept = refl

stays : normal (binary on.Mul x (n 6)) ≡ binary on.Mul x (n 6)
unfolding x n same same_unary same_binary exponent_to first_fit constant_parts undone equal_cancelled zero_dropped zero_kept one_dropped ones_kept equal_joined equal_holds equal_fails shift_by_constant shift_by_nothing shift_past_width decided_choice product_by_power division_by_zero division_by_one division_by_power same_width rewritten normal
stays = refl
