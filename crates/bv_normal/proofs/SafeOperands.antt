-- The rules on operands that are 0, 1, all ones, or equal keep sort, depth and meaning.
use Rattle.std.proofs.Common.{◌≡◌, true, List, Some, sym, ◌∙◌, ap}
use Rattle.bv_value.specs.BitVector.{BitVector, IsBitVector, of_number}
use Rattle.bv_value.proofs.Results.{add_zero}
use Rattle.bv_expr.specs.declared.ops.Binary.{Binary}
use Rattle.bv_expr.specs.declared.ops.Binary.TheVariants as on
use Rattle.bv_expr.specs.declared.ops.Val.{Val}
use Rattle.bv_expr.specs.Term.{Term, binary}
use Rattle.bv_expr.specs.Meaning.{vector, meaning}
use Rattle.bv_normal.specs.Same.{same}
use Rattle.bv_normal.specs.Constants.{is_number, is_all_ones, number_like}
use Rattle.bv_normal.specs.Fitting.{gives}
use Rattle.bv_normal.specs.Operands.{equal_cancelled, zero_dropped, zero_kept, one_dropped, ones_kept, equal_joined}
use Rattle.bv_normal.proofs.Equality.{same_is}
use Rattle.bv_normal.proofs.Laws as law
use Rattle.bv_normal.proofs.Knowing.{number_known, ones_known, given, beside_cases, one_cases}
use Rattle.bv_normal.proofs.Keeping.{Keeps, Fits, Safe}
use Rattle.bv_normal.proofs.Operators.{word, VectorOp, left_by, right_by, number_by, add, sub, mul, conjunction, disjunction, exclusive}

-- the meanings of equal parts
pub meaning_same : (x y : Term) (values : List Val) → same x y ≡ true → vector (meaning y values) ≡ vector (meaning x values)
meaning_same x y values e = ap (λ t. vector (meaning t values)) (sym (same_is x y e))

equal_number : {op : Binary} {f : BitVector → BitVector → BitVector} → VectorOp op f → (x y u : Term) → Fits (binary op x y) → ((a : BitVector) → IsBitVector a → f a a ≡ of_number a.width 0) → gives (same x y) (number_like x 0) ≡ Some u → Keeps (binary op x y) u
equal_number {op} {f} o x y u fit l e =
    let g = given (same x y) (number_like x 0) u e in
    rw (← g.1) (number_by o x y 0 fit (λ values w. ap (f (vector (meaning x values))) (meaning_same x y values g.0) ∙ l (vector (meaning x values)) w.left))

pub equal_cancelled_safe : Safe equal_cancelled
unfolding equal_cancelled
equal_cancelled_safe (binary on.Sub x y) u fit e = equal_number sub x y u fit (λ a v. law.sub_self a) e
equal_cancelled_safe (binary on.Xor x y) u fit e = equal_number exclusive x y u fit law.xor_self_zero e
equal_cancelled_safe t u fit e = cc

pub zero_dropped_safe : Safe zero_dropped
unfolding zero_dropped
zero_dropped_safe (binary on.Add x y) u fit e = beside_cases (Keeps (binary on.Add x y)) (is_number 0) x y u e
    (λ z. left_by add x y fit (λ values w. add_zero (word x values) (word y values) w.left (number_known 0 y values z)))
    (λ z. right_by add x y fit (λ values w. law.add_turned (word x values) (word y values) w.widths ∙ add_zero (word y values) (word x values) w.right (number_known 0 x values z)))
zero_dropped_safe (binary on.Or x y) u fit e = beside_cases (Keeps (binary on.Or x y)) (is_number 0) x y u e
    (λ z. left_by disjunction x y fit (λ values w. law.or_zero (word x values) (word y values) w.left w.right w.widths (number_known 0 y values z)))
    (λ z. right_by disjunction x y fit (λ values w. law.or_turned (word x values) (word y values) w.widths ∙ law.or_zero (word y values) (word x values) w.right w.left (sym w.widths) (number_known 0 x values z)))
zero_dropped_safe (binary on.Xor x y) u fit e = beside_cases (Keeps (binary on.Xor x y)) (is_number 0) x y u e
    (λ z. left_by exclusive x y fit (λ values w. law.xor_zero (word x values) (word y values) w.left w.right w.widths (number_known 0 y values z)))
    (λ z. right_by exclusive x y fit (λ values w. law.xor_turned (word x values) (word y values) w.widths ∙ law.xor_zero (word y values) (word x values) w.right w.left (sym w.widths) (number_known 0 x values z)))
zero_dropped_safe (binary on.Sub x y) u fit e =
    let g = given (is_number 0 y) x u e in
    rw (← g.1) (left_by sub x y fit (λ values w. law.sub_zero (word x values) (word y values) w.left (number_known 0 y values g.0)))
zero_dropped_safe t u fit e = cc

pub zero_kept_safe : Safe zero_kept
unfolding zero_kept
zero_kept_safe (binary on.And x y) u fit e = one_cases (Keeps (binary on.And x y)) (is_number 0) x y u e
    (λ z. right_by conjunction x y fit (λ values w. law.and_zero (word x values) (word y values) w.left w.right w.widths (number_known 0 y values z)))
    (λ z. left_by conjunction x y fit (λ values w. law.and_turned (word x values) (word y values) w.widths ∙ law.and_zero (word y values) (word x values) w.right w.left (sym w.widths) (number_known 0 x values z)))
zero_kept_safe (binary on.Mul x y) u fit e = one_cases (Keeps (binary on.Mul x y)) (is_number 0) x y u e
    (λ z. right_by mul x y fit (λ values w. law.mul_zero (word x values) (word y values) w.widths (number_known 0 y values z)))
    (λ z. left_by mul x y fit (λ values w. law.mul_turned (word x values) (word y values) w.widths ∙ law.mul_zero (word y values) (word x values) (sym w.widths) (number_known 0 x values z)))
zero_kept_safe t u fit e = cc

pub one_dropped_safe : Safe one_dropped
unfolding one_dropped
one_dropped_safe (binary on.And x y) u fit e = beside_cases (Keeps (binary on.And x y)) is_all_ones x y u e
    (λ z. left_by conjunction x y fit (λ values w. law.and_ones (word x values) (word y values) w.left w.right w.widths (ones_known y values z)))
    (λ z. right_by conjunction x y fit (λ values w. law.and_turned (word x values) (word y values) w.widths ∙ law.and_ones (word y values) (word x values) w.right w.left (sym w.widths) (ones_known x values z)))
one_dropped_safe (binary on.Mul x y) u fit e = beside_cases (Keeps (binary on.Mul x y)) (is_number 1) x y u e
    (λ z. left_by mul x y fit (λ values w. law.mul_one (word x values) (word y values) w.left (number_known 1 y values z)))
    (λ z. right_by mul x y fit (λ values w. law.mul_turned (word x values) (word y values) w.widths ∙ law.mul_one (word y values) (word x values) w.right (number_known 1 x values z)))
one_dropped_safe t u fit e = cc

pub ones_kept_safe : Safe ones_kept
unfolding ones_kept
ones_kept_safe (binary on.Or x y) u fit e = one_cases (Keeps (binary on.Or x y)) is_all_ones x y u e
    (λ z. right_by disjunction x y fit (λ values w. law.or_ones (word x values) (word y values) w.left w.right w.widths (ones_known y values z)))
    (λ z. left_by disjunction x y fit (λ values w. law.or_turned (word x values) (word y values) w.widths ∙ law.or_ones (word y values) (word x values) w.right w.left (sym w.widths) (ones_known x values z)))
ones_kept_safe t u fit e = cc

equal_part : {op : Binary} {f : BitVector → BitVector → BitVector} → VectorOp op f → (x y u : Term) → Fits (binary op x y) → ((a : BitVector) → IsBitVector a → f a a ≡ a) → gives (same x y) x ≡ Some u → Keeps (binary op x y) u
equal_part {op} {f} o x y u fit l e =
    let g = given (same x y) x u e in
    rw (← g.1) (left_by o x y fit (λ values w. ap (f (vector (meaning x values))) (meaning_same x y values g.0) ∙ l (vector (meaning x values)) w.left))

pub equal_joined_safe : Safe equal_joined
unfolding equal_joined
equal_joined_safe (binary on.And x y) u fit e = equal_part conjunction x y u fit law.and_itself e
equal_joined_safe (binary on.Or x y) u fit e = equal_part disjunction x y u fit law.or_itself e
equal_joined_safe t u fit e = cc
