-- The rules on comparisons of equal parts keep sort, depth and meaning.
use Rattle.std.proofs.Common.{◌≡◌, Bool, true, false, not, Option, Some, None, refl, ◌∙◌, ap}
use Rattle.std.specs.Prelude.{IsSome, option_and_then}
use Rattle.bv_value.specs.BitVector.{BitVector, IsBitVector, signed}
use Rattle.bv_value.specs.Bits.{differ}
use Rattle.bv_expr.specs.declared.ops.Binary.{Binary}
use Rattle.bv_expr.specs.declared.ops.Binary.TheVariants as on
use Rattle.bv_expr.specs.declared.ops.Sort.{Sort}
use Rattle.bv_expr.specs.declared.ops.Sort.TheVariants as sort
use Rattle.bv_expr.specs.declared.ops.Val.TheVariants.{Truth}
use Rattle.bv_expr.specs.Term.{Term, binary, truth}
use Rattle.bv_expr.specs.Sorts.{sort_of, binary_sort}
use Rattle.bv_expr.specs.Meaning.{vector, is_true, meaning}
use Rattle.bv_normal.specs.Same.{same}
use Rattle.bv_normal.specs.Fitting.{gives}
use Rattle.bv_normal.specs.Comparisons.{equal_holds, equal_fails}
use Rattle.bv_normal.proofs.Equality.{same_is}
use Rattle.bv_normal.proofs.Laws as law
use Rattle.bv_normal.proofs.Knowing.{given}
use Rattle.bv_normal.proofs.Keeping.{Keeps, Fits, Safe, keeps_truth}
use Rattle.bv_normal.proofs.Operators.{TestOp, truth_by, equals, below, at_most, signed_below, signed_at_most}
use Rattle.bv_normal.proofs.SafeOperands.{meaning_same}

equal_test : {op : Binary} {f : BitVector → BitVector → Bool} → TestOp op f → (x y u : Term) (b : Bool) → Fits (binary op x y) → ((a : BitVector) → IsBitVector a → f a a ≡ b) → gives (same x y) (truth b) ≡ Some u → Keeps (binary op x y) u
equal_test {op} {f} o x y u b fit l e =
    let g = given (same x y) (truth b) u e in
    rw (← g.1) (truth_by o x y b fit (λ values w. ap (f (vector (meaning x values))) (meaning_same x y values g.0) ∙ l (vector (meaning x values)) w.left))

-- an operator that takes two truths has a truth's sort
equivalence_sort : (o p : Option Sort) → IsSome (option_and_then (λ s. option_and_then (binary_sort on.TEq s) p) o) → option_and_then (λ s. option_and_then (binary_sort on.TEq s) p) o ≡ Some sort.Truth
equivalence_sort None p h = cc
equivalence_sort (Some s) None h = cc
equivalence_sort (Some sort.Truth) (Some sort.Truth) h = refl
equivalence_sort (Some sort.Truth) (Some (sort.Vector w)) h = cc
equivalence_sort (Some (sort.Vector v)) (Some sort.Truth) h = cc
equivalence_sort (Some (sort.Vector v)) (Some (sort.Vector w)) h = cc

exclusive_sort : (o p : Option Sort) → IsSome (option_and_then (λ s. option_and_then (binary_sort on.TXor s) p) o) → option_and_then (λ s. option_and_then (binary_sort on.TXor s) p) o ≡ Some sort.Truth
exclusive_sort None p h = cc
exclusive_sort (Some s) None h = cc
exclusive_sort (Some sort.Truth) (Some sort.Truth) h = refl
exclusive_sort (Some sort.Truth) (Some (sort.Vector w)) h = cc
exclusive_sort (Some (sort.Vector v)) (Some sort.Truth) h = cc
exclusive_sort (Some (sort.Vector v)) (Some (sort.Vector w)) h = cc

differ_itself : (a : Bool) → false ≡ differ a a
differ_itself true = refl
differ_itself false = refl

pub equal_holds_safe : Safe equal_holds
unfolding equal_holds
equal_holds_safe (binary on.Eq x y) u fit e = equal_test equals x y u true fit (λ a v. law.number_itself a.number) e
equal_holds_safe (binary on.Ule x y) u fit e = equal_test at_most x y u true fit (λ a v. law.at_most_itself a.number) e
equal_holds_safe (binary on.Sle x y) u fit e = equal_test signed_at_most x y u true fit (λ a v. law.sle_itself (signed a)) e
equal_holds_safe (binary on.TEq x y) u fit e =
    let g = given (same x y) (truth true) u e in
    rw (← g.1) (keeps_truth (binary on.TEq x y) true (equivalence_sort (sort_of x) (sort_of y) fit.sorted)
    (λ values v h. ap (λ b. Truth (not b)) (differ_itself (is_true (meaning x values)) ∙ ap (λ t. differ (is_true (meaning x values)) (is_true (meaning t values))) (same_is x y g.0))))
equal_holds_safe t u fit e = cc

pub equal_fails_safe : Safe equal_fails
unfolding equal_fails
equal_fails_safe (binary on.Ult x y) u fit e = equal_test below x y u false fit (λ a v. law.not_below_itself a.number) e
equal_fails_safe (binary on.Slt x y) u fit e = equal_test signed_below x y u false fit law.slt_itself e
equal_fails_safe (binary on.TXor x y) u fit e =
    let g = given (same x y) (truth false) u e in
    rw (← g.1) (keeps_truth (binary on.TXor x y) false (exclusive_sort (sort_of x) (sort_of y) fit.sorted)
    (λ values v h. ap Truth (differ_itself (is_true (meaning x values)) ∙ ap (λ t. differ (is_true (meaning x values)) (is_true (meaning t values))) (same_is x y g.0))))
equal_fails_safe t u fit e = cc
