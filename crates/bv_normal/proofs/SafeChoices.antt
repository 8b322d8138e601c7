-- The rule on decided choices keeps sort, depth and meaning.
use Rattle.std.proofs.Common.{◌≡◌, Bool, true, false, Option, Some, None, refl, sym, ap}
use Rattle.std.specs.Prelude.{IsSome, if◌then◌else◌, option_and_then}
use Rattle.bv_expr.specs.declared.ops.Sort.{Sort}
use Rattle.bv_expr.specs.declared.ops.Sort.TheVariants as sort
use Rattle.bv_expr.specs.declared.ops.Val.{Val}
use Rattle.bv_expr.specs.Term.{Term, truth, choice, truth_choice}
use Rattle.bv_expr.specs.Sorts.{sort_of, choice_sort, truth_choice_sort}
use Rattle.bv_expr.specs.Meaning.{is_true, meaning}
use Rattle.bv_expr.proofs.Sorted.{equal_some, equal_second}
use Rattle.bv_normal.specs.Same.{same}
use Rattle.bv_normal.specs.Choices.{chosen, decided_choice}
use Rattle.bv_normal.proofs.Equality.{same_is}
use Rattle.bv_normal.proofs.Knowing.{given}
use Rattle.bv_normal.proofs.Keeping.{Keeps, Safe, keeps_first, keeps_second, keeps_truth_first, keeps_truth_second}

-- both branches have the sort of the choice
branches : (o p q : Option Sort) → IsSome (option_and_then (λ r. option_and_then (λ s. option_and_then (choice_sort r s) q) p) o)
    → (p ≡ option_and_then (λ r. option_and_then (λ s. option_and_then (choice_sort r s) q) p) o) × (q ≡ option_and_then (λ r. option_and_then (λ s. option_and_then (choice_sort r s) q) p) o)
branches None p q h = cc
branches (Some r) None q h = cc
branches (Some r) (Some s) None h = cc
branches (Some sort.Truth) (Some (sort.Vector v)) (Some (sort.Vector w)) h = (sym (equal_some v w (sort.Vector v) h), sym (equal_second v w h))
branches (Some sort.Truth) (Some sort.Truth) (Some t) h = cc
branches (Some sort.Truth) (Some (sort.Vector v)) (Some sort.Truth) h = cc
branches (Some (sort.Vector u)) (Some s) (Some t) h = cc

truth_branches : (o p q : Option Sort) → IsSome (option_and_then (λ r. option_and_then (λ s. option_and_then (truth_choice_sort r s) q) p) o)
    → (p ≡ option_and_then (λ r. option_and_then (λ s. option_and_then (truth_choice_sort r s) q) p) o) × (q ≡ option_and_then (λ r. option_and_then (λ s. option_and_then (truth_choice_sort r s) q) p) o)
truth_branches None p q h = cc
truth_branches (Some r) None q h = cc
truth_branches (Some r) (Some s) None h = cc
truth_branches (Some sort.Truth) (Some sort.Truth) (Some sort.Truth) h = (refl, refl)
truth_branches (Some sort.Truth) (Some sort.Truth) (Some (sort.Vector w)) h = cc
truth_branches (Some sort.Truth) (Some (sort.Vector v)) (Some t) h = cc
truth_branches (Some (sort.Vector u)) (Some s) (Some t) h = cc

-- equal branches
either_way : (b : Bool) (v w : Val) → v ≡ w → v ≡ (if b then v else w)
either_way true v w e = refl
either_way false v w e = e

chosen_cases : (P : Term → Type 0) (c x y u : Term) → chosen c x y ≡ Some u → (c ≡ truth true → P x) → (c ≡ truth false → P y) → (same x y ≡ true → P x) → P u
chosen_cases P (truth true) x y u e f g h = let k : x ≡ u = cc in rw (← k) (f refl)
chosen_cases P (truth false) x y u e f g h = let k : y ≡ u = cc in rw (← k) (g refl)
chosen_cases P c x y u e f g h = let k = given (same x y) x u e in rw (← k.1) (h k.0)

pub decided_choice_safe : Safe decided_choice
unfolding decided_choice
decided_choice_safe (choice c x y) u fit e =
    let b = branches (sort_of c) (sort_of x) (sort_of y) fit.sorted in
    chosen_cases (Keeps (choice c x y)) c x y u e
    (λ k. keeps_first c x y fit.leaves b.0 (λ values. rw k refl))
    (λ k. keeps_second c x y fit.leaves b.1 (λ values. rw k refl))
    (λ k. keeps_first c x y fit.leaves b.0 (λ values. either_way (is_true (meaning c values)) (meaning x values) (meaning y values) (ap (λ t. meaning t values) (same_is x y k))))
decided_choice_safe (truth_choice c x y) u fit e =
    let b = truth_branches (sort_of c) (sort_of x) (sort_of y) fit.sorted in
    chosen_cases (Keeps (truth_choice c x y)) c x y u e
    (λ k. keeps_truth_first c x y fit.leaves b.0 (λ values. rw k refl))
    (λ k. keeps_truth_second c x y fit.leaves b.1 (λ values. rw k refl))
    (λ k. keeps_truth_first c x y fit.leaves b.0 (λ values. either_way (is_true (meaning c values)) (meaning x values) (meaning y values) (ap (λ t. meaning t values) (same_is x y k))))
decided_choice_safe t u fit e = cc
