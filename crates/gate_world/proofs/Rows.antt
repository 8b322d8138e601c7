-- The goals of the tests fit.
use Rattle.std.proofs.Common.{◌≡◌, ◌≢◌, ℕ, zero, suc, ◌<◌, true, List, [], ◌∷◌, length, refl, arith, codes}
use Rattle.std.specs.Prelude.{IsTrue, slice_get, option_map, Some}
use Rattle.std.proofs.lemmas.List.Elements.{All-nil, All-cons}
use Rattle.bv_expr.specs.declared.ops.Sort.{Sort}
use Rattle.bv_expr.specs.declared.ops.Sort.TheVariants.{Truth}
use Rattle.bv_expr.specs.declared.ops.Binary.TheVariants as on
use Rattle.bv_expr.specs.Term.{Term, truth, truth_variable, binary}
use Rattle.bv_expr.specs.Goal.{Binders, sorts_of, is_sort, IsGoal, IsTruthOver}

some_same : {x y : List ℕ} → Some x ≡ Some y → x ≡ y
some_same e = cc

head_same : {x y : ℕ} {xs ys : List ℕ} → x ∷ xs ≡ y ∷ ys → x ≡ y
head_same e = cc

pub a_is_not_b : codes "a" ≢ codes "b"
a_is_not_b e = let same = head_same e in absurd (omega (arith, same))

pub p_is_not_q : codes "p" ≢ codes "q"
p_is_not_q e = let same = head_same e in absurd (omega (arith, same))

abbrev pub two_truths : List ℕ → List ℕ → Binders
two_truths x y = (x, Truth) ∷ (y, Truth) ∷ []

abbrev Fits : List ℕ × Sort → Type 0
Fits b = IsTrue (is_sort b.1)

two_apart : (x y : List ℕ) → x ≢ y → (i j : ℕ) → i < j → j < length (two_truths x y)
    → option_map (λ b. b.0) (slice_get (two_truths x y) i) ≢ option_map (λ b. b.0) (slice_get (two_truths x y) j)
two_apart x y n i zero h k e = absurd (omega arith)
two_apart x y n zero (suc zero) h k e = n (some_same e)
two_apart x y n (suc i) (suc zero) h k e = absurd (omega arith)
two_apart x y n i (suc (suc j)) h k e = absurd (omega arith)

pub goal_of_two : (x y : List ℕ) (concl : Term) → x ≢ y → IsTruthOver (Truth ∷ Truth ∷ []) concl → IsGoal (two_truths x y) [] concl
goal_of_two x y concl n fits = record {
  few = omega arith;
  named_apart = two_apart x y n;
  sorts = All-cons Fits (x, Truth) ((y, Truth) ∷ []) refl (All-cons Fits (y, Truth) [] refl (All-nil Fits));
  hyps_fit = All-nil (IsTruthOver (sorts_of (two_truths x y)));
  concl_fits = fits;
}

abbrev IsThere : List Sort → ℕ × Sort → Type 0
IsThere sorts v = slice_get sorts v.0 ≡ Some v.1

pub equal_fits : IsTruthOver (Truth ∷ Truth ∷ []) (binary on.TEq (truth_variable 0) (truth_variable 1))
equal_fits = record {
  truth = refl;
  over = All-cons (IsThere (Truth ∷ Truth ∷ [])) (0, Truth) ((1, Truth) ∷ []) refl
      (All-cons (IsThere (Truth ∷ Truth ∷ [])) (1, Truth) [] refl (All-nil (IsThere (Truth ∷ Truth ∷ []))));
}

pub true_fits : IsTruthOver (Truth ∷ Truth ∷ []) (truth true)
true_fits = record { truth = refl; over = All-nil (IsThere (Truth ∷ Truth ∷ [])) }

abbrev pub one_truth : List ℕ → Binders
one_truth x = (x, Truth) ∷ []

one_apart : (x : List ℕ) (i j : ℕ) → i < j → j < length (one_truth x)
    → option_map (λ b. b.0) (slice_get (one_truth x) i) ≢ option_map (λ b. b.0) (slice_get (one_truth x) j)
one_apart x i j h k e = absurd (omega arith)

pub a_true : IsGoal (one_truth (codes "a")) [] (binary on.TEq (truth_variable 0) (truth true))
a_true = record {
  few = omega arith;
  named_apart = one_apart (codes "a");
  sorts = All-cons Fits (codes "a", Truth) [] refl (All-nil Fits);
  hyps_fit = All-nil (IsTruthOver (sorts_of (one_truth (codes "a"))));
  concl_fits = record { truth = refl; over = All-cons (IsThere (Truth ∷ [])) (0, Truth) [] refl (All-nil (IsThere (Truth ∷ []))) };
}
