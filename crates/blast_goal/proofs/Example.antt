-- The goals of the tests fit.
use Rattle.std.proofs.Common.{◌≡◌, ◌≢◌, ℕ, zero, suc, ◌<◌, true, List, [], ◌∷◌, length, refl, arith, codes}
use Rattle.std.specs.Prelude.{IsTrue, slice_get, option_map, Some}
use Rattle.std.proofs.lemmas.List.Elements.{All-nil, All-cons}
use Rattle.bv_expr.specs.declared.ops.Sort.{Sort}
use Rattle.bv_expr.specs.declared.ops.Sort.TheVariants.{Truth}
use Rattle.bv_expr.specs.declared.ops.Binary.TheVariants as on
use Rattle.bv_expr.specs.Term.{Term, truth, truth_variable, binary}
use Rattle.bv_expr.specs.Goal.{Binders, sorts_of, is_sort, IsGoal, IsTruthOver}

abbrev pub two_truths : Binders
two_truths = (codes "a", Truth) ∷ (codes "b", Truth) ∷ []

some_same : {x y : List ℕ} → Some x ≡ Some y → x ≡ y
some_same e = cc

head_same : {x y : ℕ} {xs ys : List ℕ} → x ∷ xs ≡ y ∷ ys → x ≡ y
head_same e = cc

apart : (i j : ℕ) → i < j → j < length two_truths → option_map (λ b. b.0) (slice_get two_truths i) ≢ option_map (λ b. b.0) (slice_get two_truths j)
apart i zero h k e = absurd (omega arith)
apart zero (suc zero) h k e = let same = head_same (some_same e) in absurd (omega (arith, same))
apart (suc i) (suc zero) h k e = absurd (omega arith)
apart i (suc (suc j)) h k e = absurd (omega arith)

abbrev Fits : List ℕ × Sort → Type 0
Fits b = IsTrue (is_sort b.1)

pub goal_of_two : (concl : Term) → IsTruthOver (Truth ∷ Truth ∷ []) concl → IsGoal two_truths [] concl
goal_of_two concl fits = record {
  few = omega arith;
  named_apart = apart;
  sorts = All-cons Fits (codes "a", Truth) ((codes "b", Truth) ∷ []) refl (All-cons Fits (codes "b", Truth) [] refl (All-nil Fits));
  hyps_fit = All-nil (IsTruthOver (sorts_of two_truths));
  concl_fits = fits;
}

abbrev IsThere : ℕ × Sort → Type 0
IsThere v = slice_get (Truth ∷ Truth ∷ []) v.0 ≡ Some v.1

pub differ_fits : IsTruthOver (Truth ∷ Truth ∷ []) (binary on.TXor (truth_variable 1) (truth_variable 0))
differ_fits = record { truth = refl; over = All-cons IsThere (1, Truth) ((0, Truth) ∷ []) refl (All-cons IsThere (0, Truth) [] refl (All-nil IsThere)) }

pub true_fits : IsTruthOver (Truth ∷ Truth ∷ []) (truth true)
true_fits = record { truth = refl; over = All-nil IsThere }
