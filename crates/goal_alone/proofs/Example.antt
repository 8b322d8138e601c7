-- The goals of the tests fit.
use Rattle.std.proofs.Common.{◌≡◌, ◌≢◌, ℕ, zero, suc, ◌<◌, List, [], ◌∷◌, length, refl, arith, codes}
use Rattle.std.specs.Prelude.{All, IsTrue, slice_get, option_map, Some}
use Rattle.std.proofs.lemmas.List.Elements.{All-nil, All-cons}
use Rattle.bv_value.specs.BitVector.{of_number}
use Rattle.bv_expr.specs.declared.ops.Sort.{Sort}
use Rattle.bv_expr.specs.declared.ops.Sort.TheVariants.{Vector}
use Rattle.bv_expr.specs.declared.ops.Binary.TheVariants as on
use Rattle.bv_expr.specs.Term.{Term, constant, variable, binary}
use Rattle.bv_expr.specs.Goal.{Binders, sorts_of, is_sort, IsGoal, IsTruthOver}

abbrev pub x_alone : Binders
x_alone = (codes "x", Vector 8) ∷ []

apart : (i j : ℕ) → i < j → j < length x_alone → option_map (λ b. b.0) (slice_get x_alone i) ≢ option_map (λ b. b.0) (slice_get x_alone j)
apart i zero h k e = absurd (omega arith)
apart i (suc j) h k e = absurd (omega arith)

abbrev Fits : List ℕ × Sort → Type 0
Fits b = IsTrue (is_sort b.1)

pub goal_of_x : (concl : Term) → IsTruthOver (Vector 8 ∷ []) concl → IsGoal x_alone [] concl
goal_of_x concl fits = record {
  few = omega arith;
  named_apart = apart;
  sorts = All-cons Fits (codes "x", Vector 8) [] refl (All-nil Fits);
  hyps_fit = All-nil (IsTruthOver (sorts_of x_alone));
  concl_fits = fits;
}

abbrev IsThere : ℕ × Sort → Type 0
IsThere v = slice_get (Vector 8 ∷ []) v.0 ≡ Some v.1

-- twice the variable x
there : All IsThere ((0, Vector 8) ∷ (0, Vector 8) ∷ [])
there = All-cons IsThere (0, Vector 8) ((0, Vector 8) ∷ []) refl (All-cons IsThere (0, Vector 8) [] refl (All-nil IsThere))

pub double_fits : IsTruthOver (Vector 8 ∷ []) (binary on.Eq (binary on.Mul (variable 0 8) (constant (of_number 8 2))) (binary on.Shl (variable 0 8) (constant (of_number 8 1))))
double_fits = record { truth = refl; over = there }

pub next_fits : IsTruthOver (Vector 8 ∷ []) (binary on.Ule (variable 0 8) (binary on.Add (variable 0 8) (constant (of_number 8 1))))
next_fits = record { truth = refl; over = there }
