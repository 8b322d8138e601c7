-- The variables and terms of the tests' goals fit.
use Rattle.std.proofs.Common.{◌≡◌, ◌≢◌, ℕ, zero, suc, ◌<◌, List, [], ◌∷◌, length, refl, sym, ap, arith, codes, true}
use Rattle.std.specs.Prelude.{All, IsTrue, slice_get, option_map, Option, Some, None}
use Rattle.std.proofs.lemmas.List.Elements.{All-nil, All-cons}
use Rattle.bv_expr.specs.declared.ops.Sort.{Sort}
use Rattle.bv_expr.specs.declared.ops.Sort.TheVariants.{Truth, Vector}
use Rattle.bv_expr.specs.Goal.{Binders, sorts_of, is_sort, IsGoal, IsTruthOver}
use Rattle.bv_value.specs.BitVector.{of_number}
use Rattle.bv_expr.specs.declared.ops.Unary.TheVariants as of
use Rattle.bv_expr.specs.declared.ops.Binary.TheVariants as on
use Rattle.bv_expr.specs.Term.{Term, truth, constant, variable, unary, binary}

abbrev further : Binders
further = (codes "y2", Vector 13) ∷ []

abbrev others : Binders
others = (codes "a", Truth) ∷ further

abbrev pub variables : Binders
variables = (codes "x", Vector 8) ∷ others

-- the first byte of a name
abbrev first : Option (List ℕ) → ℕ
first None = 0
first (Some []) = 0
first (Some (c ∷ cs)) = c

other : (m n : ℕ) → m < n → m ≡ n → ⊥
other m n h e = absurd (omega arith)

apart : (i j : ℕ) → i < j → j < length variables → option_map (λ b. b.0) (slice_get variables i) ≢ option_map (λ b. b.0) (slice_get variables j)
apart i zero h k e = absurd (omega arith)
apart zero (suc zero) h k e = other 97 120 (omega arith) (sym (ap first e))
apart zero (suc (suc zero)) h k e = other 120 121 (omega arith) (ap first e)
apart (suc zero) (suc zero) h k e = absurd (omega arith)
apart (suc zero) (suc (suc zero)) h k e = other 97 121 (omega arith) (ap first e)
apart (suc (suc i)) (suc (suc zero)) h k e = absurd (omega arith)
apart (suc (suc i)) (suc zero) h k e = absurd (omega arith)
apart i (suc (suc (suc j))) h k e = absurd (omega arith)

abbrev Fits : List ℕ × Sort → Type 0
Fits b = IsTrue (is_sort b.1)

pub fits : IsGoal variables [] (truth true)
fits = record {
  few = omega arith;
  named_apart = apart;
  sorts = All-cons Fits (codes "x", Vector 8) others refl (All-cons Fits (codes "a", Truth) further refl (All-cons Fits (codes "y2", Vector 13) [] refl (All-nil Fits)));
  hyps_fit = All-nil (IsTruthOver (sorts_of variables));
  concl_fits = record { truth = refl; over = All-nil (λ v. slice_get (sorts_of variables) v.0 ≡ Some v.1) };
}

-- ---- a variable x, the hypothesis 3#8 < x, and the conclusion !(x = 0#8)

abbrev pub x_alone : Binders
x_alone = (codes "x", Vector 8) ∷ []

abbrev pub above_three : Term
above_three = binary on.Ult (constant (of_number 8 3)) (variable 0 8)

abbrev pub not_zero : Term
not_zero = unary of.TNot (binary on.Eq (variable 0 8) (constant (of_number 8 0)))

one_alone : (i j : ℕ) → i < j → j < length x_alone → option_map (λ b. b.0) (slice_get x_alone i) ≢ option_map (λ b. b.0) (slice_get x_alone j)
one_alone i zero h k e = absurd (omega arith)
one_alone i (suc j) h k e = absurd (omega arith)

abbrev IsThere : ℕ × Sort → Type 0
IsThere v = slice_get (sorts_of x_alone) v.0 ≡ Some v.1

x_there : All IsThere ((0, Vector 8) ∷ [])
x_there = All-cons IsThere (0, Vector 8) [] refl (All-nil IsThere)

above_three_over : IsTruthOver (sorts_of x_alone) above_three
above_three_over = record { truth = refl; over = x_there }

pub above_three_fits : IsGoal x_alone (above_three ∷ []) not_zero
above_three_fits = record {
  few = omega arith;
  named_apart = one_alone;
  sorts = All-cons Fits (codes "x", Vector 8) [] refl (All-nil Fits);
  hyps_fit = All-cons (IsTruthOver (sorts_of x_alone)) above_three [] above_three_over (All-nil (IsTruthOver (sorts_of x_alone)));
  concl_fits = record { truth = refl; over = x_there };
}
