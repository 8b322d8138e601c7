-- Two limits that each go before the other are one.
use Rattle.std.proofs.Common.{◌≡◌, ℕ, zero, suc, ◌<◌, ◌≤◌, refl, arith, ◌⊎◌, inl, inr}
use Rattle.bv_lex.specs.declared.fault.What.{What}
use Rattle.bv_lex.specs.declared.fault.What.TheVariants as what
use Rattle.bv_limits.specs.Limits.{rank}

abbrev pub rank_back : ℕ → What
rank_back zero = what.Number
rank_back (suc zero) = what.Width
rank_back (suc (suc zero)) = what.Depth
rank_back (suc (suc (suc zero))) = what.Nodes
rank_back (suc (suc (suc (suc zero)))) = what.Variables
rank_back n = what.Goals

pub rank_again : (w : What) → rank_back (rank w) ≡ w
rank_again what.Number = refl
rank_again what.Width = refl
rank_again what.Depth = refl
rank_again what.Nodes = refl
rank_again what.Variables = refl
rank_again what.Goals = refl

pub both_before : (m n p q : ℕ) → (m < n) ⊎ ((m ≡ n) × (p ≤ q)) → (n < m) ⊎ ((n ≡ m) × (q ≤ p)) → (p ≡ q) × (m ≡ n)
both_before m n p q (inl h) (inl k) = absurd (omega (arith, h, k))
both_before m n p q (inl h) (inr k) = absurd (omega (arith, h, k.0))
both_before m n p q (inr h) (inl k) = absurd (omega (arith, h.0, k))
both_before m n p q (inr h) (inr k) = (omega (arith, h.1, k.1), h.0)
