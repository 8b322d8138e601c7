-- A place more that is asked for is a place less that isn't.
use Rattle.std.proofs.Common.{◌≡◌, ◌≢◌, ◌⊎◌, inl, inr, ℕ, zero, suc, ◌+◌, ◌<◌, Bool, true, false, nat_eq, refl, sym, ap, ap₂, ◌∙◌, arith}
use Rattle.std.specs.Prelude.{◌||◌, if◌then◌else◌}
use Rattle.std.proofs.lemmas.Bool.Decides.{nat_tests}
use Rattle.goal_alone.specs.Unasked.{unasked}

-- places that are asked for alike
same_unasked : (f g : ℕ → Bool) (n : ℕ) → ((k : ℕ) → k < n → g k ≡ f k) → unasked g n ≡ unasked f n
unfolding unasked
same_unasked f g zero h = refl
same_unasked f g (suc n) h = ap₂ (λ b m. (if b then 0 else 1) + m) (h n (omega arith)) (same_unasked f g n (λ k l. h k (omega arith)))

or_other : (b : Bool) (k s : ℕ) → k ≢ s → (b || nat_eq k s) ≡ b
or_other true k s d = refl
or_other false k s d = grind (arith, nat_tests)

last_place : (f g : ℕ → Bool) (n s : ℕ) → s ≡ n → f s ≡ false → g n ≡ (f n || nat_eq n s) → (f n ≡ false) × (g n ≡ true)
last_place f g n s e free h = (ap f (sym e) ∙ free, h ∙ ap₂ (λ b c. b || c) (ap f (sym e) ∙ free) (grind (arith, nat_tests)))

step : (f g : ℕ → Bool) (n s : ℕ) → s < suc n → f s ≡ false → ((k : ℕ) → k < suc n → g k ≡ (f k || nat_eq k s))
    → (s < n → ((k : ℕ) → k < n → g k ≡ (f k || nat_eq k s)) → unasked f n ≡ unasked g n + 1) → (s ≡ n) ⊎ (s < n) → unasked f (suc n) ≡ unasked g (suc n) + 1
unfolding unasked
step f g n s l free h before (inl e) =
    let last = last_place f g n s e free (h n (omega arith)) in
    let rest = same_unasked f g n (λ k m. h k (omega arith) ∙ or_other (f k) k s (λ d. omega arith)) in
    rw (last.0, last.1, rest) (omega arith)
step f g n s l free h before (inr m) =
    let here : g n ≡ f n = h n (omega arith) ∙ or_other (f n) n s (λ d. omega arith) in
    rw (here, before m (λ k o. h k (omega arith))) (omega arith)

last_or : (s n : ℕ) → s < suc n → (b : Bool) → nat_eq s n ≡ b → (s ≡ n) ⊎ (s < n)
last_or s n l true e = inl (grind (arith, nat_tests))
last_or s n l false e = inr (grind (arith, nat_tests))

pub one_less : (f g : ℕ → Bool) (n s : ℕ) → s < n → f s ≡ false → ((k : ℕ) → k < n → g k ≡ (f k || nat_eq k s)) → unasked f n ≡ unasked g n + 1
one_less f g zero s l free h = absurd (omega arith)
one_less f g (suc n) s l free h = step f g n s l free h (λ m o. one_less f g n s m free o) (last_or s n l (nat_eq s n) refl)
