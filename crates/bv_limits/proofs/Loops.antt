-- What a loop over tokens keeps.
use Rattle.std.proofs.Common.{◌≡◌, ℕ, zero, suc, ◌+◌, ◌<◌, ◌≤◌, ◌^◌, Bool, true, false, List, Option, Some, None, IfSome, sym, ap, subst, arith, ◌∙◌, ◌⊎◌, inl, inr}
use Rattle.std.specs.Prelude.{slice_get, if◌then◌else◌, option_map}
use Rattle.bv_lex.specs.declared.token.Token.{Token}
use Rattle.bv_grammar.specs.declared.reading.Taken.{Taken}
use Rattle.bv_limits.specs.declared.plain.Counters.{Counters}
use Rattle.bv_limits.specs.Counting.{counted, counters, is_head, is_term_token, limit_at}

pub plus_one : (n : ℕ) → n + 1 ≡ suc n
plus_one n = omega arith

-- the counts are at most the number of tokens
record Small (n : ℕ) (c : Counters) : Type 0 where
  pub heads : c.heads ≤ n
  pub nodes : IfSome c.nodes (λ k. k ≤ n)

later : (n : ℕ) (o : Option ℕ) → IfSome o (λ k. k ≤ n) → IfSome o (λ k. k ≤ suc n)
later n None h = h
later n (Some k) h = omega (arith, h)

one_later : (n : ℕ) (o : Option ℕ) → IfSome o (λ k. k ≤ n) → IfSome (option_map (λ k. k + 1) o) (λ k. k ≤ suc n)
one_later n None h = h
one_later n (Some k) h = omega (arith, h)

small_next : (n : ℕ) (h t : Bool) (c : Counters) → Small n c → Small (suc n) (if h then record { heads = c.heads + 1; nodes = Some 0 } else (if t then record { heads = c.heads; nodes = option_map (λ k. k + 1) c.nodes } else c))
small_next n true t c s = record { heads = omega (arith, s.heads); nodes = omega arith }
small_next n false true c s = record { heads = omega (arith, s.heads); nodes = one_later n c.nodes s.nodes }
small_next n false false c s = record { heads = omega (arith, s.heads); nodes = later n c.nodes s.nodes }

small_counted : (n : ℕ) (x : Option Taken) (c : Counters) → Small n c → Small (suc n) (counted x c)
small_counted n None c s = record { heads = omega (arith, s.heads); nodes = later n c.nodes s.nodes }
small_counted n (Some x) c s = small_next n (is_head x.role) (is_term_token x.role) c s

small : (xs : List Taken) (n : ℕ) → Small n (counters xs n)
small xs zero = record { heads = omega arith; nodes = tt }
small xs (suc n) = small_counted n (slice_get xs n) (counters xs n) (small xs n)

fits : (n : ℕ) (o : Option ℕ) → n + 1 < 2 ^ 64 → IfSome o (λ k. k ≤ n) → IfSome o (λ k. k + 1 < 2 ^ 64)
fits n None w k = k
fits n (Some j) w k = omega (arith, w, k)

pub heads_fit : (xs : List Taken) (n : ℕ) (c : Counters) → c ≡ counters xs n → n + 1 < 2 ^ 64 → c.heads + 1 < 2 ^ 64
heads_fit xs n c e w = subst (λ d. d.heads + 1 < 2 ^ 64) (sym e) (omega (arith, (small xs n).heads, w))

pub nodes_fit : (xs : List Taken) (n : ℕ) (c : Counters) → c ≡ counters xs n → n + 1 < 2 ^ 64 → IfSome c.nodes (λ k. k + 1 < 2 ^ 64)
nodes_fit xs n c e w = subst (λ d. IfSome d.nodes (λ k. k + 1 < 2 ^ 64)) (sym e) (fits n (counters xs n).nodes w (small xs n).nodes)

pub counted_next : (xs : List Taken) (n : ℕ) (x : Option Taken) (c d : Counters) → x ≡ slice_get xs n → c ≡ counters xs n → d ≡ counted x c → d ≡ counters xs (n + 1)
counted_next xs n x c d e f g = g ∙ (λ k. counted (e k) (f k)) ∙ ap (counters xs) (sym (plus_one n))

place_cases : (k n : ℕ) → k < n + 1 → (k < n) ⊎ (k ≡ n)
place_cases k n h = grind arith

pub clean_next : (tokens : List Token) (xs : List Taken) (n : ℕ) → ((k : ℕ) → k < n → limit_at tokens xs k ≡ None) → limit_at tokens xs n ≡ None → (k : ℕ) → k < n + 1 → limit_at tokens xs k ≡ None
clean_next tokens xs n h e k l = elim (place_cases k n l) [ inl less ↦ h k less | inr same ↦ ap (limit_at tokens xs) same ∙ e ]
