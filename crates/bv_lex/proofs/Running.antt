-- Where runs of bytes end.
use Rattle.std.proofs.Common.{◌≡◌, Bool, true, false, ℕ, ◌<◌, ◌≤◌, ◌⊎◌, inl, inr, List, length, get_or, ap, ◌∙◌, arith}
use Rattle.std.proofs.lemmas.Option.{slice_get_within, slice_get-get_or}
use Rattle.bv_lex.specs.Words.{Each}
use Rattle.bv_lex.proofs.Reading.{read}

pub each_read : (p : ℕ → Bool) (bs : List ℕ) (i j : ℕ) → j ≤ length bs → ((k : ℕ) → i ≤ k → k < j → p (get_or bs k 0) ≡ true) → Each p bs i j
each_read p bs i j within h k low high = (get_or bs k 0, slice_get-get_or bs k 0 (omega arith), h k low high)

up_to_or_beyond : (m j : ℕ) → (m ≤ j) ⊎ (j < m)
up_to_or_beyond m j = grind arith

-- no run goes on where its test fails, or behind the end
pub run_longest : (p : ℕ → Bool) (bs : List ℕ) (i j m : ℕ) → i ≤ j → (j < length bs → p (get_or bs j 0) ≡ false) → Each p bs i m → m ≤ j
run_longest p bs i j m order stops each = elim (up_to_or_beyond m j) [
  | inl le ↦ le
  | inr gt ↦
      let x = each j order gt in
      let no : p (get_or bs j 0) ≡ false = stops (slice_get_within bs j x.0 x.1) in
      let yes : p (get_or bs j 0) ≡ true = ap p (read bs j x.0 x.1) ∙ x.2 in
      (cc)
]
