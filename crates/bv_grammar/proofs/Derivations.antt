-- Derivations: how they compose, and what the leftmost symbol takes.
use Rattle.std.proofs.Common.{◌≡◌, ℕ, ◌+◌, ◌<◌, ◌≤◌, List, ◌∷◌, Some, None, arith}
use Rattle.std.specs.Prelude.{slice_get}
use Rattle.bv_grammar.specs.declared.words.Terminal.{Terminal}
use Rattle.bv_grammar.specs.declared.words.Role.{Role}
use Rattle.bv_grammar.specs.Grammar.{terminal_of, Next, Symbol, terminal, finish, unless, Begins}
use Rattle.bv_grammar.specs.Derivation.{Derives, here, taken, at_end, not_next, by_rule}
use Rattle.bv_grammar.proofs.Place.{Leads, Dead}

-- a derivation does not go back
pub grows : {ts : List Terminal} {a b : List Symbol} {i j : ℕ} → Derives ts a i b j → i ≤ j
grows here = omega arith
grows (taken e d) = omega (arith, grows d)
grows (at_end e d) = omega (arith, grows d)
grows (not_next e d) = grows d
grows (by_rule r d) = grows d

pub follow : {ts : List Terminal} {a b c : List Symbol} {i j k : ℕ} → Derives ts a i b j → Derives ts b j c k → Derives ts a i c k
follow here e = e
follow (taken h d) e = taken h (follow d e)
follow (at_end h d) e = at_end h (follow d e)
follow (not_next h d) e = not_next h (follow d e)
follow (by_rule r d) e = by_rule r (follow d e)

pub stay : {ts : List Terminal} {a : List Symbol} {i : ℕ} → Leads ts a i a i
stay = record { derives = here; only = λ c n h d. d }

pub then : {ts : List Terminal} {a b c : List Symbol} {i j k : ℕ} → Leads ts a i b j → Leads ts b j c k → Leads ts a i c k
then f g = record {
  derives = follow f.derives g.derives;
  only = λ c n h d. g.only c n h (f.only c n (omega (arith, grows g.derives)) d);
}

-- what the leftmost symbol takes
pub after_terminal : {ts : List Terminal} {r : Role} {a c : List Symbol} {i n : ℕ} → i < n → Derives ts (terminal r ∷ a) i c n → (slice_get ts i ≡ Some (terminal_of r)) × Derives ts a (i + 1) c n
after_terminal h here = absurd (omega arith)
after_terminal h (taken e d) = (e, d)
after_terminal h (by_rule r d) = elim r [ ]

pub after_finish : {ts : List Terminal} {a c : List Symbol} {i n : ℕ} → i < n → Derives ts (finish ∷ a) i c n → (slice_get ts i ≡ None) × Derives ts a (i + 1) c n
after_finish h here = absurd (omega arith)
after_finish h (at_end e d) = (e, d)
after_finish h (by_rule r d) = elim r [ ]

pub after_unless : {ts : List Terminal} {x : Next} {a c : List Symbol} {i n : ℕ} → i < n → Derives ts (unless x ∷ a) i c n → ((t : Terminal) → slice_get ts i ≡ Some t → Begins x t → ⊥) × Derives ts a i c n
after_unless h here = absurd (omega arith)
after_unless h (not_next e d) = (e, d)
after_unless h (by_rule r d) = elim r [ ]

-- what each of these leads to
pub on_terminal : {ts : List Terminal} {r : Role} {i : ℕ} (a : List Symbol) → slice_get ts i ≡ Some (terminal_of r) → Leads ts (terminal r ∷ a) i a (i + 1)
on_terminal a e = record { derives = taken e here; only = λ c n h d. (after_terminal (omega arith) d).1 }

pub on_finish : {ts : List Terminal} {i : ℕ} (a : List Symbol) → slice_get ts i ≡ None → Leads ts (finish ∷ a) i a (i + 1)
on_finish a e = record { derives = at_end e here; only = λ c n h d. (after_finish (omega arith) d).1 }

pub on_unless : {ts : List Terminal} {x : Next} {i : ℕ} (a : List Symbol) → ((t : Terminal) → slice_get ts i ≡ Some t → Begins x t → ⊥) → Leads ts (unless x ∷ a) i a i
on_unless a e = record { derives = not_next e here; only = λ c n h d. (after_unless h d).1 }

pub dead_terminal : {ts : List Terminal} {r : Role} {i : ℕ} (a : List Symbol) → (slice_get ts i ≡ Some (terminal_of r) → ⊥) → Dead ts (terminal r ∷ a) i
dead_terminal a differs c n h d = differs (after_terminal h d).0

pub dead_finish : {ts : List Terminal} {t : Terminal} {i : ℕ} (a : List Symbol) → slice_get ts i ≡ Some t → Dead ts (finish ∷ a) i
dead_finish a e c n h d = let f = after_finish h d in let q = f.0 in cc

pub dead_by : {ts : List Terminal} {a b : List Symbol} {i : ℕ} → Leads ts a i b i → Dead ts b i → Dead ts a i
dead_by l dead c n h d = dead c n h (l.only c n h d)
