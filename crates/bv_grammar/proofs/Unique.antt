-- What a file is, its fault and what takes a terminal are one.
use Rattle.std.proofs.Common.{◌≡◌, ℕ, ◌+◌, ◌<◌, ◌≤◌, List, ◌∷◌, ◌++◌, Some, refl, sym, arith, subst, ◌∙◌, ◌⊎◌, inl, inr}
use Rattle.std.specs.Prelude.{slice_get}
use Rattle.bv_grammar.specs.declared.words.Terminal.{Terminal}
use Rattle.bv_grammar.specs.declared.words.Role.{Role}
use Rattle.bv_grammar.specs.Grammar.{terminal_of, Next, Symbol, terminal, unless, Rule}
use Rattle.bv_grammar.specs.Derivation.{Derives, here, taken, at_end, not_next, by_rule, IsFile, IsSyntaxFault}
use Rattle.bv_grammar.specs.Taking.{IsTakenAs}
use Rattle.bv_grammar.proofs.Derivations.{grows, follow, after_terminal, after_finish}
use Rattle.bv_grammar.proofs.Tables.{table, predicts}

-- a derivation that goes past a place goes through it
le_cases : (i n : ℕ) → i ≤ n → (i ≡ n) ⊎ (i + 1 ≤ n)
le_cases i n h = grind arith

pub through : {ts : List Terminal} {a b : List Symbol} {i j : ℕ} (n : ℕ) → i ≤ n → n ≤ j → Derives ts a i b j → (c : List Symbol) × Derives ts a i c n
through {ts = ts} {a = a} {i = i} n l h here = (a, subst (λ k. Derives ts a i a k) (omega arith) here)
through {ts = ts} {a = a} {i = i} n l h (taken e d) = elim (le_cases i n l) [ inl same ↦ (a, subst (λ k. Derives ts a i a k) same here) | inr more ↦ let r = through n more h d in (r.0, taken e r.1) ]
through {ts = ts} {a = a} {i = i} n l h (at_end e d) = elim (le_cases i n l) [ inl same ↦ (a, subst (λ k. Derives ts a i a k) same here) | inr more ↦ let r = through n more h d in (r.0, at_end e r.1) ]
through n l h (not_next e d) = let r = through n l h d in (r.0, not_next e r.1)
through n l h (by_rule q d) = let r = through n l h d in (r.0, by_rule q r.1)

pub not_both : (ts : List Terminal) (at : ℕ) → IsFile ts → IsSyntaxFault ts at → ⊥
not_both ts at d f = f.not_here (through (at + 1) (omega arith) (omega (arith, f.within)) d)

not_before : (ts : List Terminal) (m n : ℕ) → IsSyntaxFault ts m → IsSyntaxFault ts n → m < n → ⊥
not_before ts m n f g h = f.not_here (through (m + 1) (omega arith) (omega arith) g.before.1)

order_cases : (m n : ℕ) → (m ≡ n) ⊎ ((m < n) ⊎ (n < m))
order_cases m n = grind arith

pub one_fault : (ts : List Terminal) (m n : ℕ) → IsSyntaxFault ts m → IsSyntaxFault ts n → m ≡ n
one_fault ts m n f g = elim (order_cases m n) [
  | inl same ↦ same
  | inr other ↦ elim other [ inl less ↦ absurd (not_before ts m n f g less) | inr more ↦ absurd (not_before ts n m g f more) ]
]

-- a derivation that stops before a terminal: what its first step is
stays_at : {ts : List Terminal} {r : Role} {b c : List Symbol} {i j : ℕ} → i ≡ j → Derives ts (terminal r ∷ b) i c j → terminal r ∷ b ≡ c
stays_at e here = refl
stays_at e (taken f d) = absurd (omega (arith, grows d))
stays_at e (by_rule q d) = elim q [ ]

behind_unless : {ts : List Terminal} {x : Next} {r : Role} {a b : List Symbol} {i j : ℕ} → Derives ts (unless x ∷ a) i (terminal r ∷ b) j → Derives ts a i (terminal r ∷ b) j
behind_unless (not_next e d) = d
behind_unless (by_rule q d) = elim q [ ]

foretold : {ts : List Terminal} {s : Symbol} {r : Role} {b x : List Symbol} {i j : ℕ} (a : List Symbol) → Rule s x → Derives ts (x ++ a) i (terminal r ∷ b) j → slice_get ts j ≡ Some (terminal_of r) → table s (slice_get ts i) ≡ x
foretold a q d e = predicts a q (omega (arith, grows d)) (follow d (taken e here))

behind_rule : {ts : List Terminal} {s : Symbol} {r : Role} {a b x : List Symbol} {i j : ℕ} → Rule s x → table s (slice_get ts i) ≡ x → slice_get ts j ≡ Some (terminal_of r) → Derives ts (s ∷ a) i (terminal r ∷ b) j → Derives ts (x ++ a) i (terminal r ∷ b) j
behind_rule q e f here = elim q [ ]
behind_rule q e f (taken g d) = elim q [ ]
behind_rule q e f (at_end g d) = elim q [ ]
behind_rule q e f (not_next g d) = elim q [ ]
behind_rule {ts} {r = r} {a = a} {b = b} {i = i} {j = j} q e f (by_rule q' d) = subst (λ v. Derives ts (v ++ a) i (terminal r ∷ b) j) (sym (foretold a q' d f) ∙ e) d

one_way : {ts : List Terminal} {r r' : Role} {a b b' : List Symbol} {i j : ℕ} → Derives ts a i (terminal r ∷ b) j → slice_get ts j ≡ Some (terminal_of r) → slice_get ts j ≡ Some (terminal_of r') → Derives ts a i (terminal r' ∷ b') j → terminal r ∷ b ≡ terminal r' ∷ b'
one_way here e f d = stays_at refl d
one_way (taken g d) e f d' = one_way d e f (after_terminal (omega (arith, grows d)) d').1
one_way (at_end g d) e f d' = one_way d e f (after_finish (omega (arith, grows d)) d').1
one_way (not_next g d) e f d' = one_way d e f (behind_unless d')
one_way (by_rule {a = a} q d) e f d' = one_way d e f (behind_rule q (foretold a q d e) f d')

pub one_role : (ts : List Terminal) (i : ℕ) (r r' : Role) (b b' : List Symbol) → IsTakenAs ts i r b → IsTakenAs ts i r' b' → (r ≡ r') × (b ≡ b')
one_role ts i r r' b b' t t' = let e = one_way t.derived t.there t'.there t'.derived in (cc, cc)
