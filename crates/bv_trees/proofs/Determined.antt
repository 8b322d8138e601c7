-- A derivation that goes beyond a place goes through what is derived up to it, where that can go on.
use Rattle.std.proofs.Common.{◌≡◌, ℕ, ◌+◌, ◌<◌, List, [], ◌∷◌, ◌++◌, Option, Some, None, refl, sym, ap, ◌∙◌, arith, subst, append_assoc}
use Rattle.std.specs.Prelude.{slice_get}
use Rattle.bv_grammar.specs.declared.words.Word.{Word}
use Rattle.bv_grammar.specs.declared.words.Terminal.{Terminal}
use Rattle.bv_grammar.specs.declared.words.Terminal.TheVariants as terminals
use Rattle.bv_grammar.specs.declared.words.Role.{Role}
use Rattle.bv_grammar.specs.declared.words.Role.TheVariants as roles
use Rattle.bv_grammar.specs.declared.words.Fixity.{Fixity}
use Rattle.bv_grammar.specs.Operators.{fixity_of, when_fits}
use Rattle.bv_grammar.specs.Grammar.{terminal_of, Symbol, terminal, finish, term, tail, operator_on, Begins, fitting}
use Rattle.bv_grammar.specs.Grammar as g
use Rattle.bv_grammar.specs.Derivation.{Derives, here, taken, at_end, not_next, by_rule}
use Rattle.bv_grammar.proofs.Derivations.{grows, follow, after_terminal, after_finish, after_unless}
use Rattle.bv_grammar.proofs.Tables.{predicts}
use Rattle.bv_grammar.proofs.Rules.{forced}

-- what stands behind is left alone
pub in_front : {ts : List Terminal} {r s : List Symbol} {i j : ℕ} (a : List Symbol) → Derives ts r i s j → Derives ts (r ++ a) i (s ++ a) j
in_front a here = here
in_front a (taken e d) = taken e (in_front a d)
in_front a (at_end e d) = at_end e (in_front a d)
in_front a (not_next e d) = not_next e (in_front a d)
in_front {ts} {s = s} {i = i} {j = j} a (by_rule {r = x} {a = b} q d) = by_rule q (subst (λ v. Derives ts v i (s ++ a) j) (append_assoc x b a) (in_front a d))

pub goes_through : {ts : List Terminal} {r s c e : List Symbol} {i j m n : ℕ} (z a : List Symbol) → Derives ts r i s j → j < m → Derives ts (s ++ z) j e m → j < n → Derives ts (r ++ a) i c n → Derives ts (s ++ a) j c n
goes_through z a here h k h' d' = d'
goes_through z a (taken e d) h k h' d' = goes_through z a d h k h' (after_terminal (omega (arith, grows d)) d').1
goes_through z a (at_end e d) h k h' d' = goes_through z a d h k h' (after_finish (omega (arith, grows d)) d').1
goes_through z a (not_next e d) h k h' d' = goes_through z a d h k h' (after_unless (omega (arith, grows d)) d').1
goes_through {ts} {c = c} {e = e'} {i = i} {m = m} {n = n} z a (by_rule {r = x} {a = b} q d) h k h' d' =
    let on : Derives ts (x ++ (b ++ z)) i e' m = subst (λ v. Derives ts v i e' m) (append_assoc x b z) (follow (in_front z d) k) in
    let there : Derives ts (x ++ (b ++ a)) i c n = forced q (predicts (b ++ z) q (omega (arith, grows d)) on) (omega (arith, grows d)) d' in
    goes_through z a d h k h' (subst (λ v. Derives ts v i c n) (sym (append_assoc x b a)) there)

pub goes_on : {ts : List Terminal} {r s c e : List Symbol} {i j m n : ℕ} → Derives ts r i s j → j < m → Derives ts s j e m → j < n → Derives ts r i c n → Derives ts s j c n
goes_on here h k h' d' = d'
goes_on (taken e d) h k h' d' = goes_on d h k h' (after_terminal (omega (arith, grows d)) d').1
goes_on (at_end e d) h k h' d' = goes_on d h k h' (after_finish (omega (arith, grows d)) d').1
goes_on (not_next e d) h k h' d' = goes_on d h k h' (after_unless (omega (arith, grows d)) d').1
goes_on (by_rule {a = b} q d) h k h' d' = goes_on d h k h' (forced q (predicts b q (omega (arith, grows d)) (follow d k)) (omega (arith, grows d)) d')

-- a derivation that goes beyond a terminal takes it so
pub behind_taken : {ts : List Terminal} {r : Role} {b a c : List Symbol} {i j n : ℕ} → Derives ts b i (terminal r ∷ a) j → slice_get ts j ≡ Some (terminal_of r) → j < n → Derives ts b i c n → Derives ts a (j + 1) c n
behind_taken d e h d' = (after_terminal h (goes_on d (omega arith) (taken e here) h d')).1

-- every terminal is taken by something, and so is the end
abbrev any_role : Terminal → Role
any_role terminals.Name = roles.Variable
any_role terminals.Numeral = roles.Numeral
any_role terminals.Text = roles.File
any_role (terminals.Word w) = roles.Word w

any_taken : (t : Terminal) → terminal_of (any_role t) ≡ t
any_taken terminals.Name = refl
any_taken terminals.Numeral = refl
any_taken terminals.Text = refl
any_taken (terminals.Word w) = refl

next_taken : (ts : List Terminal) (j : ℕ) (o : Option Terminal) → slice_get ts j ≡ o → (z : Symbol) × Derives ts (z ∷ []) j [] (j + 1)
next_taken ts j None e = (finish, at_end e here)
next_taken ts j (Some t) e = (terminal (any_role t), taken (e ∙ ap Some (sym (any_taken t))) here)

no_operator : (p l : ℕ) (w : Word) → when_fits p l (fixity_of w) ≡ None → Begins (operator_on p l) (terminals.Word w) → ⊥
no_operator p l w e b = elim b [ fitting o f ↦ (cc) ]

same_next : {t u : Terminal} → Some t ≡ Some u → t ≡ u
same_next e = cc

-- what follows in a term, whether it goes on or not
operator_next : (ts : List Terminal) (p l j : ℕ) (z : Symbol) (w : Word) (o : Option Fixity) → Derives ts (z ∷ []) j [] (j + 1) → slice_get ts j ≡ Some (terminals.Word w) → when_fits p l (fixity_of w) ≡ o → (e : List Symbol) × Derives ts (tail p l ∷ z ∷ []) j e (j + 1)
operator_next ts p l j z w (Some o) d e f = (_, by_rule (g.infix_ o f) (taken e here))
operator_next ts p l j z w None d e f = (_, by_rule g.no_infix (not_next (λ t q b. no_operator p l w f (subst (Begins (operator_on p l)) (same_next (sym q ∙ e)) b)) d))

stops_at : (ts : List Terminal) (p l j : ℕ) (z : Symbol) → ((t : Terminal) → slice_get ts j ≡ Some t → Begins (operator_on p l) t → ⊥) → Derives ts (z ∷ []) j [] (j + 1) → (e : List Symbol) × Derives ts (tail p l ∷ z ∷ []) j e (j + 1)
stops_at ts p l j z n d = (_, by_rule g.no_infix (not_next n d))

not_there : {o : Option Terminal} {t : Terminal} → o ≡ None → o ≡ Some t → ⊥
not_there e f = cc

tail_next : (ts : List Terminal) (p l j : ℕ) (z : Symbol) (o : Option Terminal) → slice_get ts j ≡ o → Derives ts (z ∷ []) j [] (j + 1) → (e : List Symbol) × Derives ts (tail p l ∷ z ∷ []) j e (j + 1)
tail_next ts p l j z None e d = stops_at ts p l j z (λ t q b. not_there e q) d
tail_next ts p l j z (Some (terminals.Word w)) e d = operator_next ts p l j z w (when_fits p l (fixity_of w)) d e refl
tail_next ts p l j z (Some terminals.Name) e d = stops_at ts p l j z (λ t q b. elim (subst (Begins (operator_on p l)) (same_next (sym q ∙ e)) b) [ ]) d
tail_next ts p l j z (Some terminals.Numeral) e d = stops_at ts p l j z (λ t q b. elim (subst (Begins (operator_on p l)) (same_next (sym q ∙ e)) b) [ ]) d
tail_next ts p l j z (Some terminals.Text) e d = stops_at ts p l j z (λ t q b. elim (subst (Begins (operator_on p l)) (same_next (sym q ∙ e)) b) [ ]) d

-- a derivation that goes beyond what is read of a term goes on from there
pub behind_part : {ts : List Terminal} {p l i j n : ℕ} {c : List Symbol} (b : List Symbol) → Derives ts (term p ∷ []) i (tail p l ∷ []) j → j < n → Derives ts (term p ∷ b) i c n → Derives ts (tail p l ∷ b) j c n
behind_part {ts} {p} {l} {j = j} b d h d' =
    let z = next_taken ts j (slice_get ts j) refl in
    let e = tail_next ts p l j z.0 (slice_get ts j) refl z.1 in
    goes_through (z.0 ∷ []) b d (omega arith) e.1 h d'
