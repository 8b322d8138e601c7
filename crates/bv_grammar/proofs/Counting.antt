-- How many terms are open on a stack.
use Rattle.std.proofs.Common.{◌≡◌, ℕ, ◌+◌, ◌-◌, ◌≤◌, List, [], ◌∷◌, ◌++◌, length, Some, refl, sym, ap, subst, arith, ◌∙◌, ◌⊎◌, inl, inr, length-append}
use Rattle.std.specs.Prelude.{slice_get}
use Rattle.std.proofs.lemmas.Option.{slice_get-get_or}
use Rattle.std.proofs.Math.Seq.{get_or-append_seam}
use Rattle.bv_grammar.specs.declared.stack.Open.{Open}
use Rattle.bv_grammar.specs.declared.stack.Open.TheVariants as opens
use Rattle.bv_grammar.specs.Grammar.{Symbol, finish}
use Rattle.bv_grammar.specs.Taking.{terms_open, waiting}
use Rattle.bv_grammar.specs.Moves.{symbol_of, opened, waiting_before}
use Rattle.bv_grammar.proofs.Pushing.{pushed}

one_symbol : (x : Open) (a : List Symbol) → terms_open (symbol_of x ∷ a) ≡ terms_open (symbol_of x ∷ []) + terms_open a
one_symbol (opens.Tail p l) a = omega arith
one_symbol _ a = omega arith

pub terms_below : (s : List Open) (a : List Symbol) → terms_open (opened s a) ≡ terms_open (opened s []) + terms_open a
terms_below [] a = omega arith
terms_below (x ∷ s) a = omega (arith, terms_below s (symbol_of x ∷ a), terms_below s (symbol_of x ∷ []), one_symbol x a)

one_at_most : (x : Open) → terms_open (symbol_of x ∷ []) ≤ 1
one_at_most (opens.Tail p l) = omega arith
one_at_most _ = omega arith

pub terms_within : (s : List Open) → terms_open (opened s []) ≤ length s
terms_within [] = omega arith
terms_within (x ∷ s) = omega (arith, terms_below s (symbol_of x ∷ []), one_at_most x, terms_within s)

-- another symbol changes the number where it is what goes on in a term
pub with_tail : (s s' : List Open) (x : Open) (p l : ℕ) → s' ≡ s ++ x ∷ [] → x ≡ opens.Tail p l → terms_open (opened s' []) ≡ terms_open (opened s []) + 1
with_tail s s' x p l e f = ap terms_open (pushed s s' x e []) ∙ ap (λ y. terms_open (symbol_of y ∷ opened s [])) f ∙ omega arith

same_terms : (x : Open) (b : List Symbol) → ((p l : ℕ) → x ≡ opens.Tail p l → ⊥) → terms_open (symbol_of x ∷ b) ≡ terms_open b
same_terms (opens.Tail p l) b n = absurd (n p l refl)
same_terms _ b n = refl

pub with_other : (s s' : List Open) (x : Open) → s' ≡ s ++ x ∷ [] → ((p l : ℕ) → x ≡ opens.Tail p l → ⊥) → terms_open (opened s' []) ≡ terms_open (opened s [])
with_other s s' x e n = ap terms_open (pushed s s' x e []) ∙ same_terms x (opened s []) n

-- a stack is empty or has a last symbol
ends : (s : List Open) → (s ≡ []) ⊎ ((front : List Open) × (x : Open) × (s ≡ front ++ x ∷ []))
ends [] = inl refl
ends (y ∷ s) = elim (ends s) [
  | inl none ↦ inr ([], y, ap (λ v. y ∷ v) none)
  | inr some ↦ inr (y ∷ some.0, some.1, ap (λ v. y ∷ v) some.2)
]

last_there : (front : List Open) (x : Open) → slice_get (front ++ x ∷ []) (length (front ++ x ∷ []) - 1) ≡ Some x
last_there front x =
    let at : length (front ++ x ∷ []) - 1 ≡ length front = omega (arith, length-append front (x ∷ [])) in
    ap (λ k. slice_get (front ++ x ∷ []) k) at ∙ slice_get-get_or (front ++ x ∷ []) (length front) x (omega (arith, length-append front (x ∷ []))) ∙ ap Some (get_or-append_seam front x [] x)

waits_before : (n : ℕ) (x : Open) (b : List Symbol) → terms_open (symbol_of x ∷ b) ≡ n → waiting_before n (Some x) ≡ waiting (symbol_of x ∷ b)
waits_before n (opens.Term p) b e = sym e
waits_before n _ b e = ap (λ k. k - 1) (sym e)

waits_on : (s front : List Open) (x : Open) → s ≡ front ++ x ∷ [] → waiting_before (terms_open (opened s [])) (Some x) ≡ waiting (opened s (finish ∷ []))
waits_on s front x e =
    let count : terms_open (symbol_of x ∷ opened front (finish ∷ [])) ≡ terms_open (opened s []) = ap terms_open (sym (pushed front s x e (finish ∷ []))) ∙ terms_below s (finish ∷ []) ∙ omega arith in
    waits_before (terms_open (opened s [])) x (opened front (finish ∷ [])) count ∙ ap waiting (sym (pushed front s x e (finish ∷ [])))

-- how many wait is told by the number of terms and the next symbol
pub waits : (s : List Open) → waiting_before (terms_open (opened s [])) (slice_get s (length s - 1)) ≡ waiting (opened s (finish ∷ []))
waits s = elim (ends s) [
  | inl none ↦ subst (λ v. waiting_before (terms_open (opened v [])) (slice_get v (length v - 1)) ≡ waiting (opened v (finish ∷ []))) (sym none) refl
  | inr some ↦ ap (waiting_before (terms_open (opened s []))) (ap (λ v. slice_get v (length v - 1)) some.2 ∙ last_there some.0 some.1) ∙ waits_on s some.0 some.1 some.2
]
