-- What is open on a stack.
use Rattle.std.proofs.Common.{◌≡◌, ℕ, suc, ◌-◌, ◌<◌, ◌≤◌, List, [], ◌∷◌, ◌++◌, length, map, drop, get_or, refl, sym, ap, arith, ◌∙◌, drop-cons}
use Rattle.bv_grammar.specs.declared.stack.Open.{Open}
use Rattle.bv_grammar.specs.Grammar.{Symbol}
use Rattle.bv_grammar.specs.Moves.{symbol_of, opened}

opened_push : (s : List Open) (x : Open) (a : List Symbol) → opened (s ++ x ∷ []) a ≡ symbol_of x ∷ opened s a
opened_push [] x a = refl
opened_push (y ∷ s) x a = opened_push s x (symbol_of y ∷ a)

pub pushed : (s s' : List Open) (x : Open) → s' ≡ s ++ x ∷ [] → (a : List Symbol) → opened s' a ≡ symbol_of x ∷ opened s a
pushed s s' x e a = ap (λ v. opened v a) e ∙ opened_push s x a

-- one more symbol, of those that are put on a stack from the last on
pub further_down : (xs s s' s0 : List Open) (left : ℕ) (d : Open) → 0 < left → left ≤ length xs → s' ≡ s ++ get_or xs (left - 1) d ∷ [] → (a : List Symbol) → opened s a ≡ map symbol_of (drop left xs) ++ opened s0 a → opened s' a ≡ map symbol_of (drop (left - 1) xs) ++ opened s0 a
further_down xs s s' s0 left d pos within e a h =
    let same : suc (left - 1) ≡ left = omega arith in
    let front : drop (left - 1) xs ≡ get_or xs (left - 1) d ∷ drop left xs = drop-cons xs (left - 1) d (omega arith) ∙ ap (λ k. get_or xs (left - 1) d ∷ drop k xs) same in
    pushed s s' _ e a ∙ ap (λ v. symbol_of (get_or xs (left - 1) d) ∷ v) h ∙ sym (ap (λ v. map symbol_of v ++ opened s0 a) front)
