-- A vector's iterator that is walked to its end gives its items.
use Rattle.std.proofs.Common.{◌≡◌, ◌∙◌, List, [], ◌∷◌, ap, sym, refl, length, drop, arith, Some, None, Ok, Err}
use Rattle.std.specs.Prelude.{Option, Result, IfOk}
use Rattle.std.specs.Iterator.{Yields}
use Rattle.std.specs.Vec.Iter.{into_iter_items, into_iter_len, into_iter_steps}
use Rattle.std.specs.declared.vec.IntoIter.{IntoIter}

no_items : {X : Type 0} (items : List X) → length items ≡ 0 → items ≡ []
no_items [] h = refl
no_items (x ∷ items) h = absurd (omega (arith, h))

no_items_left : {X Z : Type 0} (it : IntoIter X Z) → into_iter_len it ≡ 0 → into_iter_items it ≡ []
no_items_left it h = no_items (into_iter_items it) (sym it.rest.ok.0 ∙ h)

-- what is given up to the end
pub drained : {X Z : Type 0} (s : IntoIter X Z) (xs : List X) (t u : IntoIter X Z) → Yields into_iter_steps s xs t → into_iter_steps t None u → xs ≡ into_iter_items s
drained s [] t u y e = sym (ap into_iter_items y ∙ no_items_left t e.0)
drained s (x ∷ xs) t u y e = ap (λ ys. x ∷ ys) (drained y.0 xs t u y.2 e) ∙ sym y.1.0

-- what is left behind the next item
pub behind_next : {X Z : Type 0} (s t : IntoIter X Z) (r : Option X) → into_iter_steps s r t → into_iter_items t ≡ drop 1 (into_iter_items s)
behind_next s t None e = no_items_left t e.1 ∙ sym (ap (drop 1) (no_items_left s e.0))
behind_next s t (Some x) e = sym (ap (drop 1) e.0)

pub if_ok : {T E : Type 0} → (r : Result T E) (P Q : T → Type 0) → ((x : T) → P x → Q x) → IfOk r P → IfOk r Q
if_ok (Ok x) P Q f p = f x p
if_ok (Err e) P Q f p = p
