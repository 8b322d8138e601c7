-- A word that stands at a place, letter by letter.
use Rattle.std.proofs.Common.{◌≡◌, ℕ, ◌+◌, ◌<◌, ◌≤◌, List, length, get_or, drop, Some, sym, subst, arith, drop-cons, add-one, ap, map, ◌∙◌, ◌⊎◌, inl, inr}
use Rattle.std.specs.Prelude.{slice_get}
use Rattle.std.specs.List.{Contains}
use Rattle.std.proofs.lemmas.List.{get_or-map, length-map}
use Rattle.bv_lex.specs.Words.{Stands}

pub one_letter : (cs w : List ℕ) (i k : ℕ) → k < length w → slice_get cs (i + k) ≡ Some (get_or w k 0) → Stands cs (i + (k + 1)) (drop (k + 1) w) → Stands cs (i + k) (drop k w)
one_letter cs w i k h e s = rw (drop-cons w k 0) (e, subst (λ v. Stands cs (i + k + 1) v) (ap (λ n. drop n w) (add-one k)) (subst (λ n. Stands cs n (drop (k + 1) w)) (omega arith) s))

pub no_letter : (cs w : List ℕ) (i k : ℕ) → k < length w → Stands cs (i + k) (drop k w) → (slice_get cs (i + k) ≡ Some (get_or w k 0)) × Stands cs (i + (k + 1)) (drop (k + 1) w)
no_letter cs w i k h s =
    let t = rw (drop-cons w k 0) at s in
    (t.0, subst (λ n. Stands cs n (drop (k + 1) w)) (omega arith) (subst (λ v. Stands cs (i + k + 1) v) (ap (λ n. drop n w) (sym (add-one k))) t.1))

le_cases : (i n : ℕ) → i ≤ n → (i ≡ n) ⊎ (i + 1 ≤ n)
le_cases i n h = grind arith

-- one more word of a table
pub longest_step : {X : Type 0} (f : X → List ℕ) (cs : List ℕ) (at : ℕ) (xs : List X) (i : ℕ) (d : X) (best new : ℕ) → i < length xs → best ≤ new
    → ((k : ℕ) (w : List ℕ) → k < i → get_or (map f xs) k w ≡ w → Stands cs at w → length w ≤ best)
    → (Stands cs at (f (get_or xs i d)) → length (f (get_or xs i d)) ≤ new)
    → (k : ℕ) (w : List ℕ) → k < i + 1 → get_or (map f xs) k w ≡ w → Stands cs at w → length w ≤ new
longest_step f cs at xs i d best new h grows inv covers k w l e s = elim (le_cases k i (omega arith)) [
  | inl same ↦
      let is_it : w ≡ f (get_or xs i d) = sym e ∙ ap (λ n. get_or (map f xs) n w) same ∙ get_or-map f xs i d w h in
      let bound = covers (subst (λ v. Stands cs at v) is_it s) in
      subst (λ v. length v ≤ new) (sym is_it) bound
  | inr less ↦ let old = inv k w (omega arith) e s in omega arith
]

pub there_step : {X : Type 0} (f : X → List ℕ) (cs : List ℕ) (at : ℕ) (xs : List X) (i : ℕ) (d : X) (best new : ℕ) → i < length xs → best ≤ new
    → (0 < best → (w : List ℕ) × Contains (map f xs) w × Stands cs at w × (length w ≡ best))
    → (best < new → Stands cs at (f (get_or xs i d)) × (length (f (get_or xs i d)) ≡ new))
    → 0 < new → (w : List ℕ) × Contains (map f xs) w × Stands cs at w × (length w ≡ new)
there_step f cs at xs i d best new h grows inv word l = elim (le_cases best new grows) [
  | inl same ↦ let old = inv (omega arith) in (old.0, old.1, old.2, old.3 ∙ same)
  | inr more ↦ let now = word (omega arith) in (f (get_or xs i d), (i, simp length-map h, get_or-map f xs i d (f (get_or xs i d)) h), now.0, now.1)
]
