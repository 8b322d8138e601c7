-- Lists whose elements stand for each other, and what is in a set into which a list was put: how long they are.
use Rattle.std.proofs.Common.{◌≡◌, suc, ◌≤◌, Bool, true, false, ◌||◌, List, [], ◌∷◌, ◌++◌, length, refl, sym, ap, ◌∙◌, subst, true≢false}
use Rattle.std.specs.List.{list_any, IsDistinct, AllByRecursion}
use Rattle.std.specs.Cmp.{IsEquivalence}
use Rattle.std.proofs.lemmas.List.Folds.{list_any-append}
use Rattle.std.proofs.lemmas.Map.Keys.{IsDistinct-push}
use Rattle.std.proofs.lemmas.Map.Made.{length-le_from_is_member}
use Rattle.std.proofs.lemmas.Map.Steps.{list_any_congr}
use Rattle.indexmap.specs.IndexSet.{insert_key, insert_all}

by_bool : (b : Bool) {P : Type 0} → (b ≡ true → P) → (b ≡ false → P) → P
by_bool true f g = f refl
by_bool false f g = g refl

pub or_cases : (a b : Bool) {P : Type 0} → a || b ≡ true → (a ≡ true → P) → (b ≡ true → P) → P
or_cases true b h f g = f refl
or_cases false b h f g = g h

pub or_left : (a b : Bool) → a ≡ true → a || b ≡ true
or_left a b e = rw e refl

pub or_right : (a b : Bool) → b ≡ true → a || b ≡ true
or_right true b e = refl
or_right false b e = e

or_none : (a : Bool) → a || false ≡ a
or_none true = refl
or_none false = refl

or_again : (a b : Bool) → (b ≡ true → a ≡ true) → a ≡ a || b
or_again true b f = refl
or_again false true f = f refl
or_again false false f = refl

or_joined : (a b c : Bool) → (a || b) || c ≡ a || (b || c)
or_joined true b c = refl
or_joined false b c = refl

module _ {A B : Type 0} (same : A → A → Bool) (alike : B → B → Bool) (R : A → B → Type 0) (ys : List B) where
  -- one of ys stands for x
  abbrev pub Pick : A → Type 0
  Pick x = (y : B) × (list_any (alike y) ys ≡ true) × R x y

  abbrev Picks : List A → Type 0
  Picks [] = Unit {0}
  Picks (x ∷ xs) = Pick x × Picks xs

  abbrev picked : (xs : List A) → Picks xs → List B
  picked [] p = []
  picked (x ∷ xs) p = p.0.0 ∷ picked xs p.1

  picks : ((x : A) → same x x ≡ true) → (xs : List A) → ((x : A) → list_any (same x) xs ≡ true → Pick x) → Picks xs
  picks self [] f = tt
  picks self (x ∷ xs) f = (f x (or_left (same x x) (list_any (same x) xs) (self x)), picks self xs (λ z h. f z (or_right (same z x) (list_any (same z) xs) h)))

  picked_length : (xs : List A) (p : Picks xs) → length (picked xs p) ≡ length xs
  picked_length [] p = refl
  picked_length (x ∷ xs) p = ap suc (picked_length xs p.1)

  -- where equal ones are one, and one stands for no two
  module _ (is : (y z : B) → alike y z ≡ true → y ≡ z) (one : (x z : A) (y : B) → R x y → R z y → same x z ≡ true) where
    picked_there : (xs : List A) (p : Picks xs) (y : B) → list_any (alike y) (picked xs p) ≡ true → list_any (alike y) ys ≡ true
    picked_there [] p y h = absurd (true≢false (sym h))
    picked_there (x ∷ xs) p y h =
        or_cases (alike y p.0.0) (list_any (alike y) (picked xs p.1)) h (λ e. subst (λ z. list_any (alike z) ys ≡ true) (sym (is y p.0.0 e)) p.0.1) (λ t. picked_there xs p.1 y t)

    picked_apart : (x : A) (y : B) → R x y → (xs : List A) (p : Picks xs) → AllByRecursion (λ z. same x z ≡ false) xs → AllByRecursion (λ z. alike y z ≡ false) (picked xs p)
    picked_apart x y r [] p a = tt
    picked_apart x y r (z ∷ xs) p a =
        (by_bool (alike y p.0.0) (λ e. absurd (true≢false (sym (one x z y r (subst (R z) (sym (is y p.0.0 e)) p.0.2)) ∙ a.0))) (λ n. n), picked_apart x y r xs p.1 a.1)

    picked_once : (xs : List A) (p : Picks xs) → IsDistinct same xs → IsDistinct alike (picked xs p)
    unfolding IsDistinct
    picked_once [] p d = tt
    picked_once (x ∷ xs) p d = (picked_apart x p.0.0 p.0.2 xs p.1 d.0, picked_once xs p.1 d.1)

    -- where there is one for each there are no fewer of them
    pub no_fewer : ((x : A) → same x x ≡ true) → IsEquivalence alike → (xs : List A) → IsDistinct same xs → ((x : A) → list_any (same x) xs ≡ true → Pick x) → length xs ≤ length ys
    no_fewer self laws xs d f =
        let p : Picks xs = picks self xs f in
        let l : length (picked xs p) ≤ length ys = length-le_from_is_member laws (picked xs p) ys (picked_once xs p d) (picked_there xs p) in
        subst (λ n. n ≤ length ys) (picked_length xs p) l

module _ {K : Type 0} {eq : K → K → Bool} (laws : IsEquivalence eq) where
  key_once : (ks : List K) (x : K) → IsDistinct eq ks → IsDistinct eq (insert_key eq ks x)
  key_once ks x d = by_bool (list_any (eq x) ks) (λ e. rw e d) (λ e. rw e (IsDistinct-push laws ks x d e))

  -- no key comes twice into a set
  pub once_inserted : (ks xs : List K) → IsDistinct eq ks → IsDistinct eq (insert_all eq ks xs)
  once_inserted ks [] d = d
  once_inserted ks (x ∷ xs) d = once_inserted (insert_key eq ks x) xs (key_once ks x d)

  has_key : (ks : List K) (x q : K) → list_any (eq q) (insert_key eq ks x) ≡ (list_any (eq q) ks || eq q x)
  has_key ks x q =
      by_bool (list_any (eq x) ks) (λ e. rw e (or_again (list_any (eq q) ks) (eq q x) (λ s. list_any_congr laws q x ks s ∙ e)))
      (λ e. rw e (list_any-append (eq q) ks (x ∷ []) ∙ ap (λ b. list_any (eq q) ks || b) (or_none (eq q x))))

  -- what is in the set was there, or was put there
  pub inserted_has : (ks xs : List K) (q : K) → list_any (eq q) (insert_all eq ks xs) ≡ (list_any (eq q) ks || list_any (eq q) xs)
  inserted_has ks [] q = sym (or_none (list_any (eq q) ks))
  inserted_has ks (x ∷ xs) q = inserted_has (insert_key eq ks x) xs q ∙ ap (λ b. b || list_any (eq q) xs) (has_key ks x q) ∙ or_joined (list_any (eq q) ks) (eq q x) (list_any (eq q) xs)

-- what is put into a set in two parts is put into it
pub inserted_more : {K : Type 0} (eq : K → K → Bool) (ks xs ys : List K) → insert_all eq ks (xs ++ ys) ≡ insert_all eq (insert_all eq ks xs) ys
inserted_more eq ks [] ys = refl
inserted_more eq ks (x ∷ xs) ys = inserted_more eq (insert_key eq ks x) xs ys
