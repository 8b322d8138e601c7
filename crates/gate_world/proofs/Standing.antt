-- The literal that a view gives for a tree is the one that stands for it.
use Rattle.std.proofs.Common.{◌≡◌, ◌≢◌, ℕ, zero, suc, ◌+◌, ◌-◌, ◌<◌, ◌≤◌, Bool, true, false, not, ◌&&◌, ◌||◌, ◌*◌, cond, List, [], ◌∷◌, ◌++◌, length, nat_eq, refl, sym, ap, ◌∙◌, subst, arith, true≢false}
use Rattle.std.specs.List.{position_or_len}
use Rattle.std.proofs.lemmas.Grind.{common_steps}
use Rattle.gate_shape.specs.Literal.{Literal}
use Rattle.gate_shape.specs.Edge.{Edge, Gate, constant, input, gate, same_sign, gate_edge, same, same_gate}
use Rattle.gate_shape.specs.Word.{same_literal}
use Rattle.gate_shape.specs.Listed.{has_gate}
use Rattle.gate_shape.proofs.Sameness.{same-eq}
use Rattle.gate_probe.specs.Words.{word_at, left_of, right_of}
use Rattle.gate_probe.specs.Sound.{IsWithin, IsPart}
use Rattle.gate_probe.specs.Standing.{word_of, StandsIn}
use Rattle.gate_probe.proofs.Parts.{literal_parts}
use Rattle.gate_probe.proofs.Standing.{stands_more}
use Rattle.gate_world.specs.Literals.{has_pair, literal_in}
use Rattle.gate_world.specs.Right.{IsMade}
use Rattle.gate_world.specs.Doing.{IsBuilt, AreBuilt}

-- the first that passes passes
first_found : (p : ℕ → Bool) (xs : List ℕ) (s : ℕ) → p 0 ≡ false → p (word_at xs s) ≡ true → p (word_at xs (position_or_len p xs)) ≡ true
first_found p [] s none h = absurd (true≢false (sym h ∙ none))
first_found p (x ∷ xs) s none h = go (p x) refl s h (λ k. first_found p xs k none)
  where
    go : (b : Bool) → p x ≡ b → (s : ℕ) → p (word_at (x ∷ xs) s) ≡ true → ((k : ℕ) → p (word_at xs k) ≡ true → p (word_at xs (position_or_len p xs)) ≡ true) → p (word_at (x ∷ xs) (cond (not b) (1 + position_or_len p xs) 0)) ≡ true
    go true e s h rest = e
    go false e zero h rest = absurd (true≢false (sym h ∙ e))
    go false e (suc s) h rest = let on : 1 + position_or_len p xs ≡ suc (position_or_len p xs) = omega arith in ap (λ j. p (word_at (x ∷ xs) j)) on ∙ rest s h

sign_same : (a b : Bool) → same_sign a b ≡ true → a ≡ b
sign_same true true h = refl
sign_same true false h = absurd (true≢false (sym h))
sign_same false true h = absurd (true≢false (sym h))
sign_same false false h = refl

sign_self : (a : Bool) → same_sign a a ≡ true
sign_self true = refl
sign_self false = refl

and_left : (a b : Bool) → a && b ≡ true → a ≡ true
and_left true b h = refl
and_left false b h = h

and_right : (a b : Bool) → a && b ≡ true → b ≡ true
and_right true b h = h
and_right false b h = absurd (true≢false (sym h))

and_both : (a b : Bool) → a ≡ true → b ≡ true → a && b ≡ true
and_both a b p q = rw (p, q) refl

pub number_same : (a b : ℕ) → nat_eq a b ≡ true → a ≡ b
number_same a b h = grind (arith, common_steps)

pub number_self : (a : ℕ) → nat_eq a a ≡ true
number_self a = grind (arith, common_steps)

pub number_other : (a b : ℕ) → a ≢ b → nat_eq a b ≡ false
number_other a b n = grind (arith, common_steps)

literal_same : (a b : Literal) → same_literal a b ≡ true → a ≡ b
literal_same a b h = literal_parts a b (number_same a.node b.node (and_right (same_sign a.sign b.sign) (nat_eq a.node b.node) h)) (sign_same a.sign b.sign (and_left (same_sign a.sign b.sign) (nat_eq a.node b.node) h))

literal_self : (a b : Literal) → a ≡ b → same_literal a b ≡ true
literal_self a b e = rw e (and_both (same_sign b.sign b.sign) (nat_eq b.node b.node) (sign_self b.sign) (number_self b.node))

some_word : (w : ℕ) → not (nat_eq w 0) ≡ true → w ≢ 0
some_word w e z = grind (arith, common_steps)

word_some : (w : ℕ) → w ≢ 0 → not (nat_eq w 0) ≡ true
word_some w n = grind (arith, common_steps)

pair_parts : (l r : Literal) (w : ℕ) → has_pair l r w ≡ true → (w ≢ 0) × (left_of w ≡ l) × (right_of w ≡ r)
pair_parts l r w h =
    let rest = and_right (not (nat_eq w 0)) (same_literal (left_of w) l && same_literal (right_of w) r) h in (
      some_word w (and_left (not (nat_eq w 0)) (same_literal (left_of w) l && same_literal (right_of w) r) h),
      literal_same (left_of w) l (and_left (same_literal (left_of w) l) (same_literal (right_of w) r) rest),
      literal_same (right_of w) r (and_right (same_literal (left_of w) l) (same_literal (right_of w) r) rest),
    )

pair_from : (l r : Literal) (w : ℕ) → w ≢ 0 → left_of w ≡ l → right_of w ≡ r → has_pair l r w ≡ true
pair_from l r w n a b =
    and_both (not (nat_eq w 0)) (same_literal (left_of w) l && same_literal (right_of w) r) (word_some w n)
    (and_both (same_literal (left_of w) l) (same_literal (right_of w) r) (literal_self (left_of w) l a) (literal_self (right_of w) r b))

-- a literal that stands for a tree is the one that the view gives
pub literal_is : (seen : List ℕ) → IsPart seen → (e : Edge) (l : Literal) → StandsIn seen l e → literal_in seen e ≡ l
unfolding literal_in
literal_is seen part (constant s) l h = literal_parts _ l (sym h.0) (sym h.1)
literal_is seen part (input s k j) l h = literal_parts _ l (sym h.2) (sym h.3)
literal_is seen part (gate s a b) l h =
    let w : ℕ = word_of seen l in
    let x : literal_in seen a ≡ left_of w = literal_is seen part a (left_of w) h.3 in
    let y : literal_in seen b ≡ right_of w = literal_is seen part b (right_of w) h.4 in
    let q : ℕ = position_or_len (has_pair (literal_in seen a) (literal_in seen b)) seen in
    let there : has_pair (literal_in seen a) (literal_in seen b) (word_at seen q) ≡ true = first_found (has_pair (literal_in seen a) (literal_in seen b)) seen (l.node - 8193) refl (pair_from (literal_in seen a) (literal_in seen b) w h.1 (sym x) (sym y)) in
    let p = pair_parts (literal_in seen a) (literal_in seen b) (word_at seen q) there in
    let all : List ℕ = part.0 in
    let here : word_at all (l.node - 8193) ≡ w = part.2 (l.node - 8193) h.1 in
    let at : word_at all q ≡ word_at seen q = part.2 q p.0 in
    let e : q ≡ l.node - 8193 = (part.1 (l.node - 8193) (λ z. h.1 (sym here ∙ z))).alone q (λ z. p.0 (sym at ∙ z))
    (ap left_of at ∙ p.1 ∙ x ∙ ap left_of (sym here)) (ap right_of at ∙ p.2 ∙ y ∙ ap right_of (sym here)) in
    let some : 8193 ≤ l.node = h.0 in
    literal_parts _ l (omega arith) (sym h.2)

-- nonempty words are at places of the list
pub place_below : (words : List ℕ) (s : ℕ) → word_at words s ≢ 0 → s < length words
place_below [] s h = absurd (h refl)
place_below (x ∷ xs) zero h = omega arith
place_below (x ∷ xs) (suc s) h = let p : s < length xs = place_below xs s h in omega arith

-- a literal that stands fits a word
pub node_small : (seen words : List ℕ) → IsWithin seen words → length words ≤ 4000000 → (e : Edge) (l : Literal) → StandsIn seen l e → l.node < 4194304
node_small seen words w few (constant s) l h = let p = h.0 in omega arith
node_small seen words w few (input s k j) l h = let p = h.2 in let q = h.0 in let r = h.1 in omega arith
node_small seen words w few (gate s a b) l h =
    let p : l.node - 8193 < length words = place_below words (l.node - 8193) (λ z. h.1 (sym (w (l.node - 8193) h.1) ∙ z)) in
    let q : 8193 ≤ l.node = h.0 in
    omega arith

pub built_more : (seen more : List ℕ) → IsWithin seen more → (gs : List Gate) → AreBuilt seen gs → AreBuilt more gs
built_more seen more w [] h = tt
built_more seen more w (g ∷ gs) h = ((h.0.0, stands_more seen more w (gate_edge g) h.0.0 h.0.1), built_more seen more w gs h.1)

pub built_push : (seen : List ℕ) (gs : List Gate) (g : Gate) → AreBuilt seen gs → IsBuilt seen g → AreBuilt seen (gs ++ g ∷ [])
built_push seen [] g h b = (b, tt)
built_push seen (x ∷ xs) g h b = (h.0, built_push seen xs g h.1 b)

or_cases : (a b : Bool) (P : Type 0) → a || b ≡ true → (a ≡ true → P) → (b ≡ true → P) → P
or_cases true b P h f g = f refl
or_cases false b P h f g = g h

pub gate_same : (g h : Gate) → same_gate g h ≡ true → g ≡ h
gate_same g h e =
    let l = same-eq g.left h.left (and_left (same g.left h.left) (same g.right h.right) e) in
    let r = same-eq g.right h.right (and_right (same g.left h.left) (same g.right h.right) e) in
    λ i. record { left = l i; right = r i }

-- one of the gates that are built
pub built_at : (seen : List ℕ) (gs : List Gate) (g : Gate) → AreBuilt seen gs → has_gate gs g ≡ true → IsBuilt seen g
unfolding has_gate
built_at seen [] g h e = absurd (true≢false (sym e))
built_at seen (x ∷ xs) g h e = or_cases (same_gate x g) (has_gate xs g) (IsBuilt seen g) e (λ q. subst (IsBuilt seen) (gate_same x g q) h.0) (λ q. built_at seen xs g h.1 q)

-- a fanin over gates that are built has a literal
pub made_stands : (seen : List ℕ) (gs : List Gate) (e : Edge) → AreBuilt seen gs → IsMade gs e → (l : Literal) × StandsIn seen l e
made_stands seen gs (constant s) h m = (record { node = 0; sign = s }, (refl, refl))
made_stands seen gs (input s k j) h m = (record { node = 1 + 128 * k + j; sign = s }, (m.0, m.1, refl, refl))
made_stands seen gs (gate s a b) h m =
    let f = built_at seen gs record { left = a; right = b } h m in
    (record { node = f.0.node; sign = s }, (f.1.0, f.1.1, refl, f.1.3, f.1.4))
