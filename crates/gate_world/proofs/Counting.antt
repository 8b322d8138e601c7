-- No more different gates are built than there are words.
use Rattle.std.proofs.Common.{◌≡◌, ◌≢◌, ℕ, ◌+◌, ◌-◌, ◌<◌, ◌≤◌, Bool, true, false, ◌&&◌, ◌||◌, List, [], ◌∷◌, ◌++◌, length, map, nat_eq, refl, sym, ap, ◌∙◌, subst, arith, true≢false}
use Rattle.std.specs.List.{list_any, IsDistinct, AllByRecursion}
use Rattle.std.proofs.lemmas.List.{length-map}
use Rattle.std.proofs.lemmas.Map.Steps.{length-le_from_distinct_below}
use Rattle.gate_shape.specs.Literal.{Literal}
use Rattle.gate_shape.specs.Edge.{Gate, gate_edge, same, same_gate}
use Rattle.gate_shape.specs.Builds.{edge, noted_all}
use Rattle.gate_shape.specs.Listed.{has_gate, note_new}
use Rattle.gate_shape.proofs.Sameness.{same-self}
use Rattle.gate_shape.proofs.Listing.{note_known, note_unknown}
use Rattle.gate_probe.specs.Words.{word_at}
use Rattle.gate_probe.specs.Known.{meant}
use Rattle.gate_probe.specs.Sound.{IsPart, IsWithin}
use Rattle.gate_probe.proofs.Parts.{literal_parts}
use Rattle.gate_probe.proofs.Standing.{stands_meant}
use Rattle.gate_probe.proofs.Meaning.{gate_parts}
use Rattle.gate_world.specs.Literals.{literal_in, place_in}
use Rattle.gate_world.proofs.Standing.{literal_is, place_below, built_push, gate_same, number_same, number_other}
use Rattle.gate_world.specs.Doing.{IsBuilt, AreBuilt}

-- no gate is there twice
abbrev AreApart : List Gate → Type 0
AreApart [] = Unit {0}
AreApart (g ∷ gs) = (has_gate gs g ≡ false) × AreApart gs

or_false : (a b : Bool) → a || b ≡ false → (a ≡ false) × (b ≡ false)
or_false true b h = absurd (true≢false h)
or_false false b h = (refl, h)

false_or : (a b : Bool) → a ≡ false → b ≡ false → a || b ≡ false
false_or a b p q = rw (p, q) refl

gate_self : (g h : Gate) → g ≡ h → same_gate g h ≡ true
gate_self g h e = rw e (go (same h.left h.left) (same h.right h.right) (same-self h.left) (same-self h.right))
  where
    go : (a b : Bool) → a ≡ true → b ≡ true → a && b ≡ true
    go a b p q = rw (p, q) refl

lacks_push : (gs : List Gate) (g h : Gate) → has_gate gs h ≡ false → same_gate g h ≡ false → has_gate (gs ++ g ∷ []) h ≡ false
unfolding has_gate
lacks_push [] g h e d = false_or (same_gate g h) false d refl
lacks_push (x ∷ xs) g h e d = let p = or_false (same_gate x h) (has_gate xs h) e in false_or (same_gate x h) (has_gate (xs ++ g ∷ []) h) p.0 (lacks_push xs g h p.1 d)

by_bool : (b : Bool) (P : Type 0) → (b ≡ true → P) → (b ≡ false → P) → P
by_bool true P f g = f refl
by_bool false P f g = g refl

and_left : (a b : Bool) → a && b ≡ true → a ≡ true
and_left true b h = refl
and_left false b h = h

module _ (seen : List ℕ) (part : IsPart seen) where
  pub place : Gate → ℕ
  place g = place_in seen (gate_edge g)

  -- where the word of a gate is
  node_at : (g : Gate) (b : IsBuilt seen g) → (8193 ≤ b.0.node) × (b.0.node ≡ 8193 + place g) × (b.0.sign ≡ false)
  unfolding place
  node_at g b =
      let e = literal_is seen part (gate_edge g) b.0 b.1 in
      let some : 8193 ≤ b.0.node = b.1.0 in
      let n : (literal_in seen (gate_edge g)).node ≡ b.0.node = ap (λ (l : Literal). l.node) e in
      (some, omega arith, b.1.2)

  -- gates at one place are one gate
  one_place : (g h : Gate) → IsBuilt seen g → IsBuilt seen h → place g ≡ place h → g ≡ h
  one_place g h b c e =
      let p = node_at g b in let q = node_at h c in
      let same_literal : b.0 ≡ c.0 = literal_parts b.0 c.0 (p.1 ∙ ap (λ n. 8193 + n) e ∙ sym q.1) (p.2 ∙ sym q.2) in
      let x = stands_meant seen false [] part b.0 (gate_edge g) b.1 in
      let y = stands_meant seen false [] part c.0 (gate_edge h) c.1 in
      gate_parts g h (sym x.stands_for ∙ ap (edge (meant seen false [])) same_literal ∙ y.stands_for)

  place_word : (g : Gate) → IsBuilt seen g → word_at seen (place g) ≢ 0
  place_word g b =
      let p = node_at g b in
      let at : b.0.node - 8193 ≡ place g = (let x = p.1 in omega arith) in
      (λ z. b.1.1 (ap (word_at seen) at ∙ z))

  others_apart : (g : Gate) (gs : List Gate) → IsBuilt seen g → AreBuilt seen gs → has_gate gs g ≡ false → AllByRecursion (λ y. nat_eq (place g) y ≡ false) (map place gs)
  unfolding has_gate
  others_apart g [] b bs h = tt
  others_apart g (x ∷ xs) b bs h =
      let p = or_false (same_gate x g) (has_gate xs g) h in
      let other : place g ≢ place x = (λ e. true≢false (sym (gate_self x g (sym (one_place g x b bs.0 e))) ∙ p.0)) in
      (number_other (place g) (place x) other, others_apart g xs b bs.1 p.1)

  distinct : (gs : List Gate) → AreBuilt seen gs → AreApart gs → IsDistinct nat_eq (map place gs)
  unfolding IsDistinct
  distinct [] b a = tt
  distinct (g ∷ gs) b a = (others_apart g gs b.0 b.1 a.0, distinct gs b.1 a.1)

  all_below : (gs : List Gate) (n q : ℕ) → AreBuilt seen gs → ((s : ℕ) → word_at seen s ≢ 0 → s < n) → list_any (nat_eq q) (map place gs) ≡ true → q < n
  all_below [] n q b below h = absurd (true≢false (sym h))
  all_below (g ∷ gs) n q b below h =
      by_bool (nat_eq q (place g)) (q < n)
      (λ e. let is : q ≡ place g = number_same q (place g) e in subst (λ k. k < n) (sym is) (below (place g) (place_word g b.0)))
      (λ e. all_below gs n q b.1 below (rw e at h))

  -- different gates that are built are no more than the words
  few : (words : List ℕ) → IsWithin seen words → (gs : List Gate) → AreBuilt seen gs → AreApart gs → length gs ≤ length words
  few words w gs b a =
      let l = length-le_from_distinct_below (map place gs) (length words) (distinct gs b a) (λ q h. all_below gs (length words) q b (λ s n. place_below words s (λ z. n (sym (w s n) ∙ z))) h) in
      let e : length (map place gs) ≡ length gs = length-map gs place in
      omega arith

  apart_push : (gs : List Gate) (g : Gate) → AreApart gs → has_gate gs g ≡ false → AreApart (gs ++ g ∷ [])
  unfolding has_gate
  apart_push [] g a h = (refl, tt)
  apart_push (x ∷ xs) g a h =
      let p = or_false (same_gate x g) (has_gate xs g) h in
      let other : same_gate g x ≡ false = by_bool (same_gate g x) (same_gate g x ≡ false) (λ e. absurd (true≢false (sym (gate_self x g (sym (gate_same g x e))) ∙ p.0))) (λ e. e) in
      (lacks_push xs g x a.0 other, apart_push xs g a.1 p.1)

  -- those that a list keeps are apart, and built
  kept_apart : (kept gs : List Gate) → AreApart kept → AreBuilt seen kept → AreBuilt seen gs → AreApart (noted_all note_new kept gs) × AreBuilt seen (noted_all note_new kept gs)
  kept_apart kept [] a b c = (a, b)
  kept_apart kept (g ∷ gs) a b c =
      by_bool (has_gate kept g) (AreApart (noted_all note_new (note_new kept g true) gs) × AreBuilt seen (noted_all note_new (note_new kept g true) gs))
      (λ e. rw (note_known kept g e) (kept_apart kept gs a b c.1))
      (λ e. rw (note_unknown kept g e) (kept_apart (kept ++ g ∷ []) gs (apart_push kept g a e) (built_push seen kept g b c.0) c.1))

  pub kept_few : (words : List ℕ) → IsWithin seen words → (gs : List Gate) → AreBuilt seen gs → length (noted_all note_new [] gs) ≤ length words
  kept_few words w gs b = let k = kept_apart [] gs tt tt b in few words w (noted_all note_new [] gs) k.1 k.0
