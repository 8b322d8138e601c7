-- The word of a call's gate may be wanted, and where it is found the gate is built.
use Rattle.std.proofs.Common.{◌≡◌, ℕ, ◌+◌, ◌-◌, ◌<◌, ◌≤◌, max, false, List, [], Option, Some, None, option_map, refl, sym, ap, ap₂, ◌∙◌, subst, arith}
use Rattle.gate_shape.specs.Literal.{Literal}
use Rattle.gate_shape.specs.Edge.{Gate, level, gate_level, simplified, key_below, gate_edge}
use Rattle.gate_shape.specs.Word.{gate_word, key_less, simple_literal}
use Rattle.gate_shape.specs.Builds.{Meaning, edge, Stands, OneEach}
use Rattle.gate_shape.proofs.Sameness.{simple_once}
use Rattle.gate_shape.proofs.Listing.{key_once}
use Rattle.gate_probe.specs.Words.{word_at, left_of, right_of, level_at, key_in}
use Rattle.gate_probe.specs.Known.{meant}
use Rattle.gate_probe.specs.Sound.{IsGate, IsPart}
use Rattle.gate_probe.specs.Standing.{StandsIn}
use Rattle.gate_probe.proofs.Parts.{left_packed, right_packed, packed_some}
use Rattle.gate_probe.proofs.Standing.{stands_meant}
use Rattle.gate_probe.proofs.Meaning.{meant_once, meant_level, gate_wanted}
use Rattle.gate_world.specs.Doing.{IsBuilt}

none_from : {A B : Type 0} (f : A → B) (o : Option A) → option_map f o ≡ None → o ≡ None
none_from f None e = refl
none_from f (Some a) e = absurd (cc)

module _ (seen : List ℕ) (part : IsPart seen) (g : Gate) (l r : Literal) (sl : StandsIn seen l g.left) (sr : StandsIn seen r g.right) (xl : l.node < 4194304) (xr : r.node < 4194304) where
  abbrev m : Meaning
  m = meant seen false []

  ml : Stands m l g.left
  ml = stands_meant seen false [] part l g.left sl

  mr : Stands m r g.right
  mr = stands_meant seen false [] part r g.right sr

  one : OneEach m
  one = meant_once seen false [] part

  ll : level_at seen l.node ≡ level g.left
  ll = meant_level seen false [] part l ml.known ∙ ap level ml.stands_for

  lr : level_at seen r.node ≡ level g.right
  lr = meant_level seen false [] part r mr.known ∙ ap level mr.stands_for

  apart_literals : simplified g.left g.right ≡ None → simple_literal l r ≡ None
  apart_literals apart = none_from (edge m) (simple_literal l r) (sym (simple_once m one l r ml.known mr.known) ∙ (λ i. simplified (ml.stands_for i) (mr.stands_for i)) ∙ apart)

  ordered_literals : key_below g.right g.left ≡ false → key_less (key_in seen r) (key_in seen l) ≡ false
  ordered_literals order =
      sym (key_once m r l (level_at seen r.node) (level_at seen l.node) (meant_level seen false [] part r mr.known) (meant_level seen false [] part l ml.known))
      ∙ (λ i. key_below (mr.stands_for i) (ml.stands_for i)) ∙ order

  pub call_gate : simplified g.left g.right ≡ None → key_below g.right g.left ≡ false → IsGate seen (gate_word (gate_level g) l r)
  unfolding gate_level
  call_gate apart order =
      gate_wanted seen false [] part (gate_level g) l r xl xr ml.known mr.known (apart_literals apart) (ordered_literals order) (sym (ap₂ (λ x y. 1 + max x y) ll lr))

  -- a place with the word builds the gate
  pub found_stands : (s : ℕ) → 0 < gate_level g → word_at seen s ≡ gate_word (gate_level g) l r → StandsIn seen (record { node = 8193 + s; sign = false }) (gate_edge g)
  found_stands s some at =
      let back : 8193 + s - 8193 ≡ s = omega arith in
      let here : word_at seen (8193 + s - 8193) ≡ gate_word (gate_level g) l r = ap (word_at seen) back ∙ at in (
        omega arith,
        (λ z. packed_some (gate_level g) l r some (sym here ∙ z)),
        refl,
        subst (λ k. StandsIn seen k g.left) (sym (ap left_of here ∙ left_packed (gate_level g) l r xl xr)) sl,
        subst (λ k. StandsIn seen k g.right) (sym (ap right_of here ∙ right_packed (gate_level g) l r xl xr)) sr,
      )

  pub found_built : (s : ℕ) → 0 < gate_level g → word_at seen s ≡ gate_word (gate_level g) l r → IsBuilt seen g
  found_built s some at = (record { node = 8193 + s; sign = false }, found_stands s some at)

pub level_some : (g : Gate) → 1 ≤ gate_level g
unfolding gate_level
level_some g = omega arith
