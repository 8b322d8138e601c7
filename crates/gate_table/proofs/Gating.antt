-- The gate of two literals, behind the loads of their levels, which change no map.
use Rattle.std.proofs.Common.{◌≡◌, ℕ, ◌+◌, max, List, true, false, sym, ap, ap₂, ◌∙◌, subst, None, Err, Result}
use Rattle.gate_shape.specs.Literal.{Literal}
use Rattle.gate_shape.specs.Edge.{level, gate_level}
use Rattle.gate_shape.specs.Row.{both, written}
use Rattle.gate_shape.specs.Word.{key_of, key_less, simple_literal}
use Rattle.gate_shape.specs.Builds.{Meaning, edge, Known, Stands, Builds, OneEach}
use Rattle.gate_shape.specs.declared.builder.GateStop.{GateStop}
use Rattle.gate_shape.specs.declared.builder.GateStop.TheVariants.{Deep}
use Rattle.gate_shape.proofs.Listing.{max-swap}
use Rattle.gate_probe.specs.Words.{level_at, key_in}
use Rattle.gate_probe.specs.Sound.{IsWithin, IsPart}
use Rattle.gate_probe.proofs.Meaning.{meant_level}
use Rattle.gate_table.specs.Seats.{SeatState, known_by, sees_first, table_numbers}
use Rattle.gate_table.specs.Answers.{no_note, gate_of}
use Rattle.gate_table.proofs.Knowing.{once, knows_same}
use Rattle.gate_table.proofs.Conjoining.{key_asym, and_deep, row_swapped, row_kept}

module _ (s0 s1 s2 : SeatState) (part : IsPart s0.view.seen) (t1 : s1.table ≡ s0.table) (e1 : s1.view.seen ≡ s0.view.seen) (t2 : s2.table ≡ s1.table) (e2 : s2.view.seen ≡ s1.view.seen)
    (a b : Literal) (ka : Known (known_by s0) a) (kb : Known (known_by s0) b) (apart : simple_literal a b ≡ None) (x y : ℕ) (ex : x ≡ level (edge (known_by s0) a)) (ey : y ≡ level (edge (known_by s1) b)) where
  first_same : known_by s1 ≡ known_by s0
  first_same = knows_same s0 s1 t1 e1

  same : known_by s2 ≡ known_by s0
  same = knows_same s0 s2 (t2 ∙ t1) (e2 ∙ e1)

  value_b : y ≡ level (edge (known_by s0) b)
  value_b = ey ∙ ap (λ m. level (edge m b)) first_same

  key_at : (l : Literal) (n : ℕ) → Known (known_by s0) l → n ≡ level (edge (known_by s0) l) → key_in s2.view.seen l ≡ key_of l n
  key_at l n k e = ap (key_of l) (ap (λ q. level_at q l.node) (e2 ∙ e1) ∙ meant_level s0.view.seen (sees_first s0.table.words s0.view.seen) (table_numbers s0.table) part l k ∙ sym e)

  pub order_swapped : key_less (key_of b y) (key_of a x) ≡ true → key_less (key_in s2.view.seen a) (key_in s2.view.seen b) ≡ false
  order_swapped h = ap₂ key_less (key_at a x ka ex) (key_at b y kb value_b) ∙ key_asym (key_of b y) (key_of a x) h

  pub order_kept : key_less (key_of b y) (key_of a x) ≡ false → key_less (key_in s2.view.seen b) (key_in s2.view.seen a) ≡ false
  order_kept h = ap₂ key_less (key_at b y kb value_b) (key_at a x ka ex) ∙ h

  pub level_kept : (n : ℕ) → n ≡ max x y → 1 + n ≡ gate_level (gate_of (known_by s2) a b)
  unfolding gate_level
  level_kept n e = ap (λ z. 1 + z) (e ∙ ap₂ max ex value_b) ∙ ap (λ m. gate_level (gate_of m a b)) (sym same)

  pub level_swapped : (n : ℕ) → n ≡ max x y → 1 + n ≡ gate_level (gate_of (known_by s2) b a)
  unfolding gate_level
  level_swapped n e = ap (λ z. 1 + z) (e ∙ ap₂ max ex value_b) ∙ max-swap (level (edge (known_by s0) a)) (level (edge (known_by s0) b)) ∙ ap (λ m. gate_level (gate_of m b a)) (sym same)

  pub deep_built : (n : ℕ) → n ≡ max x y → 1 + n ≡ 262144 → Builds {T = Literal} no_note Stands (known_by s0) (known_by s2) (Err Deep) (both (edge (known_by s0) a) (edge (known_by s0) b))
  deep_built n e d =
      let deep : 1 + max (level (edge (known_by s0) a)) (level (edge (known_by s0) b)) ≡ 262144 = sym (ap (λ z. 1 + z) (e ∙ ap₂ max ex value_b)) ∙ d in
      subst (λ m. Builds {T = Literal} no_note Stands (known_by s0) m (Err Deep) (both (edge (known_by s0) a) (edge (known_by s0) b))) (sym same) (and_deep (known_by s0) (once s0 part) a b ka kb apart deep)

  pub once_same : OneEach (known_by s2)
  once_same = subst OneEach (sym same) (once s0 part)

  pub kept_same : (more : List ℕ) → IsWithin s2.view.seen more → IsWithin s0.view.seen more
  kept_same more h = subst (λ q. IsWithin q more) (e2 ∙ e1) h

  pub built_swapped : key_less (key_of b y) (key_of a x) ≡ true → (new : Meaning) (r : Result Literal GateStop) → Builds no_note Stands (known_by s2) new r (written (gate_of (known_by s2) b a) None) → Builds no_note Stands (known_by s0) new r (both (edge (known_by s0) a) (edge (known_by s0) b))
  built_swapped h new r built =
      subst (λ row. Builds no_note Stands (known_by s0) new r row) (sym (row_swapped (known_by s0) (once s0 part) a b ka kb apart x y ex value_b h))
      (subst (λ m. Builds no_note Stands m new r (written (gate_of m b a) None)) same built)

  pub built_kept : key_less (key_of b y) (key_of a x) ≡ false → (new : Meaning) (r : Result Literal GateStop) → Builds no_note Stands (known_by s2) new r (written (gate_of (known_by s2) a b) None) → Builds no_note Stands (known_by s0) new r (both (edge (known_by s0) a) (edge (known_by s0) b))
  built_kept h new r built =
      subst (λ row. Builds no_note Stands (known_by s0) new r row) (sym (row_kept (known_by s0) (once s0 part) a b ka kb apart x y ex value_b h))
      (subst (λ m. Builds no_note Stands m new r (written (gate_of m a b) None)) same built)
