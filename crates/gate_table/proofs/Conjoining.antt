-- The row of a conjunction, and what a call for it answers.
use Rattle.std.proofs.Common.{◌≡◌, ℕ, ◌+◌, max, Bool, true, false, ◌||◌, List, [], ◌∷◌, ◌++◌, sym, refl, ap, ◌∙◌, subst, arith, if◌then◌else◌, Option, Some, None, option_map, Result, Ok, Err, ◌↔◌}
use Rattle.std.proofs.lemmas.Grind.{common_steps}
use Rattle.gate_shape.specs.Literal.{Literal, opposite}
use Rattle.gate_shape.specs.Edge.{Edge, Gate, level, gate_level, ordered, simplified, key_below}
use Rattle.gate_shape.specs.Row.{Row, both, written}
use Rattle.gate_shape.specs.Word.{key_of, key_less, simple_literal, same_literal, true_literal, false_literal}
use Rattle.gate_shape.specs.Builds.{Meaning, edge, Known, Stands, Builds, Outcome, OneEach, TooDeep, NoRoom}
use Rattle.gate_shape.specs.Listed.{Writes}
use Rattle.gate_shape.specs.declared.builder.GateStop.{GateStop}
use Rattle.gate_shape.specs.declared.builder.GateStop.TheVariants.{Deep, Full, Memory}
use Rattle.gate_shape.proofs.Building.{keeps_self, builds_plain, stands_self}
use Rattle.gate_shape.proofs.Listing.{key_once}
use Rattle.gate_shape.proofs.Sameness.{simple_once}
use Rattle.gate_probe.specs.Known.{meant}
use Rattle.gate_table.specs.Answers.{no_note, gate_of, IsAnswered}
use Rattle.gate_table.proofs.Knowing.{refused_one}

pub key_asym : (a b : ℕ × ℕ) → key_less a b ≡ true → key_less b a ≡ false
key_asym a b e = grind (arith, common_steps)

some_same : {a b : Literal} → ◌≡◌ {A = Option Literal} (Some a) (Some b) → a ≡ b
some_same e = cc

-- a simple conjunction of known literals is known
simple_known : (m : Meaning) (a b s : Literal) → simple_literal a b ≡ Some s → Known m a → Known m b → Known m s
unfolding simple_literal
simple_known m a b s e ka kb = go (same_literal a false_literal || same_literal b false_literal || same_literal a (opposite b)) (same_literal a true_literal) (same_literal b true_literal || same_literal a b) e
  where
    go : (p q r : Bool) → (if p then Some false_literal else (if q then Some b else (if r then Some a else None))) ≡ Some s → Known m s
    go true q r e = subst (Known m) (some_same e) (record { holds = refl })
    go false true r e = subst (Known m) (some_same e) kb
    go false false true e = subst (Known m) (some_same e) ka
    go false false false e = cc

module _ (m : Meaning) (one : OneEach m) (a b : Literal) (ka : Known m a) (kb : Known m b) where
  pub and_simple : (s : Literal) → simple_literal a b ≡ Some s → Builds no_note Stands m m (Ok s) (both (edge m a) (edge m b))
  unfolding both
  and_simple s e =
      let q : simplified (edge m a) (edge m b) ≡ Some (edge m s) = simple_once m one a b ka kb ∙ ap (λ o. option_map (edge m) o) e in
      rw q (builds_plain (stands_self (simple_known m a b s e ka kb)))

  and_gate : simple_literal a b ≡ None → both (edge m a) (edge m b) ≡ written (ordered (edge m a) (edge m b)) None
  unfolding both
  and_gate e = ap (written (ordered (edge m a) (edge m b))) (simple_once m one a b ka kb ∙ ap (λ o. option_map (edge m) o) e)

  ordered_as : (t : Bool) → key_below (edge m b) (edge m a) ≡ t → ordered (edge m a) (edge m b) ≡ (if t then gate_of m b a else gate_of m a b)
  unfolding ordered
  ordered_as t e = ap (λ x. if x then gate_of m b a else gate_of m a b) e

  pub row_swapped : simple_literal a b ≡ None → (x y : ℕ) → x ≡ level (edge m a) → y ≡ level (edge m b) → key_less (key_of b y) (key_of a x) ≡ true → both (edge m a) (edge m b) ≡ written (gate_of m b a) None
  row_swapped e x y p q h = and_gate e ∙ ap (λ g. written g None) (ordered_as true (key_once m b a y x q p ∙ h))

  pub row_kept : simple_literal a b ≡ None → (x y : ℕ) → x ≡ level (edge m a) → y ≡ level (edge m b) → key_less (key_of b y) (key_of a x) ≡ false → both (edge m a) (edge m b) ≡ written (gate_of m a b) None
  row_kept e x y p q h = and_gate e ∙ ap (λ g. written g None) (ordered_as false (key_once m b a y x q p ∙ h))

  level_of_ordered : gate_level (ordered (edge m a) (edge m b)) ≡ 1 + max (level (edge m a)) (level (edge m b))
  unfolding gate_level ordered
  level_of_ordered = go (key_below (edge m b) (edge m a))
    where
      go : (t : Bool) → gate_level (if t then record { left = edge m b; right = edge m a } else record { left = edge m a; right = edge m b }) ≡ 1 + max (level (edge m a)) (level (edge m b))
      go true = omega arith
      go false = refl

  pub and_deep : simple_literal a b ≡ None → 1 + max (level (edge m a)) (level (edge m b)) ≡ 262144 → Builds {T = Literal} no_note Stands m m (Err Deep) (both (edge m a) (edge m b))
  and_deep e d =
      let g = ordered (edge m a) (edge m b) in
      subst (λ row. Builds {T = Literal} no_note Stands m m (Err Deep) row) (sym (and_gate e)) (record { keeps = keeps_self m; outcome = refused_one m m g TooDeep refl (level_of_ordered ∙ d) })

  pub never_plain : simple_literal a b ≡ None → (both (edge m a) (edge m b)).gates ≡ [] → ⊥
  never_plain e none = nothing (sym (ap (λ r. r.gates) (and_gate e)) ∙ none)
    where
      nothing : {g : Gate} → ◌≡◌ {A = List Gate} (g ∷ []) [] → ⊥
      nothing e = cc

-- lists of one gate
only : {x y : Gate} (before after : List Gate) → x ∷ [] ≡ before ++ y ∷ after → x ≡ y
only [] after e = cc
only (z ∷ []) after e = absurd (cc)
only (z ∷ u ∷ us) after e = absurd (cc)

no_gate : (y : Gate) (before after : List Gate) → ◌≡◌ {A = List Gate} [] (before ++ y ∷ after) → ⊥
no_gate y [] after e = cc
no_gate y (z ∷ zs) after e = cc

head_same : {g h : Gate} → g ∷ [] ≡ h ∷ [] → g ≡ h
head_same e = cc

not_ok : {l : Literal} {s : GateStop} → ◌≡◌ {A = Result Literal GateStop} (Ok l) (Err s) → ⊥
not_ok e = cc

not_deep_full : ◌≡◌ {A = Result Literal GateStop} (Err Full) (Err Deep) → ⊥
not_deep_full e = cc

not_full_deep : ◌≡◌ {A = Result Literal GateStop} (Err Deep) (Err Full) → ⊥
not_full_deep e = cc

-- a call that isn't answered by want of memory is Deep exactly where its gate would be too deep
deep_at : (old new : Meaning) (g : Gate) (o : Option Edge) (r : Result Literal GateStop) → Outcome no_note Stands old new (written g o) r → IsAnswered r → (r ≡ Err Deep) ↔ Writes (written g o) TooDeep
deep_at old new g None (Ok l) o a = ((λ e. absurd (not_ok e)), λ w. absurd (o.1.fit 0 g (omega arith) (subst TooDeep (sym (head_same w.1)) w.2)))
deep_at old new g None (Err Deep) o a = ((λ e. (g, refl, subst TooDeep (sym (only o.before o.after o.cut)) o.cause)), λ w. refl)
deep_at old new g None (Err Full) o a = ((λ e. absurd (not_deep_full e)), λ w. absurd (o.cause.2 (subst TooDeep (only o.before o.after o.cut) (subst TooDeep (sym (head_same w.1)) w.2))))
deep_at old new g None (Err (Memory z)) o a = absurd a
deep_at old new g (Some e) (Ok l) o a = ((λ e. absurd (not_ok e)), λ w. absurd (no_gate _ [] [] w.1))
deep_at old new g (Some e) (Err Deep) o a = absurd (no_gate _ o.before o.after o.cut)
deep_at old new g (Some e) (Err Full) o a = absurd (no_gate _ o.before o.after o.cut)
deep_at old new g (Some e) (Err (Memory z)) o a = absurd a

full_at : (old new : Meaning) (g : Gate) (o : Option Edge) (r : Result Literal GateStop) → Outcome no_note Stands old new (written g o) r → r ≡ Err Full → Writes (written g o) (NoRoom new)
full_at old new g None (Ok l) o e = absurd (not_ok e)
full_at old new g None (Err Deep) o e = absurd (not_full_deep e)
full_at old new g None (Err Full) o e = (g, refl, subst (NoRoom new) (sym (only o.before o.after o.cut)) o.cause)
full_at old new g None (Err (Memory z)) o e = absurd (cc)
full_at old new g (Some x) (Ok l) o e = absurd (not_ok e)
full_at old new g (Some x) (Err Deep) o e = absurd (no_gate _ o.before o.after o.cut)
full_at old new g (Some x) (Err Full) o e = absurd (no_gate _ o.before o.after o.cut)
full_at old new g (Some x) (Err (Memory z)) o e = absurd (cc)

pub deep_exact : (old new : Meaning) (a b : Edge) (r : Result Literal GateStop) → Builds no_note Stands old new r (both a b) → IsAnswered r → (r ≡ Err Deep) ↔ Writes (both a b) TooDeep
unfolding both
deep_exact old new a b r h ans = deep_at old new (ordered a b) (simplified a b) r h.outcome ans

pub full_cause : (old new : Meaning) (a b : Edge) (r : Result Literal GateStop) → Builds no_note Stands old new r (both a b) → r ≡ Err Full → Writes (both a b) (NoRoom new)
unfolding both
full_cause old new a b r h e = full_at old new (ordered a b) (simplified a b) r h.outcome e

-- what a call builds it builds whatever the base is
outcome_based : (s t : List ℕ) (f g : Bool) (b b' c c' : List ℕ) (row : Row Edge) (r : Result Literal GateStop) → Outcome no_note Stands (meant s f b) (meant t g b') row r → Outcome no_note Stands (meant s f c) (meant t g c') row r
unfolding edge
outcome_based s t f g b b' c c' row (Ok l) o = (record { known = record { holds = o.0.known.holds }; stands_for = o.0.stands_for }, record { has = o.1.has; fit = o.1.fit; trace = o.1.trace })
outcome_based s t f g b b' c c' row (Err Deep) o = record { before = o.before; at = o.at; after = o.after; cut = o.cut; cause = o.cause; has = o.has; fit = o.fit; trace = o.trace }
outcome_based s t f g b b' c c' row (Err Full) o = record { before = o.before; at = o.at; after = o.after; cut = o.cut; cause = o.cause; has = o.has; fit = o.fit; trace = o.trace }
outcome_based s t f g b b' c c' row (Err (Memory z)) o = tt

pub once_based : (t : List ℕ) (g : Bool) (b c : List ℕ) → OneEach (meant t g b) → OneEach (meant t g c)
unfolding edge
once_based t g b c one x y kx ky e = one x y (record { holds = kx.holds }) (record { holds = ky.holds }) e

pub rebased : (s t : List ℕ) (f g : Bool) (b b' c c' : List ℕ) (x y : Literal) (r : Result Literal GateStop) → c' ≡ c → Builds no_note Stands (meant s f b) (meant t g b') r (both (edge (meant s f b) x) (edge (meant s f b) y))
    → Builds no_note Stands (meant s f c) (meant t g c') r (both (edge (meant s f c) x) (edge (meant s f c) y))
unfolding edge
rebased s t f g b b' c c' x y r same h = record { keeps = record { stays = h.keeps.stays; once = λ one. once_based t g b' c' (h.keeps.once (once_based s f c b one)); base = same }; outcome = outcome_based s t f g b b' c c' (both (edge (meant s f b) x) (edge (meant s f b) y)) r h.outcome }
