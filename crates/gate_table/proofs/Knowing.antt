-- What seats know, and what their calls build.
use Rattle.std.proofs.Common.{false, nat_lt, ◌≡◌, ◌≢◌, ℕ, zero, suc, ◌+◌, ◌-◌, ◌<◌, ◌≤◌, Bool, true, not, ◌&&◌, IsTrue, List, [], ◌∷◌, sym, refl, ap, ◌∙◌, subst, arith, nat_eq, slice_index_or, None, Result, Ok, Err, IfOk, IfErr}
use Rattle.std.proofs.lemmas.Grind.{common_steps}
use Rattle.gate_shape.specs.Literal.{Literal}
use Rattle.gate_shape.specs.Edge.{Edge, Gate, level, gate_edge, gate_level}
use Rattle.gate_shape.specs.Row.{written}
use Rattle.gate_shape.specs.Word.{gate_word}
use Rattle.gate_shape.specs.Builds.{Meaning, edge, Known, Stands, Keeps, Builds, Refused, HasGate, OneEach, NotDeep, NoRoom}
use Rattle.gate_shape.specs.declared.builder.GateStop.{GateStop}
use Rattle.gate_shape.specs.declared.builder.GateStop.TheVariants.{Full}
use Rattle.gate_shape.proofs.Building.{edge_kept, known_kept}
use Rattle.gate_shape.proofs.Listing.{not_deep}
use Rattle.gate_probe.specs.Words.{word_at, level_of, left_of, right_of}
use Rattle.gate_probe.specs.Known.{meant}
use Rattle.gate_probe.specs.Sound.{IsWithin, IsPart}
use Rattle.gate_probe.specs.Views.{view, put, learnt}
use Rattle.gate_probe.specs.declared.view.View.{View}
use Rattle.gate_probe.specs.Standing.{word_of}
use Rattle.gate_probe.proofs.Standing.{edge_gate}
use Rattle.gate_probe.proofs.Meaning.{meant_more, meant_once, meant_fanins, meant_found, meant_none, gate_literal, gate_parts, known_inside}
use Rattle.gate_table.specs.Plays.{Learns}
use Rattle.gate_table.specs.Seats.{SeatState, IsBelow, sees_first, table_numbers, known_by}
use Rattle.gate_table.specs.Searches.{IsAt, IsMissed}
use Rattle.gate_table.specs.Answers.{no_note, gate_of, IsAnswered}

-- a seat that has seen more knows all that was known
pub knows_more : (old new : SeatState) → IsPart new.view.seen → new.table ≡ old.table → IsWithin old.view.seen new.view.seen → Keeps (known_by old) (known_by new)
knows_more old new part same in' =
    subst (λ t. Keeps (known_by old) (meant new.view.seen (sees_first new.table.words new.view.seen) (table_numbers t))) (sym same)
    (meant_more old.view.seen new.view.seen (sees_first old.table.words old.view.seen) (sees_first new.table.words new.view.seen) (table_numbers old.table) part in')

-- a seat of the same table that has seen the same knows the same
pub knows_same : (old new : SeatState) → new.table ≡ old.table → new.view.seen ≡ old.view.seen → known_by new ≡ known_by old
knows_same old new t s = λ i. meant (s i) (sees_first (t i).words (s i)) (table_numbers (t i))

pub once : (s : SeatState) → IsPart s.view.seen → OneEach (known_by s)
once s part = meant_once s.view.seen (sees_first s.table.words s.view.seen) (table_numbers s.table) part

pub agree_right : (m : Meaning) → OneEach m → (a b : Literal) → Known m a → Known m b → (t : Bool) → (t ≡ true → a ≡ b) → (a ≡ b → t ≡ true) → (t ≡ true → edge m a ≡ edge m b) × (edge m a ≡ edge m b → t ≡ true)
agree_right m one a b ha hb t f g = ((λ e. ap (edge m) (f e)), λ e. g (one a b ha hb e))

-- a word that was seen before is learnt again
put_same : (seen : List ℕ) (s w : ℕ) → w ≢ 0 → word_at seen s ≡ w → put seen s w ≡ seen
put_same [] s w n e = absurd (n (sym e))
put_same (x ∷ xs) zero w n e = ap (λ z. z ∷ xs) (sym e)
put_same (x ∷ xs) (suc s) w n e = ap (λ z. x ∷ z) (put_same xs s w n e)

learnt_same : (seen : List ℕ) (s w : ℕ) → w ≢ 0 → word_at seen s ≡ w → learnt seen s w ≡ seen
learnt_same seen s zero n e = refl
learnt_same seen s (suc w) n e = put_same seen s (suc w) n e

level_some : (m : Meaning) (l : Literal) → 8193 ≤ l.node → 1 ≤ level (edge m l)
unfolding level
level_some m l h = subst (λ (e : Edge). 1 ≤ level e) (sym (edge_gate m l h)) (omega arith)

-- the word of a known gate, as a load finds it
pub fanins_loaded : (s : SeatState) → IsPart s.view.seen → (l : Literal) → Known (known_by s) l → 8193 ≤ l.node → (p word : ℕ) (new : View) → p ≡ l.node - 8193 → Learns s.view p word new
    → (word ≡ word_of s.view.seen l) × (new ≡ view s.view.seen (s.view.steps + 1)) × (70368744177664 ≤ word)
fanins_loaded s part l h le p word new at learns =
    let f = meant_fanins s.view.seen (sees_first s.table.words s.view.seen) (table_numbers s.table) part l h le in
    let there : word_at s.view.seen p ≢ 0 = (λ z. f.0 (ap (word_at s.view.seen) (sym at) ∙ z)) in
    let is : word ≡ word_at s.view.seen p = learns.2 there in
    let same : learnt s.view.seen p word ≡ s.view.seen = learnt_same s.view.seen p word (λ z. there (sym is ∙ z)) (sym is) in
    let whole : word ≡ word_of s.view.seen l = is ∙ ap (word_at s.view.seen) at in
    let lv : level_of word ≡ level (edge (known_by s) l) = ap level_of whole ∙ f.3 in
    let some : 1 ≤ level_of word = subst (λ n. 1 ≤ n) (sym lv) (level_some (known_by s) l le) in
    (whole, learns.0 ∙ ap (λ z. view z (s.view.steps + 1)) same, omega arith)

pub fanins_told : (s : SeatState) → IsPart s.view.seen → (l : Literal) → Known (known_by s) l → 8193 ≤ l.node → (word : ℕ) → word ≡ word_of s.view.seen l
    → (r : ℕ × Literal × Literal) → r ≡ (level_of word, left_of word, right_of word)
    → (Known (known_by s) r.1 × Known (known_by s) r.2) × ((known_by s).gate_at (l.node - 8193) ≡ gate_of (known_by s) r.1 r.2) × (r.0 ≡ level (edge (known_by s) l))
fanins_told s part l h le word is r e =
    let f = meant_fanins s.view.seen (sees_first s.table.words s.view.seen) (table_numbers s.table) part l h le in
    let x : r.1 ≡ left_of (word_of s.view.seen l) = ap (λ (q : ℕ × Literal × Literal). q.1) e ∙ ap left_of is in
    let y : r.2 ≡ right_of (word_of s.view.seen l) = ap (λ (q : ℕ × Literal × Literal). q.2) e ∙ ap right_of is in
    let z : r.0 ≡ level_of (word_of s.view.seen l) = ap (λ (q : ℕ × Literal × Literal). q.0) e ∙ ap level_of is in (
      (subst (Known (known_by s)) (sym x) f.1.known, subst (Known (known_by s)) (sym y) f.2.known),
      (λ i. record { left = (sym (ap (edge (known_by s)) x ∙ f.1.stands_for)) i; right = (sym (ap (edge (known_by s)) y ∙ f.2.stands_for)) i }),
      z ∙ f.3,
    )

-- a seat that has seen all places is filled
pub sees_all : (n : ℕ) (seen : List ℕ) → ((s : ℕ) → s < n → word_at seen s ≢ 0) → sees_first n seen ≡ true
unfolding sees_first
sees_all zero seen h = refl
sees_all (suc n) seen h = both_true _ _ (some (word_at seen n) (h n (omega arith))) (sees_all n seen (λ s l. h s (omega arith)))
  where
    both_true : (a b : Bool) → a ≡ true → b ≡ true → a && b ≡ true
    both_true a b p q = rw (p, q) refl

    some : (w : ℕ) → w ≢ 0 → not (nat_eq w 0) ≡ true
    some w n = grind (arith, common_steps)

-- rows of one gate
one_has : (m : Meaning) (g : Gate) → HasGate m g → (k : ℕ) (d : Gate) → k < 1 → HasGate m (slice_index_or (g ∷ []) k d)
one_has m g h zero d l = h
one_has m g h (suc k) d l = absurd (omega (arith, l))

none_has : (m : Meaning) (k : ℕ) (d : Gate) → k < 0 → HasGate m (slice_index_or [] k d)
none_has m k d l = absurd (omega (arith, l))

one_fit : (g : Gate) → NotDeep g → (k : ℕ) (d : Gate) → k < 1 → NotDeep (slice_index_or (g ∷ []) k d)
one_fit g h zero d l = h
one_fit g h (suc k) d l = absurd (omega (arith, l))

none_fit : (k : ℕ) (d : Gate) → k < 0 → NotDeep (slice_index_or [] k d)
none_fit k d l = absurd (omega (arith, l))

pub refused_one : (old new : Meaning) (g : Gate) (C : Gate → Type 0) → new.trace ≡ old.trace → C g → Refused no_note old new (g ∷ []) C
refused_one old new g C trace h = record { before = []; at = g; after = []; cut = refl; cause = h; has = none_has new; fit = none_fit; trace = trace }

-- The gate of two known literals, at its level
module _ (old new : SeatState) (part : IsPart new.view.seen) (table : new.table ≡ old.table) (in' : IsWithin old.view.seen new.view.seen) (left right : Literal) (kl : Known (known_by old) left) (kr : Known (known_by old) right) (lev : ℕ) (is : lev ≡ gate_level (gate_of (known_by old) left right)) (small : lev < 262144) (sl : left.node < 4194304) (sr : right.node < 4194304) where
  abbrev m : Meaning
  m = known_by old

  abbrev n : Meaning
  n = known_by new

  keeps : Keeps m n
  keeps = knows_more old new part table in'

  el : edge n left ≡ edge m left
  el = edge_kept m n left keeps kl

  er : edge n right ≡ edge m right
  er = edge_kept m n right keeps kr

  same_gate : gate_of n left right ≡ gate_of m left right
  same_gate = λ i. record { left = el i; right = er i }

  fit : NotDeep (gate_of m left right)
  fit = not_deep (gate_of m left right) is small

  -- the place with its word was found
  place_found : 0 < lev → (r : Literal) → IsAt new.view.seen (gate_word lev left right) r → Builds no_note Stands (known_by old) (known_by new) (Ok r) (written (gate_of (known_by old) left right) None)
  place_found some r at =
      let st = meant_found new.view.seen (sees_first new.table.words new.view.seen) (table_numbers new.table) part at.0 lev left right at.2 sl sr some (known_kept m n left keeps kl) (known_kept m n right keeps kr) in
      let le : 8193 ≤ (gate_literal at.0).node = omega arith in
      let back : 8193 + at.0 - 8193 ≡ at.0 = omega arith in
      let k = subst (λ t. IsTrue (n.known t)) back (known_inside n (gate_literal at.0) st.known le) in
      let g : n.gate_at at.0 ≡ gate_of m left right = ap n.gate_at (sym back) ∙ gate_parts (n.gate_at (8193 + at.0 - 8193)) (gate_of n left right) (sym (edge_gate n (gate_literal at.0) le) ∙ st.stands_for) ∙ same_gate in
      record {
        keeps = keeps;
        outcome = (
          subst (λ l. Stands n l (gate_edge (gate_of m left right))) (sym at.1) (record { known = st.known; stands_for = st.stands_for ∙ ap gate_edge same_gate }),
          record { has = one_has n (gate_of m left right) (at.0, k, g); fit = one_fit (gate_of m left right) fit; trace = refl },
        );
      }

  -- no place had its word
  place_missed : IsBelow new.table.words new.view.seen → IsMissed new.table.words new.view.seen (gate_word lev left right) → Builds {T = Literal} no_note Stands (known_by old) (known_by new) (Err Full) (written (gate_of (known_by old) left right) None)
  place_missed below missed =
      let full : sees_first new.table.words new.view.seen ≡ true = sees_all new.table.words new.view.seen (λ s l. (missed s l).0) in
      let none : HasGate n (gate_of m left right) → ⊥ = (λ h.
      meant_none new.view.seen (sees_first new.table.words new.view.seen) (table_numbers new.table) part lev left right sl sr (known_kept m n left keeps kl) (known_kept m n right keeps kr) (is ∙ ap gate_level (sym same_gate))
      (λ s there. (missed s (below s there)).1) (h.0, h.1, h.2 ∙ sym same_gate)) in
      record { keeps = keeps; outcome = refused_one m n (gate_of m left right) (NoRoom n) refl (full, none, fit) }

  pub place_built : 0 < lev → IsBelow new.table.words new.view.seen → (result : Result Literal GateStop) → IfOk result (λ r. IsAt new.view.seen (gate_word lev left right) r) → IfErr result (λ e. (e ≡ Full) × IsMissed new.table.words new.view.seen (gate_word lev left right))
      → Builds no_note Stands (known_by old) (known_by new) result (written (gate_of (known_by old) left right) None) × IsAnswered result
  place_built some below (Ok r) ok err = (place_found some r ok, tt)
  place_built some below (Err e) ok err = subst (λ (x : GateStop). Builds {T = Literal} no_note Stands (known_by old) (known_by new) (Err x) (written (gate_of (known_by old) left right) None) × IsAnswered (Err x)) (sym err.0) (place_missed below err.1, tt)

pub level_positive : (lev : ℕ) (g : Gate) → lev ≡ gate_level g → 0 < lev
unfolding gate_level
level_positive lev g e = omega arith

-- what is filled stays filled where what was seen is kept
both_parts : (a b : Bool) → a && b ≡ true → (a ≡ true) × (b ≡ true)
both_parts true b h = (refl, h)
both_parts false b h = absurd (cc)

pub seen_first : (n : ℕ) (seen : List ℕ) → sees_first n seen ≡ true → (s : ℕ) → s < n → word_at seen s ≢ 0
unfolding sees_first
seen_first zero seen h s l = absurd (omega arith)
seen_first (suc k) seen h s l =
    let p = both_parts (not (nat_eq (word_at seen k) 0)) (sees_first k seen) h in
    by_last k s (word_at seen s ≢ 0) l (λ e z. absurd (some (word_at seen k) p.0 (ap (word_at seen) (sym e) ∙ z))) (λ i. seen_first k seen p.1 s i)
  where
    some : (w : ℕ) → not (nat_eq w 0) ≡ true → w ≢ 0
    some w e z = grind (arith, common_steps)

    by_last : (n s : ℕ) (P : Type 0) → s < suc n → (s ≡ n → P) → (s < n → P) → P
    by_last n s P l f g = go (nat_lt s n) refl
      where
        go : (t : Bool) → nat_lt s n ≡ t → P
        go true e = g (grind (arith, common_steps))
        go false e = f (let b : n ≤ s = grind (arith, common_steps) in omega arith)

pub filled_more : (n : ℕ) (seen more : List ℕ) → IsWithin seen more → sees_first n seen ≡ true → sees_first n more ≡ true
filled_more n seen more in' h = sees_all n more (λ s l z. let t = seen_first n seen h s l in t (sym (in' s t) ∙ z))
