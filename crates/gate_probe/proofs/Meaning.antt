-- What the parts of sound words mean to a builder.
use Rattle.std.proofs.Common.{◌≡◌, ◌≢◌, ℕ, ◌+◌, ◌-◌, ◌<◌, ◌≤◌, max, List, Bool, true, false, not, ◌&&◌, ◌||◌, IsTrue, inl, inr, sym, refl, ap, ap₂, ◌∙◌, subst, arith, nat_eq, nat_lt, if◌then◌else◌, Some, None}
use Rattle.std.proofs.lemmas.Grind.{common_steps}
use Rattle.gate_shape.specs.Literal.{Literal, opposite}
use Rattle.gate_shape.specs.Edge.{Edge, Gate, gate, level, gate_edge, gate_level, same_sign}
use Rattle.gate_shape.specs.Word.{gate_word, key_less, same_literal, false_literal, true_literal, simple_literal}
use Rattle.gate_shape.specs.Builds.{Meaning, edge, Known, Stands, Keeps, HasGate, OneEach}
use Rattle.gate_shape.proofs.Listing.{stands_gate}
use Rattle.gate_probe.specs.Words.{level_of, left_of, right_of, word_at, level_at, key_in}
use Rattle.gate_probe.specs.Known.{meant}
use Rattle.gate_probe.specs.Sound.{IsFanin, IsGate, IsWithin, IsPart}
use Rattle.gate_probe.proofs.Parts.{word_parts, level_packed, left_packed, right_packed, packed_some}
use Rattle.gate_probe.proofs.Keeping.{level_here}
use Rattle.gate_probe.specs.Standing.{word_of, StandsIn}
use Rattle.gate_probe.proofs.Standing.{stands_more, one_literal, level_in, edge_gate, meant_stands, stands_meant}

pub known_inside : (m : Meaning) (l : Literal) → Known m l → 8193 ≤ l.node → IsTrue (m.known (l.node - 8193))
known_inside m l k h =
    let e : nat_lt l.node 8193 ≡ false = grind (arith, common_steps) in
    subst (λ (t : Bool). IsTrue (if t then true else m.known (l.node - 8193))) e k.holds

gate_inject : (a b c d : Edge) → gate false a b ≡ gate false c d → (a ≡ c) × (b ≡ d)
gate_inject a b c d e = (cc, cc)

pub gate_parts : (g h : Gate) → gate_edge g ≡ gate_edge h → g ≡ h
gate_parts g h e = let p = gate_inject g.left g.right h.left h.right e in λ i. record { left = p.0 i; right = p.1 i }

-- the literal of the gate at a place
abbrev pub gate_literal : ℕ → Literal
gate_literal s = record { node = 8193 + s; sign = false }

module _ (seen : List ℕ) (f : Bool) (b : List ℕ) (part : IsPart seen) where
  abbrev m : Meaning
  m = meant seen f b

  -- equal edges have equal literals
  pub meant_once : OneEach (meant seen f b)
  meant_once l k hl hk e =
      let p = meant_stands seen f b l hl in
      let q = subst (StandsIn seen k) (sym e) (meant_stands seen f b k hk) in
      one_literal part.0 part.1 (edge m l) l k (stands_more seen part.0 part.2 _ l p) (stands_more seen part.0 part.2 _ k q)

  -- what was seen says the level of a known literal
  pub meant_level : (l : Literal) → Known (meant seen f b) l → level_at seen l.node ≡ level (edge (meant seen f b) l)
  meant_level l h = level_in seen part (edge m l) l (meant_stands seen f b l h)

  -- the word of a known gate was seen, and its literals are those of the gate's fanins
  pub meant_fanins : (l : Literal) → Known (meant seen f b) l → 8193 ≤ l.node
      → (word_of seen l ≢ 0) × Stands (meant seen f b) (left_of (word_of seen l)) ((meant seen f b).gate_at (l.node - 8193)).left
      × Stands (meant seen f b) (right_of (word_of seen l)) ((meant seen f b).gate_at (l.node - 8193)).right
      × (level_of (word_of seen l) ≡ level (edge (meant seen f b) l))
  meant_fanins l h le =
      let t = subst (StandsIn seen l) (edge_gate m l le) (meant_stands seen f b l h) in
      (t.1, stands_meant seen f b part _ _ t.3, stands_meant seen f b part _ _ t.4, sym (level_here seen l.node le) ∙ meant_level l h)

  -- the word of a gate of known literals makes its place known
  pub meant_found : (s lev : ℕ) (left right : Literal) → word_at seen s ≡ gate_word lev left right → left.node < 4194304 → right.node < 4194304 → 0 < lev
      → Known (meant seen f b) left → Known (meant seen f b) right
      → Stands (meant seen f b) (gate_literal s) (gate false (edge (meant seen f b) left) (edge (meant seen f b) right))
  meant_found s lev left right at x y some hl hr =
      let back : word_of seen (gate_literal s) ≡ gate_word lev left right = ap (word_at seen) (let e : 8193 + s - 8193 ≡ s = omega arith in e) ∙ at in
      let l : left_of (word_of seen (gate_literal s)) ≡ left = ap left_of back ∙ left_packed lev left right x y in
      let r : right_of (word_of seen (gate_literal s)) ≡ right = ap right_of back ∙ right_packed lev left right x y in
      stands_meant seen f b part (gate_literal s) (gate false (edge m left) (edge m right)) (
        omega arith,
        (λ z. packed_some lev left right some (sym back ∙ z)),
        refl,
        subst (λ k. StandsIn seen k (edge m left)) (sym l) (meant_stands seen f b left hl),
        subst (λ k. StandsIn seen k (edge m right)) (sym r) (meant_stands seen f b right hr),
      )

  -- where no place has the word, there is no such gate
  pub meant_none : (lev : ℕ) (left right : Literal) → left.node < 4194304 → right.node < 4194304
      → Known (meant seen f b) left → Known (meant seen f b) right → lev ≡ gate_level (record { left = edge (meant seen f b) left; right = edge (meant seen f b) right })
      → ((s : ℕ) → word_at seen s ≢ 0 → word_at seen s ≢ gate_word lev left right)
      → HasGate (meant seen f b) (record { left = edge (meant seen f b) left; right = edge (meant seen f b) right }) → ⊥
  unfolding level gate_level
  meant_none lev left right x y hl hr is none has =
      let s = has.0 in
      let st = stands_gate m s has.1 in
      let le : 8193 ≤ (gate_literal s).node = omega arith in
      let t = meant_fanins (gate_literal s) st.known le in
      let back : 8193 + s - 8193 ≡ s = omega arith in
      let g : m.gate_at (8193 + s - 8193) ≡ record { left = edge m left; right = edge m right } = ap m.gate_at back ∙ has.2 in
      let l = meant_once _ left t.1.known hl (t.1.stands_for ∙ ap (λ (z : Gate). z.left) g) in
      let r = meant_once _ right t.2.known hr (t.2.stands_for ∙ ap (λ (z : Gate). z.right) g) in
      let lv : level_of (word_of seen (gate_literal s)) ≡ lev = t.3 ∙ ap level (st.stands_for ∙ ap gate_edge has.2) ∙ sym is in
      let w = word_parts (word_of seen (gate_literal s)) (gate_word lev left right) (lv ∙ sym (level_packed lev left right x y)) (l ∙ sym (left_packed lev left right x y)) (r ∙ sym (right_packed lev left right x y)) in
      none s (λ z. t.0 (ap (word_at seen) back ∙ z)) (sym (ap (word_at seen) back) ∙ w)

-- what was known stays known, with its edges
pub meant_more : (seen more : List ℕ) (f g : Bool) (b : List ℕ) → IsPart more → IsWithin seen more → Keeps (meant seen f b) (meant more g b)
meant_more seen more f g b part in' = record {
  stays = λ s h.
      let st = stands_gate (meant seen f b) s h in
      let was = subst (StandsIn seen (gate_literal s)) st.stands_for (meant_stands seen f b (gate_literal s) st.known) in
      let now = stands_meant more g b part (gate_literal s) (gate_edge ((meant seen f b).gate_at s)) (stands_more seen more in' (gate_edge ((meant seen f b).gate_at s)) (gate_literal s) was) in
      let le : 8193 ≤ (gate_literal s).node = omega arith in
      let back : 8193 + s - 8193 ≡ s = omega arith in
      let k = known_inside (meant more g b) (gate_literal s) now.known le in
      let e = sym (edge_gate (meant more g b) (gate_literal s) le) ∙ now.stands_for in
      (subst (λ t. IsTrue ((meant more g b).known t)) back k, ap (meant more g b).gate_at (sym back) ∙ gate_parts _ _ e);
  once = λ _. meant_once more g b part;
  base = refl;
}

-- a pair that isn't simple
none_parts : {A : Type 0} (p q r s t u : Bool) (n b a : A) → (if p || q || r then Some n else (if s then Some b else (if t || u then Some a else None))) ≡ None
    → (p ≡ false) × (q ≡ false) × (r ≡ false) × (s ≡ false) × (t ≡ false) × (u ≡ false)
none_parts true q r s t u n b a e = absurd (cc)
none_parts false true r s t u n b a e = absurd (cc)
none_parts false false true s t u n b a e = absurd (cc)
none_parts false false false true t u n b a e = absurd (cc)
none_parts false false false false true u n b a e = absurd (cc)
none_parts false false false false false true n b a e = absurd (cc)
none_parts false false false false false false n b a e = (refl, refl, refl, refl, refl, refl)

parts_none : {A : Type 0} (p q r s t u : Bool) (n b a : A) → p ≡ false → q ≡ false → r ≡ false → s ≡ false → t ≡ false → u ≡ false → (if p || q || r then Some n else (if s then Some b else (if t || u then Some a else None))) ≡ None
parts_none p q r s t u n b a e1 e2 e3 e4 e5 e6 = rw (e1, e2, e3, e4, e5, e6) refl

nat_eq-swap : (a b : ℕ) → nat_eq a b ≡ nat_eq b a
nat_eq-swap a b = go (nat_eq a b) refl (nat_eq b a) refl
  where
    go : (x : Bool) → nat_eq a b ≡ x → (y : Bool) → nat_eq b a ≡ y → x ≡ y
    go true p true q = refl
    go false p false q = refl
    go true p false q = absurd (let e : a ≡ b = grind (arith, common_steps) in let n : a ≢ b = grind (arith, common_steps) in n e)
    go false p true q = absurd (let e : a ≡ b = grind (arith, common_steps) in let n : a ≢ b = grind (arith, common_steps) in n e)

same-swap : (a b : Literal) → same_literal a b ≡ same_literal b a
same-swap a b = ap₂ (λ x y. x && y) (go a.sign b.sign) (nat_eq-swap a.node b.node)
  where
    go : (s t : Bool) → same_sign s t ≡ same_sign t s
    go true true = refl
    go true false = refl
    go false true = refl
    go false false = refl

opposite-swap : (a b : Literal) → same_literal a (opposite b) ≡ same_literal b (opposite a)
opposite-swap a b = ap₂ (λ x y. x && y) (go a.sign b.sign) (nat_eq-swap a.node b.node)
  where
    go : (s t : Bool) → same_sign s (not t) ≡ same_sign t (not s)
    go true true = refl
    go true false = refl
    go false true = refl
    go false false = refl

pub simple_swap : (a b : Literal) → simple_literal a b ≡ None → simple_literal b a ≡ None
unfolding simple_literal
simple_swap a b e =
    let p = none_parts (same_literal a false_literal) (same_literal b false_literal) (same_literal a (opposite b)) (same_literal a true_literal) (same_literal b true_literal) (same_literal a b) false_literal b a e in
    parts_none (same_literal b false_literal) (same_literal a false_literal) (same_literal b (opposite a)) (same_literal b true_literal) (same_literal a true_literal) (same_literal b a) false_literal a b p.1 p.0 (opposite-swap b a ∙ p.2) p.4 p.3 (same-swap b a ∙ p.5)

nonzero : (a : Literal) → same_literal a false_literal ≡ false → same_literal a true_literal ≡ false → a.node ≢ 0
nonzero a = go a.sign a.node
  where
    go : (s : Bool) (n : ℕ) → same_sign s false && nat_eq n 0 ≡ false → same_sign s true && nat_eq n 0 ≡ false → n ≢ 0
    go true n p q z = grind (arith, common_steps)
    go false n p q z = grind (arith, common_steps)

pub simple_nodes : (a b : Literal) → simple_literal a b ≡ None → (a.node ≢ 0) × (b.node ≢ 0)
unfolding simple_literal
simple_nodes a b e = let p = none_parts (same_literal a false_literal) (same_literal b false_literal) (same_literal a (opposite b)) (same_literal a true_literal) (same_literal b true_literal) (same_literal a b) false_literal b a e in (nonzero a p.0 p.3, nonzero b p.1 p.4)

fanin_known : (seen : List ℕ) (f : Bool) (b : List ℕ) → IsPart seen → (l : Literal) → Known (meant seen f b) l → l.node ≢ 0 → IsFanin seen l
fanin_known seen f b p l h n = go (nat_lt l.node 8193) refl
  where
    go : (t : Bool) → nat_lt l.node 8193 ≡ t → IsFanin seen l
    go true e = let s : l.node < 8193 = grind (arith, common_steps) in (omega arith, inl s)
    go false e = let s : 8193 ≤ l.node = grind (arith, common_steps) in (omega arith, inr (s, (meant_fanins seen f b p l h s).0))

-- the word of a gate of known literals, in order and not simple, may be wanted
pub gate_wanted : (seen : List ℕ) (f : Bool) (b : List ℕ) → IsPart seen → (lev : ℕ) (left right : Literal) → left.node < 4194304 → right.node < 4194304
    → Known (meant seen f b) left → Known (meant seen f b) right → simple_literal left right ≡ None → key_less (key_in seen right) (key_in seen left) ≡ false
    → lev ≡ 1 + max (level_at seen left.node) (level_at seen right.node) → IsGate seen (gate_word lev left right)
gate_wanted seen f b p lev left right x y hl hr apart order is =
    let n = simple_nodes left right apart in
    let lv = level_packed lev left right x y in let l = left_packed lev left right x y in let r = right_packed lev left right x y in
    record {
      left = subst (IsFanin seen) (sym l) (fanin_known seen f b p left hl n.0);
      right = subst (IsFanin seen) (sym r) (fanin_known seen f b p right hr n.1);
      level = lv ∙ is ∙ sym (ap₂ (λ (x y : Literal). 1 + max (level_at seen x.node) (level_at seen y.node)) l r);
      apart = ap₂ simple_literal l r ∙ apart;
      ordered = ap₂ (λ (x y : Literal). key_less (key_in seen x) (key_in seen y)) r l ∙ order;
    }
