-- Which literal stands for which tree, by recursion on the tree, and that this is what the words mean.
use Rattle.std.proofs.Common.{◌≡◌, ◌≢◌, ℕ, zero, suc, ◌+◌, ◌-◌, ◌*◌, ◌/◌, ◌%◌, ◌<◌, ◌≤◌, max, List, Bool, true, false, not, ◌&&◌, sym, refl, ap, ap₂, ◌∙◌, subst, arith, nat_eq, nat_lt, true≢false}
use Rattle.std.proofs.lemmas.Grind.{common_steps}
use Rattle.gate_shape.specs.Literal.{Literal}
use Rattle.gate_shape.specs.Edge.{Edge, constant, input, gate, level, gate_edge}
use Rattle.gate_shape.specs.Builds.{Meaning, node_edge, with_sign, edge, Known, Stands}
use Rattle.gate_probe.specs.Words.{level_of, left_of, right_of, level_at}
use Rattle.gate_probe.specs.Known.{fanin_known, known_within, placed, gate_within, meant}
use Rattle.gate_probe.specs.Sound.{IsSound, IsWithin, IsPart}
use Rattle.gate_probe.specs.Standing.{word_of, StandsIn}
use Rattle.gate_probe.proofs.Parts.{literal_parts}
use Rattle.gate_probe.proofs.Keeping.{level_here, level_leaf}

-- what stands by a part of the words stands by all
pub stands_more : (seen words : List ℕ) → IsWithin seen words → (e : Edge) (l : Literal) → StandsIn seen l e → StandsIn words l e
stands_more seen words w (constant s) l h = h
stands_more seen words w (input s k j) l h = h
stands_more seen words w (gate s a b) l h =
    let e : word_of words l ≡ word_of seen l = w _ h.1 in (
      h.0,
      (λ z. h.1 (sym e ∙ z)),
      h.2,
      subst (λ v. StandsIn words (left_of v) a) (sym e) (stands_more seen words w a _ h.3),
      subst (λ v. StandsIn words (right_of v) b) (sym e) (stands_more seen words w b _ h.4),
    )

-- in sound words one literal stands for a tree, whoever built its gates
pub one_literal : (words : List ℕ) → IsSound words → (e : Edge) (l k : Literal) → StandsIn words l e → StandsIn words k e → l ≡ k
one_literal words sound (constant s) l k p q = literal_parts l k (p.0 ∙ sym q.0) (p.1 ∙ sym q.1)
one_literal words sound (input s i j) l k p q = literal_parts l k (p.2 ∙ sym q.2) (p.3 ∙ sym q.3)
one_literal words sound (gate s a b) l k p q =
    let x : left_of (word_of words l) ≡ left_of (word_of words k) = one_literal words sound a _ _ p.3 q.3 in
    let y : right_of (word_of words l) ≡ right_of (word_of words k) = one_literal words sound b _ _ p.4 q.4 in
    let e = (sound (k.node - 8193) q.1).alone (l.node - 8193) p.1 x y in
    let f = p.0 in let g = q.0 in
    literal_parts l k (omega arith) (p.2 ∙ sym q.2)

-- in sound words the level of a literal's node is that of the tree
pub level_right : (words : List ℕ) → IsSound words → (e : Edge) (l : Literal) → StandsIn words l e → level_at words l.node ≡ level e
unfolding level
level_right words sound (constant s) l h = level_leaf words l.node (let p = h.0 in omega arith)
level_right words sound (input s k j) l h = level_leaf words l.node (let p = h.2 in let q = h.0 in let r = h.1 in omega arith)
level_right words sound (gate s a b) l h =
    let g = (sound (l.node - 8193) h.1).gate in
    let x = level_right words sound a _ h.3 in
    let y = level_right words sound b _ h.4 in
    level_here words l.node h.0 ∙ g.level ∙ ap₂ (λ x y. 1 + max x y) x y

-- what was seen says the level of a literal that stands
pub level_seen : (seen words : List ℕ) → IsWithin seen words → (e : Edge) (l : Literal) → StandsIn seen l e → level_at words l.node ≡ level_at seen l.node
level_seen seen words w (constant s) l h = let q : l.node < 8193 = (let p = h.0 in omega arith) in level_leaf words l.node q ∙ sym (level_leaf seen l.node q)
level_seen seen words w (input s k j) l h = let q : l.node < 8193 = (let p = h.2 in let q = h.0 in let r = h.1 in omega arith) in level_leaf words l.node q ∙ sym (level_leaf seen l.node q)
level_seen seen words w (gate s a b) l h = level_here words l.node h.0 ∙ ap level_of (w _ h.1) ∙ sym (level_here seen l.node h.0)

pub level_in : (seen : List ℕ) → IsPart seen → (e : Edge) (l : Literal) → StandsIn seen l e → level_at seen l.node ≡ level e
level_in seen p e l h = sym (level_seen seen p.0 p.2 e l h) ∙ level_right p.0 p.1 e l (stands_more seen p.0 p.2 e l h)

-- the edges of the nodes
edge_zero : (m : Meaning) (l : Literal) → l.node ≡ 0 → edge m l ≡ constant l.sign
unfolding edge
edge_zero m l e = ap (λ n. with_sign l.sign (node_edge m n)) e ∙ go l.sign
  where
    go : (s : Bool) → with_sign s (constant false) ≡ constant s
    go true = refl
    go false = refl

edge_input : (m : Meaning) (l : Literal) (k j : ℕ) → k < 64 → j < 128 → l.node ≡ 1 + 128 * k + j → edge m l ≡ input l.sign k j
unfolding edge
edge_input m l k j small low e =
    let positive : nat_lt (1 + 128 * k + j) 1 ≡ false = grind (arith, common_steps) in
    let within : nat_lt (1 + 128 * k + j) 8193 ≡ true = grind (arith, common_steps) in
    let variable : (1 + 128 * k + j - 1) / 128 ≡ k = omega arith in
    let bit : (1 + 128 * k + j - 1) % 128 ≡ j = omega arith in
    let here : node_edge m (1 + 128 * k + j) ≡ input false k j = rw (positive, within, variable, bit) refl in
    ap (λ n. with_sign l.sign (node_edge m n)) e ∙ ap (with_sign l.sign) here ∙ go l.sign
  where
    go : (s : Bool) → with_sign s (input false k j) ≡ input s k j
    go true = refl
    go false = refl

pub edge_gate : (m : Meaning) (l : Literal) → 8193 ≤ l.node → edge m l ≡ gate l.sign (m.gate_at (l.node - 8193)).left (m.gate_at (l.node - 8193)).right
unfolding edge
edge_gate m l h =
    let positive : nat_lt l.node 1 ≡ false = grind (arith, common_steps) in
    let beyond : nat_lt l.node 8193 ≡ false = grind (arith, common_steps) in
    let here : node_edge m l.node ≡ gate_edge (m.gate_at (l.node - 8193)) = rw (positive, beyond) refl in
    ap (with_sign l.sign) here ∙ go l.sign (m.gate_at (l.node - 8193)).left (m.gate_at (l.node - 8193)).right
  where
    go : (s : Bool) (a b : Edge) → with_sign s (gate false a b) ≡ gate s a b
    go true a b = refl
    go false a b = refl

pub stands_leaf : (words : List ℕ) (m : Meaning) (l : Literal) → l.node < 8193 → StandsIn words l (edge m l)
stands_leaf words m l h = go (nat_lt l.node 1) refl
  where
    go : (z : Bool) → nat_lt l.node 1 ≡ z → StandsIn words l (edge m l)
    go true e = let n : l.node ≡ 0 = grind (arith, common_steps) in subst (StandsIn words l) (sym (edge_zero m l n)) (n, refl)
    go false e =
        let p : 1 ≤ l.node = grind (arith, common_steps) in
        let k : (l.node - 1) / 128 < 64 = omega arith in
        let j : (l.node - 1) % 128 < 128 = omega arith in
        let n : l.node ≡ 1 + 128 * ((l.node - 1) / 128) + (l.node - 1) % 128 = omega arith in
        subst (StandsIn words l) (sym (edge_input m l _ _ k j n)) (k, j, n, refl)

and_left : (a b : Bool) → a && b ≡ true → a ≡ true
and_left true b h = refl
and_left false b h = h

and_right : (a b : Bool) → a && b ≡ true → b ≡ true
and_right true b h = h
and_right false b h = absurd (true≢false (sym h))

fanin_gate : (known : ℕ → Bool) (l : Literal) → nat_lt l.node 8193 ≡ false → fanin_known known l ≡ known (l.node - 8193)
fanin_gate known l e = rw e refl

fanin_leaf : (known : ℕ → Bool) (l : Literal) → l.node < 8193 → fanin_known known l ≡ true
fanin_leaf known l h = let e : nat_lt l.node 8193 ≡ true = grind (arith, common_steps) in rw e refl

node_cases : (l : Literal) (P : Type 0) → (l.node < 8193 → P) → (8193 ≤ l.node → nat_lt l.node 8193 ≡ false → P) → P
node_cases l P near far = go (nat_lt l.node 8193) refl
  where
    go : (t : Bool) → nat_lt l.node 8193 ≡ t → P
    go true e = near (grind (arith, common_steps))
    go false e = far (grind (arith, common_steps)) e

nonzero : (w : ℕ) → not (nat_eq w 0) ≡ true → w ≢ 0
nonzero w e z = grind (arith, common_steps)

-- a literal that is known by so many levels stands for its edge
pub known_stands : (words : List ℕ) (d : ℕ) (l : Literal) → fanin_known (known_within words d) l ≡ true → StandsIn words l (edge (placed (gate_within words d)) l)
unfolding known_within gate_within
known_stands words zero l h = node_cases l _ (λ near. stands_leaf words (placed (gate_within words zero)) l near) (λ le far. absurd (true≢false (sym h ∙ fanin_gate (known_within words zero) l far)))
known_stands words (suc d) l h =
    node_cases l _ (λ near. stands_leaf words (placed (gate_within words (suc d))) l near)
    (λ le far.
    let k : not (nat_eq (word_of words l) 0) && (fanin_known (known_within words d) (left_of (word_of words l)) && fanin_known (known_within words d) (right_of (word_of words l))) ≡ true = sym (fanin_gate (known_within words (suc d)) l far) ∙ h in
    let f = and_right (not (nat_eq (word_of words l) 0)) (fanin_known (known_within words d) (left_of (word_of words l)) && fanin_known (known_within words d) (right_of (word_of words l))) k in
    let x = known_stands words d (left_of (word_of words l)) (and_left _ (fanin_known (known_within words d) (right_of (word_of words l))) f) in
    let y = known_stands words d (right_of (word_of words l)) (and_right (fanin_known (known_within words d) (left_of (word_of words l))) _ f) in
    subst (StandsIn words l) (sym (edge_gate (placed (gate_within words (suc d))) l le)) (le, nonzero (word_of words l) (and_left (not (nat_eq (word_of words l) 0)) _ k), refl, x, y))

all_true : (a b c : Bool) → a ≡ true → b ≡ true → c ≡ true → a && (b && c) ≡ true
all_true a b c p q r = rw (p, q, r) refl

-- and the other way round, where the tree has no more levels
pub stands_known : (words : List ℕ) (e : Edge) (l : Literal) (d : ℕ) → StandsIn words l e → level e ≤ d → (fanin_known (known_within words d) l ≡ true) × (edge (placed (gate_within words d)) l ≡ e)
unfolding level known_within gate_within
stands_known words (constant s) l d h le = (fanin_leaf (known_within words d) l (let p = h.0 in omega arith), edge_zero _ l h.0 ∙ ap constant h.1)
stands_known words (input s k j) l d h le = (fanin_leaf (known_within words d) l (let p = h.2 in let q = h.0 in let r = h.1 in omega arith), edge_input _ l k j h.0 h.1 h.2 ∙ ap (λ t. input t k j) h.3)
stands_known words (gate s a b) l zero h le = absurd (omega arith)
stands_known words (gate s a b) l (suc d) h le =
    let x = stands_known words a _ d h.3 (omega arith) in
    let y = stands_known words b _ d h.4 (omega arith) in
    let far : nat_lt l.node 8193 ≡ false = (let p = h.0 in grind (arith, common_steps)) in
    let some : not (nat_eq (word_of words l) 0) ≡ true = (let p = h.1 in grind (arith, common_steps)) in
    (fanin_gate (known_within words (suc d)) l far ∙ all_true (not (nat_eq (word_of words l) 0)) (fanin_known (known_within words d) (left_of (word_of words l))) (fanin_known (known_within words d) (right_of (word_of words l))) some x.0 y.0, edge_gate (placed (gate_within words (suc d))) l h.0 ∙ (λ i. gate (h.2 i) (x.1 i) (y.1 i)))

-- what is known to a builder with these words stands for its edge
pub meant_stands : (words : List ℕ) (f : Bool) (b : List ℕ) (l : Literal) → Known (meant words f b) l → StandsIn words l (edge (meant words f b) l)
unfolding edge
meant_stands words f b l h = known_stands words (level_of (word_of words l)) l h.holds

-- and what stands is known, and means its tree
pub stands_meant : (words : List ℕ) (f : Bool) (b : List ℕ) → IsPart words → (l : Literal) (e : Edge) → StandsIn words l e → Stands (meant words f b) l e
unfolding edge
stands_meant words f b p l e h = go (nat_lt l.node 8193) refl
  where
    at : level e ≤ level_of (word_of words l) → Stands (meant words f b) l e
    at le = let k = stands_known words e l (level_of (word_of words l)) h le in record { known = record { holds = k.0 }; stands_for = k.1 }

    go : (t : Bool) → nat_lt l.node 8193 ≡ t → Stands (meant words f b) l e
    go true q = at (let s : l.node < 8193 = grind (arith, common_steps) in let z = level_leaf words l.node s in let v = level_in words p e l h in omega arith)
    go false q = at (let s : 8193 ≤ l.node = grind (arith, common_steps) in let z = level_here words l.node s in let v = level_in words p e l h in omega arith)
