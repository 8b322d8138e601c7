-- What a script says at one place, for those who go along it call by call.
use Rattle.std.proofs.Common.{◌≡◌, ◌<◌, ◌≤◌, ◌+◌, ◌-◌, ℕ, zero, suc, Bool, true, false, List, [], ◌∷◌, ◌++◌, refl, sym, ◌∙◌, ap, subst, length, take, drop, arith, nat_lt, slice_index_or}
use Rattle.gate_shape.specs.Literal.{Literal}
use Rattle.gate_shape.specs.Edge.{Gate, gate_edge, level}
use Rattle.gate_shape.specs.Builds.{Meaning, node_edge, edge, with_sign, Stands}
use Rattle.gate_shape.specs.Listed.{has_gate, no_gate}
use Rattle.gate_shape.proofs.Listing.{level-leaf, has_gate-at, note_unknown}
use Rattle.std.proofs.lemmas.Grind.{common_steps}
use Rattle.std.proofs.lemmas.List.{length-append, get_or_append_left}
use Rattle.blast_goal.specs.Script.{list_of, kept_with, kept_after, IsCall, AreCalls, IsAnswer, AreAnswers}
use Rattle.blast_goal.proofs.Scripting.{calls_none, answers_none}

-- what is left from a place on
pub calls_from : (i : ℕ) (kept gs : List Gate) (cs : List (Literal × Literal)) → AreCalls kept gs cs → AreCalls (kept_after kept (take i gs)) (drop i gs) (drop i cs)
calls_from zero kept gs cs are = are
calls_from (suc i) kept [] [] are = tt
calls_from (suc i) kept [] (c ∷ cs) are = absurd are
calls_from (suc i) kept (g ∷ gs) [] are = calls_none (kept_after (kept_with kept g) (take i gs)) (drop i gs)
calls_from (suc i) kept (g ∷ gs) (c ∷ cs) are = calls_from i (kept_with kept g) gs cs are.1

pub answers_from : (i : ℕ) (kept gs : List Gate) (ls : List Literal) → AreAnswers kept gs ls → AreAnswers (kept_after kept (take i gs)) (drop i gs) (drop i ls)
answers_from zero kept gs ls are = are
answers_from (suc i) kept [] [] are = tt
answers_from (suc i) kept [] (l ∷ ls) are = absurd are
answers_from (suc i) kept (g ∷ gs) [] are = answers_none (kept_after (kept_with kept g) (take i gs)) (drop i gs)
answers_from (suc i) kept (g ∷ gs) (l ∷ ls) are = answers_from i (kept_with kept g) gs ls are.1

-- the call at a place, and the answer
pub call_at : (i : ℕ) (kept gs : List Gate) (cs : List (Literal × Literal)) (c : Literal × Literal) (g : Gate) → AreCalls kept gs cs → i < length cs → (i < length gs) × IsCall (kept_after kept (take i gs)) (slice_index_or gs i g) (slice_index_or cs i c)
call_at i kept [] [] c g are l = absurd (omega (arith, l))
call_at i kept (h ∷ gs) [] c g are l = absurd (omega (arith, l))
call_at i kept [] (d ∷ cs) c g are l = absurd are
call_at zero kept (h ∷ gs) (d ∷ cs) c g are l = (omega arith, are.0)
call_at (suc i) kept (h ∷ gs) (d ∷ cs) c g are l =
    let r = call_at i (kept_with kept h) gs cs c g are.1 (omega (arith, l)) in
    let inside = r.0 in
    (omega (arith, inside), r.1)

pub answer_at : (i : ℕ) (kept gs : List Gate) (ls : List Literal) (a : Literal) (g : Gate) → AreAnswers kept gs ls → i < length ls → (i < length gs) × IsAnswer (kept_after kept (take i gs)) (slice_index_or gs i g) (slice_index_or ls i a)
answer_at i kept [] [] a g are l = absurd (omega (arith, l))
answer_at i kept (h ∷ gs) [] a g are l = absurd (omega (arith, l))
answer_at i kept [] (d ∷ ls) a g are l = absurd are
answer_at zero kept (h ∷ gs) (d ∷ ls) a g are l = (omega arith, are.0)
answer_at (suc i) kept (h ∷ gs) (d ∷ ls) a g are l =
    let r = answer_at i (kept_with kept h) gs ls a g are.1 (omega (arith, l)) in
    let inside = r.0 in
    (omega (arith, inside), r.1)

-- ---- where a new gate stands

edge_at : (m : Meaning) (l : Literal) → 8193 ≤ l.node → edge m l ≡ with_sign l.sign (gate_edge (m.gate_at (l.node - 8193)))
unfolding edge
edge_at m l h = let q : node_edge m l.node ≡ gate_edge (m.gate_at (l.node - 8193)) = grind (arith, common_steps) in ap (with_sign l.sign) q

unsigned : (s : Bool) (x g : Gate) → with_sign s (gate_edge x) ≡ gate_edge g → (s ≡ false) × (x.left ≡ g.left) × (x.right ≡ g.right)
unsigned true x g e = absurd (cc)
unsigned false x g e = (refl, cc, cc)

gate_same : (x g : Gate) → x.left ≡ g.left → x.right ≡ g.right → x ≡ g
gate_same x g p q = ap (λ z. record { left = z; right = x.right }) p ∙ ap (λ z. record { left = g.left; right = z }) q

-- an answer for a gate that wasn't kept before is the next place
pub new_place : (kept : List Gate) (g : Gate) (l : Literal) → has_gate kept g ≡ false → Stands (list_of (kept_with kept g)) l (gate_edge g) → (l.node ≡ 8193 + length kept) × (l.sign ≡ false)
unfolding level
new_place kept g l none stands =
    let longer : kept_with kept g ≡ kept ++ g ∷ [] = note_unknown kept g none in
    let P : List Gate → Type 0 = λ z. Stands (list_of z) l (gate_edge g) in
    let s : Stands (list_of (kept ++ g ∷ [])) l (gate_edge g) = subst P longer stands in
    let long = length-append kept (g ∷ []) in
    by_test (nat_lt l.node 8193) _ refl
    (λ small. let z = sym (level-leaf (list_of (kept ++ g ∷ [])) l (grind (arith, common_steps))) ∙ ap level s.stands_for in absurd (omega (arith, z)))
    (λ large.
    let big : 8193 ≤ l.node = grind (arith, common_steps) in
    let known = s.known.holds in
    let inside : l.node - 8193 < length (kept ++ g ∷ []) = grind (arith, common_steps) in
    let e = sym (edge_at (list_of (kept ++ g ∷ [])) l big) ∙ s.stands_for in
    let u = unsigned l.sign (slice_index_or (kept ++ g ∷ []) (l.node - 8193) no_gate) g e in
    by_test (nat_lt (l.node - 8193) (length kept)) _ refl
    (λ before.
    let b : l.node - 8193 < length kept = grind (arith, common_steps) in
    let at = sym (get_or_append_left kept (g ∷ []) no_gate (l.node - 8193) b) ∙ gate_same _ g u.1 u.2 in
    let there = has_gate-at kept g (l.node - 8193) b at in
    absurd (cc))
    (λ behind. let c : length kept ≤ l.node - 8193 = grind (arith, common_steps) in (omega (arith, inside, long, c, big), u.0)))
  where
    by_test : (t : Bool) (R : Type 0) {b : Bool} → b ≡ t → (b ≡ true → R) → (b ≡ false → R) → R
    by_test true R e f h = f e
    by_test false R e f h = h e
