-- The first limit of a file that is cut short.
use Rattle.std.proofs.Common.{◌≡◌, ℕ, ◌<◌, ◌≤◌, Bool, true, false, nat_lt, List, [], ◌∷◌, ◌++◌, Option, Some, None, refl, sym, ap, subst, arith, ◌∙◌, ◌⊎◌, inl, inr}
use Rattle.std.specs.Prelude.{if◌then◌else◌}
use Rattle.bv_lex.specs.declared.token.Token.{Token}
use Rattle.bv_lex.specs.declared.fault.What.{What}
use Rattle.bv_lex.specs.declared.fault.What.TheVariants as what
use Rattle.bv_grammar.specs.declared.words.Terminal.{Terminal}
use Rattle.bv_grammar.specs.Derivation.{IsSyntaxFault}
use Rattle.bv_trees.specs.declared.pieces.Piece.{Piece}
use Rattle.bv_trees.specs.Trees.{Tree}
use Rattle.bv_trees.specs.Codes.{pieces}
use Rattle.bv_limits.specs.declared.plain.Met.{Met}
use Rattle.bv_trees.specs.Complete as c
use Rattle.bv_trees.specs.Complete.{operator_of, Within, Among, Complete, AreCompleted}
use Rattle.bv_limits.specs.Depths.{depth}
use Rattle.bv_limits.specs.Deep as d
use Rattle.bv_limits.specs.Deep.{HasDeep, AnyDeep}
use Rattle.bv_limits.specs.Measuring.{top, put, place_of, least_of, note, step, Measure, start, tell, measure}
use Rattle.bv_limits.specs.Choosing as choosing
use Rattle.bv_limits.specs.Limits as l
use Rattle.bv_limits.specs.Limits.{IsCountedLimit, IsLimit, IsBefore}
use Rattle.bv_limits.specs.Files.{IsLeast}
use Rattle.bv_limits.proofs.Measured.{mk, measure-append, noted, measured, least_noted, least_there, first_deep}
use Rattle.bv_limits.proofs.Sooner.{Both, sooner_least, at_or_behind}
use Rattle.bv_trees.proofs.Reached.{complete_reached}

-- further pieces only lower the least place
noted_by : (i d k : ℕ) (o : Option ℕ) (b : Bool) → o ≡ Some k → (j : ℕ) × ((if b then Some (least_of i o) else o) ≡ Some j) × (j ≤ k)
noted_by i d k o true e = (least_of i o, refl, least_there i k o e)
noted_by i d k o false e = (k, e, omega arith)

noted_keeps : (p : Option ℕ) (d k : ℕ) (o : Option ℕ) → o ≡ Some k → (j : ℕ) × (note p d o ≡ Some j) × (j ≤ k)
noted_keeps None d k o e = (k, e, omega arith)
noted_keeps (Some i) d k o e = noted_by i d k o (nat_lt 1000 d) e

measure_keeps : (ps : List Piece) (m : Measure) (k : ℕ) → m.least ≡ Some k → (j : ℕ) × ((measure ps m).least ≡ Some j) × (j ≤ k)
measure_keeps [] m k e = (k, e, omega arith)
measure_keeps (o ∷ ps) m k e =
    let r = noted_keeps (place_of o) (top (step o m.parts)) k m.least e in
    let s = measure_keeps ps (tell o m) r.0 r.1 in
    (s.0, s.1, omega (arith, r.2, s.2))

operator_complete : {ts : List Terminal} {at j : ℕ} {x : Tree} → Complete ts at x j → operator_of x ≡ Some at
operator_complete (c.of_prefix r o) = refl
operator_complete (c.of_if r o) = refl
operator_complete (c.of_infix r s) = refl
operator_complete (c.of_method r u e w) = refl
operator_complete (c.of_further r u e) = refl
operator_complete (c.of_argument r u) = refl

-- what is too deep is noted
deep_seen : {ts : List Terminal} {ps : List Piece} {at j : ℕ} {x : Tree} → AreCompleted ts ps → Complete ts at x j → 1000 < depth x → (k : ℕ) × ((measure ps start).least ≡ Some k) × (k ≤ at)
deep_seen {at = at} {j = j} {x = x} a h deeper =
    let s = a.all at j x h in
    let m = measure s.0 start in
    let n = (least_noted x m.least).covers at (record { deep = x; within = c.itself; operator = operator_complete h; deeper = deeper }) in
    let all = ap (λ w. measure w start) (sym s.2) ∙ measure-append (s.0 ++ pieces x) s.1 start ∙ ap (measure s.1) (measure-append s.0 (pieces x) start ∙ measured x m.parts m.least) in
    let r = measure_keeps s.1 (mk (put (depth x) m.parts) (noted x m.least)) n.0 n.1 in
    (r.0, ap (λ w. w.least) all ∙ r.1, omega (arith, n.2, r.2))

-- what is deep in some terms stands in one of them
among : {xs : List Tree} {at : ℕ} → AnyDeep xs at → (y : Tree) × Among y xs × (operator_of y ≡ Some at) × (1000 < depth y)
among (d.this h) = (h.deep, c.in_first h.within, h.operator, h.deeper)
among (d.another h) = let r = among h in (r.0, c.in_others r.1, r.2, r.3)

-- a term that is complete there is too deep, as a kind of limit
abbrev IsDeepBefore : List Terminal → ℕ → What → ℕ → Type 0
IsDeepBefore ts end w at = (w ≡ what.Depth) × ((x : Tree) × (j : ℕ) × Complete ts at x j × (j ≤ end) × (1000 < depth x))

same_place : {m n : ℕ} → Some m ≡ Some n → m ≡ n
same_place e = cc

no_place : {n : ℕ} {A : Type 0} → None ≡ Some n → A
no_place e = cc

deep_least : (ts : List Terminal) (end : ℕ) (ps : List Piece) (o : Option ℕ) → IsSyntaxFault ts end → AreCompleted ts ps → o ≡ (measure ps start).least → IsLeast (IsDeepBefore ts end) (choosing.depth o)
deep_least ts end ps None f a e = λ w k h. let r = deep_seen a h.1.2 h.1.4 in no_place (e ∙ r.1)
deep_least ts end ps (Some at) f a e =
    let found = among (first_deep ps (Some at) e a.terms a.holds).0 in
    let there = a.complete found.0 at found.1 found.2 in
    ((refl, (found.0, there.0, there.1, complete_reached f there.1, found.3)), all)
  where
    all : (w : What) (k : ℕ) → IsDeepBefore ts end w k → IsBefore at what.Depth k w
    all w k h =
        let r = deep_seen a h.1.2 h.1.4 in
        let same = same_place (e ∙ r.1) in
        subst (λ v. IsBefore at what.Depth k v) (sym h.0) (at_or_behind at k (omega (arith, r.2, same)))

both_kinds : (tokens : List Token) (ts : List Terminal) (end : ℕ) → Both (IsCountedLimit tokens ts end) (IsDeepBefore ts end) (IsLimit tokens ts end)
both_kinds tokens ts end = (λ w k h. l.counted h, put_deep, split)
  where
    put_deep : (w : What) (k : ℕ) → IsDeepBefore ts end w k → IsLimit tokens ts end w k
    put_deep w k h = subst (λ v. IsLimit tokens ts end v k) (sym h.0) (l.deep h.1.2 h.1.3 h.1.4)

    split : (w : What) (k : ℕ) → IsLimit tokens ts end w k → IsCountedLimit tokens ts end w k ⊎ IsDeepBefore ts end w k
    split w k (l.counted h) = inl h
    split w k (l.deep {j = j} {x = x} h w' m) = inr (refl, (x, j, h, w', m))

pub limit_least : (tokens : List Token) (ts : List Terminal) (end : ℕ) (ps : List Piece) (m n o : Option Met) (found : Option ℕ) → IsSyntaxFault ts end → IsLeast (IsCountedLimit tokens ts end) m → AreCompleted ts ps → found ≡ (measure ps start).least → n ≡ choosing.depth found → o ≡ choosing.sooner m n
    → IsLeast (IsLimit tokens ts end) o
limit_least tokens ts end ps m n o found f g a e h q = subst (λ w. IsLeast (IsLimit tokens ts end) w) (sym (q ∙ ap (choosing.sooner m) h))
    (sooner_least (IsCountedLimit tokens ts end) (IsDeepBefore ts end) (IsLimit tokens ts end) (both_kinds tokens ts end) m (choosing.depth found) g (deep_least ts end ps found f a e))
