-- A goal that has built its circuit begins its walk, and a loaded word tells it the fanins that it asked for.
use Rattle.std.proofs.Common.{◌≡◌, ◌≢◌, ℕ, ◌-◌, ◌<◌, ◌≤◌, true, false, ◌||◌, List, [], ◌∷◌, length, nat_eq, Some, None, refl, sym, ap, ◌∙◌, subst, arith, true≢false, Ok, Err, IfOk}
use Rattle.std.specs.List.{list_any, IsDistinct}
use Rattle.std.proofs.lemmas.List.{append-nil}
use Rattle.gate_shape.specs.Literal.{Literal}
use Rattle.gate_shape.specs.Edge.{Edge, Gate}
use Rattle.gate_shape.specs.Builds.{Meaning, Known, OneEach, Stands, edge}
use Rattle.gate_shape.specs.declared.builder.GateStop.{GateStop}
use Rattle.gate_probe.specs.Sound.{IsWithin, IsPart}
use Rattle.gate_probe.specs.Words.{word_at, left_of, right_of}
use Rattle.gate_probe.specs.Standing.{word_of, StandsIn}
use Rattle.gate_probe.specs.Views.{learnt}
use Rattle.gate_probe.proofs.Keeping.{within_more}
use Rattle.gate_probe.proofs.Searching.{learnt_keeps}
use Rattle.gate_probe.proofs.Standing.{stands_more, one_literal, stands_meant}
use Rattle.gate_probe.proofs.Meaning.{meant_once, meant_fanins}
use Rattle.blast_goal.specs.Script.{list_of, kept_after, EndsAs}
use Rattle.cone_walk.specs.declared.walk.Stage.{Stage}
use Rattle.cone_walk.specs.declared.walk.Stage.TheVariants.{Begun, Asks, Done, Failed}
use Rattle.cone_walk.specs.declared.walk.Walk.{Walk}
use Rattle.cone_walk.specs.Walk.{Follows, IsAnswer, IsReply, IsBegun, asked_now}
use Rattle.gate_world.specs.Literals.{place_in}
use Rattle.gate_world.specs.Work.{Problem, Work, Loading, Probing, Walking, Searching, Ended, script_of, edge_of, cone_of, to_walk}
use Rattle.gate_world.specs.World.{Actor, moved}
use Rattle.gate_world.specs.Coding.{IsCalls}
use Rattle.gate_world.specs.Cone.{meaning_of, HasAsked, IsWalkOf, IsTold, HasBuilt, IsAtWalk, ShowsWalked}
use Rattle.gate_world.specs.declared.build.Calls.{Calls}
use Rattle.gate_world.specs.declared.walk.Walking.{Walking as CodeWalking}
use Rattle.gate_world.specs.declared.walk.Walked.{Walked}
use Rattle.gate_world.proofs.Standing.{number_self, made_stands, place_below}
use Rattle.gate_world.proofs.Coded.{made_answered, word_big}
use Rattle.gate_world.proofs.Begun.{ended_short}
use Rattle.gate_world.proofs.Scripted.{made_by}
use Rattle.gate_world.proofs.Widened.{walked_more}

-- ---- the walk begins

-- a script whose calls are all done has ended well
pub ends_well : (p : Problem) (words : List ℕ) (done : List Gate) (c : Calls) (stop : GateStop) → IsCalls p words done [] c → c.script.end ≡ Err stop → ⊥
ends_well p words done c stop h e =
    let ends : EndsAs [] (script_of p) c.script.answers.items (Err stop) = subst (λ t. EndsAs [] (script_of p) c.script.answers.items t) e h.ends in
    let short = ended_short [] (script_of p) c.script.answers.items stop ends in
    let long = made_answered [] done [] c.script.answers.items (Err stop) (subst (λ k. EndsAs [] k c.script.answers.items (Err stop)) h.cut ends) h.made in
    let l : length (script_of p) ≡ length done = ap length (h.cut ∙ append-nil done) in
    absurd (omega arith)

pub root_by : (p : Problem) (words : List ℕ) (c : Calls) (root : Literal) → IsCalls p words (script_of p) [] c → c.script.end ≡ Ok root → Stands (list_of (kept_after [] (script_of p))) root (edge_of p)
root_by p words c root h e = subst (λ r. IfOk r (λ l. Stands (list_of (kept_after [] (script_of p))) l (edge_of p))) e h.root

-- the root's literal stands for the goal's edge by what the goal has seen
pub root_seen : (p : Problem) (words seen : List ℕ) (c : Calls) (root l : Literal) → HasBuilt p words seen c → c.script.end ≡ Ok root → StandsIn words l (edge (list_of (kept_after [] (script_of p))) root) → StandsIn seen l (edge_of p)
root_seen p words seen c root l h e t =
    let s = root_by p words c root h.done e in
    let here : StandsIn words l (edge_of p) = subst (StandsIn words l) s.stands_for t in
    let k = made_stands seen (script_of p) (edge_of p) h.built.built (made_by (script_of p) root (edge_of p) s) in
    let same : k.0 ≡ l = one_literal words h.sound (edge_of p) k.0 l (stands_more seen words h.within (edge_of p) k.0 k.1) here in
    subst (λ x. StandsIn seen x (edge_of p)) same k.1

none_asked : (p : Problem) (seen : List ℕ) (l : Literal) (w : Walk) → IsBegun l w → HasAsked p seen w []
unfolding IsDistinct
none_asked p seen l w b = record {
  many = sym b.no_asks;
  once = tt;
  each = λ n h. absurd (true≢false (sym h));
  asked = λ n h. sym (b.none_asked n);
}

pub begun_told : (p : Problem) (words seen : List ℕ) (c : Calls) (l : Literal) (w : Walk) (nodes : List ℕ) → HasBuilt p words seen c → StandsIn seen l (edge_of p) → IsBegun l w → ((m : Meaning) → Known m l → OneEach m → Follows m w) → nodes ≡ []
    → IsTold p seen (length (cone_of p)) w nodes None
begun_told p words seen c l w nodes h t b follows none =
    let part : IsPart seen = (words, h.sound, h.within) in
    let no_asks = b.no_asks in
    record {
      part = part;
      root = subst (λ x. StandsIn seen x (edge_of p)) (sym b.root) t;
      follows = follows (meaning_of seen) (stands_meant seen false [] part l (edge_of p) t).known (meant_once seen false [] part);
      replies = subst (λ s. IsReply (meaning_of seen) s None) (sym b.stage) tt;
      count = omega arith;
      asked = subst (HasAsked p seen w) (sym none) (none_asked p seen l w b);
    }

-- ---- a word is loaded

-- what a goal that walks has in hand
pub record IsOnWalk (a : Actor) (w : Work) (words : List ℕ) (k : CodeWalking) : Type 0 where
  pub gate : Edge
  pub ahead : List Edge
  pub view : List ℕ
  pub is : w ≡ Walking gate ahead
  pub within : IsWithin view a.seen
  pub part : IsPart view
  pub grows : IsWithin view words
  pub walk : IsWalkOf a.problem view (length ahead) k

pub on_walk : (a : Actor) (w : Work) (words : List ℕ) (k : CodeWalking) → IsAtWalk a w words k → IsOnWalk a w words k
on_walk a (Loading e es g gs) words k h = absurd h.shows
on_walk a (Probing g gs q) words k h = absurd h.shows
on_walk a (Walking e es) words k h =
    let s = h.shows in
    let grows : IsWithin s.0 words = within_more s.0 a.seen words s.1 h.within in
    record { gate = e; ahead = es; view = s.0; is = refl; within = s.1; part = (words, h.sound, grows); grows = grows; walk = s.2 }
on_walk a (Searching m) words k h = absurd h.shows
on_walk a (Ended end) words k h = absurd h.shows

reply_of : (m : Meaning) (s : Stage) (n : ℕ) (left right : Literal) → asked_now s ≡ n ∷ [] → IsAnswer m n left right → IsReply m s (Some (left, right))
reply_of m (Asks l) n left right e a = let is : l.node ≡ n = cc in subst (λ k. IsAnswer m k left right) (sym is) a
reply_of m Begun n left right e a = absurd (cc)
reply_of m Done n left right e a = absurd (cc)
reply_of m Failed n left right e a = absurd (cc)

-- the word of the gate that is asked for is there, and was seen
module _ (a : Actor) (w : Work) (words : List ℕ) (k : CodeWalking) (at : IsAtWalk a w words k) where
  abbrev h : IsOnWalk a w words k
  h = on_walk a w words k at

  abbrev l : Literal
  l = record { node = k.node; sign = false }

  abbrev m : Meaning
  m = meaning_of h.view

  known : Known m l
  known = h.walk.follows.asked_known k.node (subst (λ ns. list_any (nat_eq k.node) ns ≡ true) (sym h.walk.waits) (ap (λ b. b || false) (number_self k.node)))

  read : (word_of h.view l ≢ 0) × Stands m (left_of (word_of h.view l)) (m.gate_at (k.node - 8193)).left × Stands m (right_of (word_of h.view l)) (m.gate_at (k.node - 8193)).right
  read = let f = meant_fanins h.view false [] h.part l known h.walk.gate in (f.0, f.1, f.2)

  same_word : word_at words (k.node - 8193) ≡ word_of h.view l
  same_word = h.grows (k.node - 8193) read.0

  some_word : word_at words (k.node - 8193) ≢ 0
  some_word z = read.0 (sym same_word ∙ z)

  pub node_gate : 8193 ≤ k.node
  node_gate = h.walk.gate

  pub node_place : k.node - 8193 < length words
  node_place = place_below words (k.node - 8193) some_word

  pub node_word : 70368744177664 ≤ word_at words (k.node - 8193)
  node_word = word_big words (k.node - 8193) at.sound some_word

  fanins_are : IsAnswer m k.node (left_of (word_of h.view l)) (right_of (word_of h.view l))
  fanins_are =
      let x = read.1 in
      let y = read.2 in
      record {
        gate = h.walk.gate;
        known = known;
        left_known = x.known;
        right_known = y.known;
        fanins = λ i. record { left = (sym x.stands_for) i; right = (sym y.stands_for) i };
      }

  told_next : (left right : Literal) → left ≡ left_of (word_at words (k.node - 8193)) → right ≡ right_of (word_at words (k.node - 8193)) → IsTold a.problem h.view (length h.ahead) k.walk k.nodes.items (Some (left, right))
  told_next left right x y =
      let x' : left_of (word_of h.view l) ≡ left = sym (x ∙ ap left_of same_word) in
      let y' : right_of (word_of h.view l) ≡ right = sym (y ∙ ap right_of same_word) in
      let answer : IsAnswer m k.node left right = subst (λ r. IsAnswer m k.node left r) y' (subst (λ r. IsAnswer m k.node r (right_of (word_of h.view l))) x' fanins_are) in
      record {
        part = h.part;
        root = h.walk.root;
        follows = h.walk.follows;
        replies = reply_of m k.walk.stage k.node left right h.walk.waits answer;
        count = h.walk.count;
        asked = h.walk.asked;
      }

  -- the walk goes on as the world has it
  pub walks_on : (left right : Literal) (walked : Walked) → left ≡ left_of (word_at words (k.node - 8193)) → right ≡ right_of (word_at words (k.node - 8193))
      → ((p : Problem) (view : List ℕ) (es : List Edge) → IsTold p view (length es) k.walk k.nodes.items (Some (left, right)) → ShowsWalked p view walked (to_walk p es))
      → ShowsWalked a.problem (moved words a w).actor.seen walked (moved words a w).actor.work
  walks_on left right walked x y on =
      let s : ℕ = place_in a.seen h.gate in
      let word : ℕ = word_at words s in
      let more : IsWithin h.view (learnt a.seen s word) = within_more h.view a.seen (learnt a.seen s word) h.within (learnt_keeps a.seen s word (λ z. at.within s z)) in
      let next : ShowsWalked a.problem (learnt a.seen s word) walked (to_walk a.problem h.ahead) = walked_more a.problem h.view (learnt a.seen s word) walked (to_walk a.problem h.ahead) (on a.problem h.view h.ahead (told_next left right x y)) more in
      subst (λ v. ShowsWalked a.problem (moved words a v).actor.seen walked (moved words a v).actor.work) (sym h.is) next
