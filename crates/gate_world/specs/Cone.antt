-- What the code of a goal that walks its cone has in hand: the walk, by a view that the goal had, and the nodes that it
-- asked for.
use Rattle.std.specs.Prelude.{◌≡◌, ℕ, ◌+◌, ◌≤◌, true, false, List, [], ◌∷◌, length, nat_eq, Option}
use Rattle.std.specs.List.{list_any, IsDistinct}
use Rattle.gate_shape.specs.Literal.{Literal}
use Rattle.gate_shape.specs.Edge.{Edge}
use Rattle.gate_shape.specs.Builds.{Meaning}
use Rattle.gate_probe.specs.Known.{meant}
use Rattle.gate_probe.specs.Sound.{IsSound, IsWithin, IsPart}
use Rattle.gate_probe.specs.Standing.{StandsIn}
use Rattle.cone_walk.specs.Order.{listed_edge}
use Rattle.cone_walk.specs.Walk.{Follows, Replies, root_of, asked_now, asks_made, was_asked}
use Rattle.cone_walk.specs.declared.walk.Walk.{Walk}
use Rattle.tseitin.specs.Clauses.{AreConeOf}
use Rattle.gate_world.specs.Work.{Problem, Work, Loading, Probing, Walking, Searching, Ended, script_of, edge_of, cone_of, to_walk}
use Rattle.gate_world.specs.World.{Actor, moved}
use Rattle.gate_world.specs.Doing.{IsBuilding}
use Rattle.gate_world.specs.Coding.{IsCalls}
use Rattle.gate_world.specs.declared.build.Calls.{Calls}
use Rattle.gate_world.specs.declared.walk.Walking.{Walking as CodeWalking}
use Rattle.gate_world.specs.declared.walk.Walked.{Walked}
use Rattle.gate_world.specs.declared.walk.Walked.TheVariants as walked

-- what literals mean by a view
abbrev pub meaning_of : List ℕ → Meaning
meaning_of seen = meant seen false []

-- the node stands for the tree of a gate
abbrev pub StandsAt : List ℕ → ℕ → Edge → Type 0
StandsAt seen n e = (8193 ≤ n) × StandsIn seen (record { node = n; sign = false }) e

-- these are the nodes of these gates, in any order: as many, each for one of them, and for each of them one
pub record AreNodesOf (seen : List ℕ) (gates : List Edge) (nodes : List ℕ) : Type 0 where
  pub count : length nodes ≡ length gates
  pub each : (n : ℕ) → list_any (nat_eq n) nodes ≡ true → (e : Edge) × (listed_edge e gates ≡ true) × StandsAt seen n e
  pub all : (e : Edge) → listed_edge e gates ≡ true → (n : ℕ) × (list_any (nat_eq n) nodes ≡ true) × StandsAt seen n e

-- these are the nodes that the walk over the goal's cone asked for, each once and each a gate of the cone
pub record HasAsked (p : Problem) (seen : List ℕ) (w : Walk) (nodes : List ℕ) : Type 0 where
  pub many : length nodes ≡ asks_made w
  pub once : IsDistinct nat_eq nodes
  pub each : (n : ℕ) → list_any (nat_eq n) nodes ≡ true → (e : Edge) × (listed_edge e (cone_of p) ≡ true) × StandsAt seen n e
  pub asked : (n : ℕ) → 8193 ≤ n → list_any (nat_eq n) nodes ≡ was_asked w n

-- The walk over the goal's cone waits for the word of this gate, with so many gates to come behind it. All that it asked
-- for are these nodes.
pub record IsWalkOf (p : Problem) (seen : List ℕ) (behind : ℕ) (k : CodeWalking) : Type 0 where
  pub root : StandsIn seen (root_of k.walk) (edge_of p)
  pub follows : Follows (meaning_of seen) k.walk
  pub gate : 8193 ≤ k.node
  pub waits : asked_now k.walk.stage ≡ k.node ∷ []
  pub count : asks_made k.walk + behind ≡ length (cone_of p)
  pub asked : HasAsked p seen k.walk k.nodes.items

-- the goal walks, by a view that it had
abbrev pub ShowsWalk : Problem → List ℕ → CodeWalking → Work → Type 0
ShowsWalk p seen k (Loading e es g gs) = ⊥
ShowsWalk p seen k (Probing g gs q) = ⊥
ShowsWalk p seen k (Walking e es) = (view : List ℕ) × IsWithin view seen × IsWalkOf p view (length es) k
ShowsWalk p seen k (Searching m) = ⊥
ShowsWalk p seen k (Ended end) = ⊥

-- the goal walks, or has walked its cone
abbrev pub ShowsWalked : Problem → List ℕ → Walked → Work → Type 0
ShowsWalked p seen (walked.Asks k) w = ShowsWalk p seen k w
ShowsWalked p seen (walked.Whole cone nodes) w = (w ≡ to_walk p []) × AreConeOf (edge_of p) cone.nodes.items cone.root × AreNodesOf seen (cone_of p) nodes.items

-- the walk over the goal's cone asked for these nodes, and is told these fanins, with so many gates to come
pub record IsTold (p : Problem) (view : List ℕ) (ahead : ℕ) (w : Walk) (nodes : List ℕ) (fanins : Option (Literal × Literal)) : Type 0 where
  pub part : IsPart view
  pub root : StandsIn view (root_of w) (edge_of p)
  pub follows : Follows (meaning_of view) w
  pub replies : Replies (meaning_of view) w fanins
  pub count : asks_made w + ahead ≡ length (cone_of p)
  pub asked : HasAsked p view w nodes

-- it goes on to the next gate, or has come to its end
abbrev pub WalksOn : Walk → List ℕ → Option (Literal × Literal) → Walked → Type 0
WalksOn w nodes fanins walked = (p : Problem) (view : List ℕ) (es : List Edge) → IsTold p view (length es) w nodes fanins → ShowsWalked p view walked (to_walk p es)

-- a goal has built its circuit, and knows its gates
pub record HasBuilt (p : Problem) (words seen : List ℕ) (c : Calls) : Type 0 where
  pub sound : IsSound words
  pub few : length words ≤ 4000000
  pub within : IsWithin seen words
  pub built : IsBuilding p seen (script_of p) []
  pub done : IsCalls p words (script_of p) [] c

-- a goal that walks has this in hand
pub record IsAtWalk (a : Actor) (w : Work) (words : List ℕ) (k : CodeWalking) : Type 0 where
  pub shows : ShowsWalk a.problem a.seen k w
  pub sound : IsSound words
  pub few : length words ≤ 4000000
  pub within : IsWithin a.seen words

-- the walk behind a load
abbrev pub WalkMoves : List ℕ → CodeWalking → Walked → Type 0
WalkMoves words k walked = (a : Actor) (w : Work) → IsAtWalk a w words k → ShowsWalked a.problem (moved words a w).actor.seen walked (moved words a w).actor.work
