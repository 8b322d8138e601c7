-- A walk over a circuit that is asked for node by node. What a literal stands for is the meaning of the
-- builder whose nodes these are; a node from 8193 on is a gate.
use Rattle.std.specs.Prelude.{◌≡◌, ℕ, ◌+◌, ◌-◌, ◌<◌, ◌≤◌, Bool, true, false, ◌||◌, List, [], ◌∷◌, ◌++◌, length, map, Option, Some, None, nat_eq}
use Rattle.std.specs.List.{list_any}
use Rattle.gate_shape.specs.Edge.{Edge, gate}
use Rattle.gate_shape.specs.Literal.{Literal}
use Rattle.gate_shape.specs.Builds.{Meaning, edge, node_edge, Known, OneEach}
use Rattle.cone_walk.specs.Order.{order, listed_edge}
use Rattle.cone_walk.specs.Cone.{cone_node}
use Rattle.cone_walk.specs.Numbered.{Numbered, is_numbered, gates_in}
use Rattle.cone_walk.specs.Visits.{Visits}
use Rattle.cone_walk.specs.declared.walk.Frame.{Frame}
use Rattle.cone_walk.specs.declared.walk.Stage.{Stage}
use Rattle.cone_walk.specs.declared.walk.Stage.TheVariants.{Begun, Asks, Done, Failed}
use Rattle.cone_walk.specs.declared.walk.Walk.{Walk}
use Rattle.cone_walk.specs.declared.walk.Ask.{Ask}
use Rattle.cone_walk.specs.declared.walk.Ask.TheVariants.{Node, Done as NothingMore}

-- The literal that the walk was started from.
abbrev pub root_of : Walk → Literal
root_of w = w.root

-- By this meaning these are the fanins of a gate.
pub record IsAnswer (m : Meaning) (node : ℕ) (left right : Literal) : Type 0 where
  pub gate : 8193 ≤ node
  pub known : Known m record { node = node; sign = false }
  pub left_known : Known m left
  pub right_known : Known m right
  pub fanins : m.gate_at (node - 8193) ≡ record { left = edge m left; right = edge m right }

-- By this meaning each open gate has its fanins.
abbrev pub AreAnswers : Meaning → List Frame → Type 0
AreAnswers m [] = Unit {0}
AreAnswers m (f ∷ fs) = IsAnswer m f.gate.node f.left f.right × AreAnswers m fs

-- The nodes of the open gates, the innermost one first, before these.
abbrev pub open_nodes : List Frame → List ℕ → List ℕ
open_nodes [] more = more
open_nodes (f ∷ fs) more = open_nodes fs (f.gate.node ∷ more)

-- By this meaning each of these nodes is known.
abbrev pub AllNodes : Meaning → List ℕ → Type 0
AllNodes m ns = (n : ℕ) → list_any (nat_eq n) ns ≡ true → Known m record { node = n; sign = false }

-- By this meaning the walk from this root has come so far: the nodes with variables are done, the gates of the
-- path are open, and those of `asked` are asked for.
pub record Walks (m : Meaning) (start : Literal) (d : Numbered) (path : List Frame) (asked : List ℕ) : Type 0 where
  pub root : Known m start
  pub one_each : OneEach m
  pub known : AllNodes m d.numbers
  pub answers : AreAnswers m path
  pub asked_known : AllNodes m asked
  pub nodes : d.nodes ≡ map (cone_node (map (node_edge m) d.numbers)) (map (node_edge m) d.numbers)
  pub visits : Visits (map (node_edge m) d.numbers) (map (node_edge m) (asked ++ open_nodes path [])) (edge m start)

-- What becomes of the innermost gate: a fanin is to be asked for, or the gate is done.
abbrev pub Closes : Meaning → Literal → List Frame → Frame → Numbered → Numbered → Option Literal → Type 0
Closes m root path f old new (Some l) = Walks m root new (path ++ f ∷ []) (l.node ∷ []) × (8193 ≤ l.node) × (gates_in new.nodes ≡ gates_in old.nodes)
Closes m root path f old new None = Walks m root new path [] × (gates_in new.nodes ≡ gates_in old.nodes + 1)

-- The node that is asked for.
abbrev pub asked_now : Stage → List ℕ
asked_now (Asks l) = l.node ∷ []
asked_now _ = []

-- The walk has come so far, by this meaning, from its root.
abbrev pub Follows : Meaning → Walk → Type 0
Follows m w = Walks m w.root w.numbering w.path.items (asked_now w.stage)

-- What is handed in are the fanins of the node asked for, by this meaning, and nothing at first.
abbrev pub IsReply : Meaning → Stage → Option (Literal × Literal) → Type 0
IsReply m (Asks l) (Some p) = IsAnswer m l.node p.0 p.1
IsReply m (Asks l) None = ⊥
IsReply m s (Some p) = ⊥
IsReply m s None = Unit {0}

-- The same, of a walk.
abbrev pub Replies : Meaning → Walk → Option (Literal × Literal) → Type 0
Replies m w fanins = IsReply m w.stage fanins

-- The open gates, with the one whose fanins are handed in.
abbrev pub opened : List Frame → Stage → Option (Literal × Literal) → List Frame
opened path (Asks l) (Some p) = path ++ record { gate = l; left = p.0; right = p.1 } ∷ []
opened path s o = path

-- What opening the gate that was asked for changes.
pub record IsOpened (old : Walk) (fanins : Option (Literal × Literal)) (new : Walk) : Type 0 where
  pub numbering : new.numbering ≡ old.numbering
  pub path : new.path.items ≡ opened old.path.items old.stage fanins

-- No gate is open, and the root has a variable.
abbrev pub IsAtEnd : Walk → Type 0
IsAtEnd w = (w.path.items ≡ []) × (is_numbered w.numbering w.root.node ≡ true)

-- How many gates are open or done.
abbrev pub gates_met : Walk → ℕ
gates_met w = gates_in w.numbering.nodes + length w.path.items

-- How many gates the walk has asked for.
abbrev pub asks_made : Walk → ℕ
asks_made w = gates_met w + length (asked_now w.stage)

-- Is this gate done or open?
abbrev pub is_met : Numbered → List Frame → ℕ → Bool
is_met d path n = list_any (nat_eq n) d.numbers || list_any (nat_eq n) (open_nodes path [])

-- Has the walk asked for this gate?
abbrev pub was_asked : Walk → ℕ → Bool
was_asked w n = is_met w.numbering w.path.items n || list_any (nat_eq n) (asked_now w.stage)

-- The gates that are done or open stay so, and no others come.
pub record MeetsSame (old : Numbered) (path : List Frame) (new : Numbered) (path_new : List Frame) : Type 0 where
  pub same : (n : ℕ) → 8193 ≤ n → is_met new path_new n ≡ is_met old path n

-- What becomes of the innermost gate, by numbers alone.
abbrev pub MovesGate : List Frame → Frame → Numbered → Numbered → Option Literal → Type 0
MovesGate path f old new (Some l) = MeetsSame old (path ++ f ∷ []) new (path ++ f ∷ [])
MovesGate path f old new None = MeetsSame old (path ++ f ∷ []) new path

-- The walk has met k gates, and wants this literal or nothing more.
abbrev pub Wants : Meaning → Literal → Numbered → List Frame → ℕ → Option Literal → Type 0
Wants m start d path k (Some l) = Walks m start d path (l.node ∷ []) × (8193 ≤ l.node) × (gates_in d.nodes + length path ≡ k)
Wants m start d path k None = Walks m start d path [] × (gates_in d.nodes + length path ≡ k)

-- Nothing was asked for yet.
pub record IsBegun (start : Literal) (w : Walk) : Type 0 where
  pub root : root_of w ≡ start
  pub stage : w.stage ≡ Begun
  pub none_asked : (n : ℕ) → was_asked w n ≡ false
  pub no_asks : asks_made w ≡ 0

-- A call has answered want of memory.
abbrev pub HasFailed : Walk → Type 0
HasFailed w = w.stage ≡ Failed

-- `Done` was answered.
pub record IsDone (w : Walk) : Type 0 where
  pub stage : w.stage ≡ Done
  pub at_end : IsAtEnd w

-- The walk stands at what it answered: it waits for the fanins of this node, or is done.
abbrev pub IsStageOf : Walk → Ask → Type 0
IsStageOf w (Node n) = asked_now w.stage ≡ n ∷ []
IsStageOf w NothingMore = IsDone w

-- A node that is asked for is one of a circuit: its number fits a literal.
abbrev pub IsNode : Ask → Type 0
IsNode (Node n) = n < 4194304
IsNode NothingMore = Unit {0}

-- The walk asks for a gate of the cone of its root, for the first time.
pub record AsksFor (m : Meaning) (old new : Walk) (n : ℕ) : Type 0 where
  pub follows : Follows m new
  pub is_gate : 8193 ≤ n
  pub known : Known m record { node = n; sign = false }
  pub in_cone : listed_edge (node_edge m n) (order (edge m (root_of old))) ≡ true
  pub first_time : was_asked old n ≡ false
  pub asked : (k : ℕ) → 8193 ≤ k → was_asked new k ≡ (was_asked old k || nat_eq k n)
  pub one_more : asks_made new ≡ asks_made old + 1

-- The walk asks for nothing more: it has asked for each gate of the cone.
pub record AskedForAll (m : Meaning) (old new : Walk) : Type 0 where
  pub follows : Follows m new
  pub all : (l r : Edge) → listed_edge (gate false l r) (order (edge m (root_of old))) ≡ true → (n : ℕ) × (8193 ≤ n) × (node_edge m n ≡ gate false l r) × (was_asked new n ≡ true)
  pub asked : (k : ℕ) → 8193 ≤ k → was_asked new k ≡ was_asked old k
  pub no_more : asks_made new ≡ asks_made old

-- An answer of a walk that is told the truth.
abbrev pub Advances : Meaning → Walk → Walk → Ask → Type 0
Advances m old new (Node n) = AsksFor m old new n
Advances m old new NothingMore = AskedForAll m old new
