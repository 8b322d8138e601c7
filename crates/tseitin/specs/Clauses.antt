-- The clauses of a cone and of an edge (Tseitin's encoding), and what it is that they say what the edge says.
use Rattle.std.specs.Prelude.{◌≡◌, ℕ, ◌+◌, ◌-◌, ◌<◌, ◌≤◌, Bool, true, false, List, [], ◌∷◌, ◌++◌, length, slice_index_or, nat_eq, if◌then◌else◌}
use Rattle.gate_shape.specs.Edge.{Edge, constant, input, value}
use Rattle.sat_form.specs.Literals.{Literal, negate}
use Rattle.sat_form.specs.Truth.{satisfies}
use Rattle.cone_walk.specs.Order.{order}
use Rattle.cone_walk.specs.Cone.{cone_nodes, cone_root}
use Rattle.cone_walk.specs.declared.node.ConeNode.{ConeNode}
use Rattle.cone_walk.specs.declared.node.ConeNode.TheVariants.{Input, Gate}

-- A variable as a literal.
abbrev pub variable : ℕ → Literal
variable v = record { var = v; positive = true }

-- The clauses of the node that is the variable g: none for an input, and for a gate with the fanins l and r
-- (-g l), (-g r) and (g -l -r).
abbrev pub node_clauses : ℕ → ConeNode → List (List Literal)
node_clauses g (Input k j) = []
node_clauses g (Gate l r) = (negate (variable g) ∷ l ∷ []) ∷ (negate (variable g) ∷ r ∷ []) ∷ (variable g ∷ negate l ∷ negate r ∷ []) ∷ []

-- Those of all nodes in order of variables, the first of which is v.
abbrev pub all_clauses : ℕ → List ConeNode → List (List Literal)
all_clauses v [] = []
all_clauses v (n ∷ ns) = node_clauses v n ++ all_clauses (v + 1) ns

-- The clauses of a cone: that variable 1 is true, those of the gates, and the root.
abbrev pub cone_clauses : List ConeNode → Literal → List (List Literal)
cone_clauses nodes root = (variable 1 ∷ []) ∷ all_clauses 2 nodes ++ (root ∷ []) ∷ []

-- These are the nodes and the root of an edge's cone.
pub record AreConeOf (e : Edge) (nodes : List ConeNode) (root : Literal) : Type 0 where
  pub nodes_are : nodes ≡ cone_nodes e
  pub root_is : root ≡ cone_root e

-- The clauses of an edge, and how many variables they have.
unfoldable pub clauses : Edge → List (List Literal)
clauses e = cone_clauses (cone_nodes e) (cone_root e)

abbrev pub variables : Edge → ℕ
variables e = length (order e) + 1

-- The values of the variables extend those of the inputs: node i of the order is variable i + 2, and where it is bit
-- j of variable k its value is that bit's.
abbrev pub Extends : (ℕ → ℕ → Bool) → Edge → (ℕ → Bool) → Type 0
Extends bits e values = (i k j : ℕ) → i < length (order e) → slice_index_or (order e) i (constant false) ≡ input false k j → values (i + 2) ≡ bits k j

-- The values of the edge's nodes: that of variable 1 is true, and that of variable i + 2 is the value of node i.
abbrev pub node_values : (ℕ → ℕ → Bool) → Edge → ℕ → Bool
node_values bits e v = if nat_eq v 1 then true else value bits (slice_index_or (order e) (v - 2) (constant false))

-- Input values extend to values that satisfy the clauses exactly where the edge is true for them, and then in one
-- way: by the values of its nodes.
pub record SatisfiableExactly (e : Edge) (cs : List (List Literal)) : Type 0 where
  pub extends : (bits : ℕ → ℕ → Bool) → Extends bits e (node_values bits e)
  pub where_true : (bits : ℕ → ℕ → Bool) → value bits e ≡ true → satisfies (node_values bits e) cs ≡ true
  pub only_where_true : (bits : ℕ → ℕ → Bool) (values : ℕ → Bool) → Extends bits e values → satisfies values cs ≡ true → value bits e ≡ true
  pub in_one_way : (bits : ℕ → ℕ → Bool) (values : ℕ → Bool) → Extends bits e values → satisfies values cs ≡ true → (v : ℕ) → 0 < v → v ≤ variables e → values v ≡ node_values bits e v
