-- From values of the clauses' variables to values of the goal's variables, and when there are any that satisfy or falsify.
use Rattle.std.specs.Prelude.{◌≡◌, ℕ, Bool, true, false, ◌&&◌, nat_eq, List}
use Rattle.std.specs.List.{list_any, enumerate_from}
use Rattle.gate_shape.specs.Edge.{Edge}
use Rattle.bv_expr.specs.declared.ops.Val.{Val}
use Rattle.bv_expr.specs.Term.{Term}
use Rattle.bv_expr.specs.Goal.{Binders, AreValues, Falsifies}
use Rattle.blast_goal.specs.Values.{values_of}
use Rattle.sat_form.specs.Literals.{Literal}
use Rattle.sat_form.specs.Truth.{satisfies}
use Rattle.cone_walk.specs.Cone.{cone_nodes}
use Rattle.cone_walk.specs.declared.node.ConeNode.{ConeNode}
use Rattle.cone_walk.specs.declared.node.ConeNode.TheVariants.{Input, Gate}

-- Some values satisfy the clauses.
abbrev pub IsSatisfiable : List (List Literal) → Type 0
IsSatisfiable cs = (values : ℕ → Bool) × (satisfies values cs ≡ true)

-- Some values of the goal's variables falsify it.
abbrev pub IsFalsifiable : Binders → List Term → Term → Type 0
IsFalsifiable binders hyps concl = (values : List Val) × AreValues binders values × Falsifies hyps concl values

-- Is the node bit j of variable k?
abbrev pub is_input : ℕ → ℕ → ConeNode → Bool
is_input k j (Input variable bit) = nat_eq variable k && nat_eq bit j
is_input k j (Gate l r) = false

-- Bit j of variable k is true where a node of the cone is this input, and its variable is true: the nodes are the
-- variables from 2 on. Bits that are no input of the cone are false.
abbrev pub node_bits : List ConeNode → (ℕ → Bool) → ℕ → ℕ → Bool
node_bits nodes values k j = list_any (λ p. is_input k j p.1 && values p.0) (enumerate_from 2 nodes)

-- the same for the cone of an edge
abbrev pub cone_bits : Edge → (ℕ → Bool) → ℕ → ℕ → Bool
cone_bits e values k j = node_bits (cone_nodes e) values k j

-- Values that satisfy a goal's clauses give values that falsify the goal.
abbrev pub IsRefutation : Binders → List Term → Term → Edge → (ℕ → Bool) → Type 0
IsRefutation binders hyps concl e values =
    AreValues binders (values_of binders (cone_bits e values)) × Falsifies hyps concl (values_of binders (cone_bits e values))
