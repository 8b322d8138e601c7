-- A term: a plain tree of nodes, an operator being one of `Unary` or `Binary`.
use Rattle.std.specs.Prelude.{ℕ, ◌+◌, max, Bool}
use Rattle.bv_value.specs.BitVector.{BitVector}
use Rattle.bv_expr.specs.declared.ops.Unary.{Unary}
use Rattle.bv_expr.specs.declared.ops.Binary.{Binary}

pub data Term : Type 0 where
  constant : BitVector → Term
  -- a vector by the variable's number, and its width
  variable : ℕ → ℕ → Term
  truth : Bool → Term
  truth_variable : ℕ → Term
  unary : Unary → Term → Term
  binary : Binary → Term → Term → Term
  -- a choice between vectors, and one between truths
  choice : Term → Term → Term → Term
  truth_choice : Term → Term → Term → Term

-- The number of nodes on the longest way down.
abbrev pub depth : Term → ℕ
depth (constant v) = 1
depth (variable k w) = 1
depth (truth b) = 1
depth (truth_variable k) = 1
depth (unary op x) = depth x + 1
depth (binary op x y) = max (depth x) (depth y) + 1
depth (choice c x y) = max (depth c) (max (depth x) (depth y)) + 1
depth (truth_choice c x y) = max (depth c) (max (depth x) (depth y)) + 1

-- The number of nodes.
abbrev pub nodes : Term → ℕ
nodes (constant v) = 1
nodes (variable k w) = 1
nodes (truth b) = 1
nodes (truth_variable k) = 1
nodes (unary op x) = nodes x + 1
nodes (binary op x y) = nodes x + nodes y + 1
nodes (choice c x y) = nodes c + nodes x + nodes y + 1
nodes (truth_choice c x y) = nodes c + nodes x + nodes y + 1
