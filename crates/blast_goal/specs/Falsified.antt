-- Edges that are true exactly where a goal is falsified.
use Rattle.std.specs.Prelude.{◌↔◌, ℕ, Bool, IsTrue, List}
use Rattle.gate_shape.specs.Edge.{Edge, value}
use Rattle.bv_expr.specs.declared.ops.Val.{Val}
use Rattle.bv_expr.specs.Term.{Term}
use Rattle.bv_expr.specs.Goal.{Binders, AreValues, Falsifies}
use Rattle.blast_goal.specs.Values.{input_bits, values_of}

-- At values of the goal's variables the edge is true exactly where they falsify the goal.
abbrev pub IsTrueWhereFalsified : Binders → List Term → Term → Edge → Type 0
IsTrueWhereFalsified binders hyps concl e =
    (values : List Val) → AreValues binders values → IsTrue (value (input_bits values) e) ↔ Falsifies hyps concl values

-- At any bits of the inputs the edge is true exactly where the values that are read off these bits falsify the goal.
abbrev pub IsTrueWhereBitsFalsify : Binders → List Term → Term → Edge → Type 0
IsTrueWhereBitsFalsify binders hyps concl e =
    (bits : ℕ → ℕ → Bool) → IsTrue (value bits e) ↔ Falsifies hyps concl (values_of binders bits)
