-- Goals that the same values falsify.
use Rattle.std.specs.Prelude.{◌↔◌, List}
use Rattle.bv_expr.specs.declared.ops.Val.{Val}
use Rattle.bv_expr.specs.Term.{Term}
use Rattle.bv_expr.specs.Goal.{Binders, AreValues, Falsifies}

-- Values of these variables falsify the one goal exactly where they falsify the other.
abbrev pub FalsifiedAlike : Binders → List Term → Term → List Term → Term → Type 0
FalsifiedAlike binders hyps concl others other = (values : List Val) → AreValues binders values → (Falsifies others other values ↔ Falsifies hyps concl values)
