use Rattle.std.proofs.Common.{◌≡◌, take}
use Rattle.std.specs.Prelude.{map, All}
use Rattle.bv_expr.specs.Sorts.{IsExpr}
use Rattle.bv_normal.specs.Normal.{normal}
use Rattle.bv_normal.proofs.goals.all_normal.Given as goal

abbrev pub invariant-loop-term : goal.invariant-loop-term
invariant-loop-term l = record {
  forms : l.forms ≡ map normal (take l.term-index l.terms);
  exprs : All IsExpr (take l.term-index l.terms);
}
