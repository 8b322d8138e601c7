use Rattle.std.proofs.Common.{arith}
use Rattle.bv_expr.specs.Sorts.{IsExpr}
use Rattle.blast_goal.proofs.Rows.{one_more_holds}
use Rattle.goal_alone.proofs.search_end.see_terms.Goals as goal

pub loop-term-preserved : goal.loop-term-preserved
loop-term-preserved c = one_more_holds IsExpr c.args.terms.now (omega arith) c.term-item.is c.loop-term.invariant c.depth-depth.ensures.expr
