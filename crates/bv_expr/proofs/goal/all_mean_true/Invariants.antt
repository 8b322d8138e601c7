use Rattle.std.proofs.Common.{take}
use Rattle.std.specs.Prelude.{All}
use Rattle.bv_expr.specs.Goal.{MeansTrue}
use Rattle.bv_expr.proofs.goal.all_mean_true.Given as goal

abbrev pub invariant-loop-truth : goal.invariant-loop-truth
invariant-loop-truth l = All (MeansTrue l.values) (take l.truth-index l.truths)
