use Rattle.std.proofs.Common.{subst, sym}
use Rattle.bv_trees.specs.Complete.{AreCompleted}
use Rattle.bv_limits.proofs.CutShort.{limit_least}
use Rattle.bv_limits.proofs.limits.first_limit_before.Goals as goal

pub returns : goal.returns
returns c = λ ts a f. limit_least c.args.tokens.now ts _ _ c.first_counted_limit-counted.result _ _ _ f (c.first_counted_limit-counted.ensures ts a)
    (subst (AreCompleted ts) (sym c.deref.ensures.value) (c.in_ok-pieces.ensures ts a f)) c.in_ok-least_deep.ensures c.depth-deep.ensures c.sooner.ensures
