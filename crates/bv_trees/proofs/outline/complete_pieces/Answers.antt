use Rattle.std.proofs.Common.{subst, sym}
use Rattle.bv_trees.specs.Complete.{AreCompleted}
use Rattle.bv_trees.proofs.Completed.{completed}
use Rattle.bv_trees.proofs.outline.complete_pieces.Goals as goal

pub returns : goal.returns
returns c = λ ts a f. subst (AreCompleted ts) (sym c.in_ok-pieces.ensures) (completed ts c.args.taken.now a f)
