use Rattle.std.proofs.Common.{◌∙◌}
use Rattle.bv_trees.proofs.OfFiles.{put_together}
use Rattle.bv_trees.proofs.outline.goal_pieces.Goals as goal

pub returns : goal.returns
returns c = λ ts gs h taken all. c.in_ok-pieces.ensures ∙ put_together c.args.taken.now ts gs h taken all
