use Rattle.bv_expr.specs.Statement.{statement_of}
use Rattle.bvd_top.proofs.Replies.{answered}
use Rattle.bvd_top.proofs.solving.told_answer.Goals as goal

pub returns : goal.returns
returns c = answered c.args.steps (statement_of c.args.goal.now) c.alone.result c.alone.ensures.answer c.alone.ensures.proved c.alone.ensures.refuted c.alone.ensures.accepted
