use Rattle.std.proofs.Common.{sym}
use Rattle.bv_normal.proofs.Making.{one_ready}
use Rattle.bv_normal.proofs.steps.unary_step.Goals as goal

pub made-requires : goal.made-requires
made-requires c = one_ready c.args.op c.args.x c.in-Some.rewrite c.requires (sym c.in-Some.ensures)
