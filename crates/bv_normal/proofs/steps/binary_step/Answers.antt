use Rattle.std.proofs.Common.{sym}
use Rattle.bv_normal.proofs.Making.{two_ready}
use Rattle.bv_normal.proofs.steps.binary_step.Goals as goal

pub operand_made-requires : goal.operand_made-requires
operand_made-requires c = two_ready c.args.op c.args.x c.args.y c.in-Some.operand c.requires (sym c.in-Some.ensures)
