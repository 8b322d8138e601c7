use Rattle.std.proofs.Common.{sym, arith}
use Rattle.gate_shape.specs.Listed.{listed}
use Rattle.gate_shape.proofs.Listing.{level-leaf}
use Rattle.blast_goal.proofs.recorder.level.Goals as goal

pub returns-then-node-lt8193 : goal.returns-then-node-lt8193
returns-then-node-lt8193 c = sym (level-leaf (listed c.args.list.now) c.args.lit (omega arith))
