use Rattle.std.proofs.Common.{sym, arith}
use Rattle.gate_shape.proofs.Listing.{level-leaf}
use Rattle.gate_table.specs.Seats.{known_by}
use Rattle.gate_table.proofs.seats.GateTable.level.Goals as goal

pub returns-then-node-lt8193-clause-value : goal.returns-then-node-lt8193-clause-value
returns-then-node-lt8193-clause-value c = sym (level-leaf (known_by c.args.seat.now) c.args.lit (omega arith))
