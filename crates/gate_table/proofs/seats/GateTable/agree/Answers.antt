use Rattle.gate_table.specs.Seats.{known_by}
use Rattle.gate_table.proofs.Knowing.{once, agree_right}
use Rattle.gate_table.proofs.seats.GateTable.agree.Goals as goal

pub returns-clause-edges : goal.returns-clause-edges
returns-clause-edges c = agree_right (known_by c.args.seat.now) (once c.args.seat.now c.keeps.ensures.part) c.args.a c.args.b c.requires.left c.requires.right c.same.result c.same.ensures.0 c.same.ensures.1
