use Rattle.gate_shape.proofs.Building.{stands_input}
use Rattle.gate_shape.proofs.lit.input.Goals as goal

pub returns-clause-stands : goal.returns-clause-stands
returns-clause-stands c m = stands_input m c.new.result c.args.k c.args.j c.requires.variable c.requires.bit (rw (c.from.ensures, c.from-2.ensures) at c.new.ensures)
