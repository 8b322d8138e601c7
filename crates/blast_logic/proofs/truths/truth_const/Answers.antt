use Rattle.gate_shape.proofs.Building.{builds_plain}
use Rattle.blast_logic.proofs.Meanings.{meant, constant-value, stands_constant}
use Rattle.blast_logic.proofs.truths.truth_const.Goals as goal

pub returns-clause-built : goal.returns-clause-built
returns-clause-built g c = builds_plain (stands_constant c.args.value c.new.ensures)

pub returns-clause-value : goal.returns-clause-value
returns-clause-value g c = meant (λ bits. c.args.value) (returns-clause-built g c) (λ bits. constant-value bits c.args.value)
