use Rattle.gate_shape.proofs.Building.{builds_plain}
use Rattle.blast_logic.proofs.Meanings.{meant, input-value}
use Rattle.blast_logic.proofs.truths.truth_var.Goals as goal

pub returns-clause-built : goal.returns-clause-built
returns-clause-built g c = builds_plain (c.input.ensures.stands _)

pub returns-clause-value : goal.returns-clause-value
returns-clause-value g c = meant (λ bits. bits c.args.k 0) (returns-clause-built g c) (λ bits. input-value bits c.args.k 0)
