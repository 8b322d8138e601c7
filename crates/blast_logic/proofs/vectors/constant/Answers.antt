use Rattle.blast_logic.proofs.Wiring.{wired, written}
use Rattle.blast_logic.proofs.Vectoring.{stand_constants, constants-word}
use Rattle.blast_logic.proofs.vectors.constant.Goals as goal

pub returns-clause-built : goal.returns-clause-built
returns-clause-built g c = wired _ (stand_constants _ c.args.value.now) (rw (c.width.ensures.value, c.number.ensures.value) at c.literals.ensures)

pub returns-clause-value : goal.returns-clause-value
returns-clause-value g c = written _ (λ bits. c.args.value.now) (returns-clause-built g c) (λ bits. constants-word bits c.args.value.now c.number.ensures.vector.below)
