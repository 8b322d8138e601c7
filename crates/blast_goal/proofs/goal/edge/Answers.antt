use Rattle.gate_shape.proofs.Building.{keeps_self, builds_memory_exit}
use Rattle.blast_goal.specs.Circuit.{goal_row}
use Rattle.blast_goal.proofs.Normalised.{value_of_goal, read_of_goal}
use Rattle.blast_goal.proofs.goal.edge.Goals as goal

pub returns-in_err-normal-clause-built : goal.returns-in_err-normal-clause-built
returns-in_err-normal-clause-built g c = builds_memory_exit _ c.from_residual.ensures.1 tt (keeps_self _)

pub returns-clause-built : goal.returns-clause-built
unfolding goal_row
returns-clause-built g c = let e = c.in_ok-normal.ensures in rw (e.hypotheses, e.conclusion) at c.falsifying.ensures.built

pub returns-clause-value : goal.returns-clause-value
returns-clause-value g c =
    let own = c.args.goal.now in
    let normal = c.in_ok-normal.normal in
    let e = c.in_ok-normal.ensures in
    value_of_goal own.binders own.hyps normal.hyps own.concl normal.concl e.values (g.B.Builder.meaning c.falsifying.new.b) c.falsifying.result (rw e.bound at c.falsifying.ensures.value)

pub returns-clause-read : goal.returns-clause-read
returns-clause-read g c =
    let own = c.args.goal.now in
    let normal = c.in_ok-normal.normal in
    let e = c.in_ok-normal.ensures in
    read_of_goal own.binders own.hyps normal.hyps own.concl normal.concl e.values (g.B.Builder.meaning c.falsifying.new.b) own.fits.sorts c.falsifying.result (rw e.bound at c.falsifying.ensures.read)
