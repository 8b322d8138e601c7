use Rattle.blast_logic.proofs.Vectoring.{inputs_more}
use Rattle.blast_logic.proofs.vectors.input_literals.Goals as goal

pub loop-j-preserved : goal.loop-j-preserved
loop-j-preserved c = inputs_more c.args.k c.loop-j.j c.in_ok-append.ensures c.input.ensures.value c.loop-j.invariant
