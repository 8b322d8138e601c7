use Rattle.blast_logic.proofs.Vectoring.{bits_more}
use Rattle.blast_logic.proofs.vectors.literals.Goals as goal

pub loop-j-preserved : goal.loop-j-preserved
loop-j-preserved c = bits_more c.args.width c.loop-j.j c.loop-j.rest c.loop-j.out.items c.loop-j-test.true c.in_ok-append.ensures c.new.ensures c.loop-j.invariant
