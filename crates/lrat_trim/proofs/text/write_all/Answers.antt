use Rattle.lrat_trim.proofs.Writing.{writes_more}
use Rattle.lrat_trim.proofs.text.write_all.Goals as goal

pub loop-preserved : goal.loop-preserved
loop-preserved c =
    writes_more c.args.trimming.now.lines c.loop.trimming.lines c.write_next.new.self.lines c.args.out.now.items c.loop.out.items c.write_next.new.out.items
    c.loop.invariant c.in_ok-write_next.ensures.text
