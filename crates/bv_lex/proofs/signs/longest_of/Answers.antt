use Rattle.std.proofs.Common.{arith}
use Rattle.std.proofs.lemmas.List.{length-map}
use Rattle.bv_lex.proofs.Spelled.{longest_step, there_step}
use Rattle.bv_lex.proofs.signs.longest_of.Goals as goal

pub loop-sign-preserved : goal.loop-sign-preserved
loop-sign-preserved c = record {
  there = there_step (λ s. s.now) c.args.text.now c.args.at c.args.table.now c.loop-sign.sign-index _ c.loop-sign.best c.longer-best.result c.loop-sign-test.true c.longer-best.ensures.grows c.loop-sign.invariant.there c.longer-best.ensures.word;
  longest = longest_step (λ s. s.now) c.args.text.now c.args.at c.args.table.now c.loop-sign.sign-index _ c.loop-sign.best c.longer-best.result c.loop-sign-test.true c.longer-best.ensures.grows c.loop-sign.invariant.longest c.longer-best.ensures.covers;
}

pub returns-clause-longest : goal.returns-clause-longest
returns-clause-longest c = λ w m s. c.loop-sign.invariant.longest m.0 w (omega (arith, m.1, c.loop-sign-test.false, length-map c.args.table.now (λ s. s.now))) m.2 s
