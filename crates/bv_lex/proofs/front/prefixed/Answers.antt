use Rattle.std.proofs.Common.{arith}
use Rattle.bv_lex.proofs.Longest.{run_at, run_stops}
use Rattle.bv_lex.proofs.front.prefixed.Goals as goal

pub returns-then-to-at-clause-fault : goal.returns-then-to-at-clause-fault
returns-then-to-at-clause-fault c =
    run_stops c.args.text.now c.args.at c.args.digits c.requires.prefix c.requires.here (λ m le r. let most = c.run_end-to.ensures.longest m le r in omega (arith, most, c.if-to-at.true))

pub numeral_to-requires-clause-numeral : goal.numeral_to-requires-clause-numeral
numeral_to-requires-clause-numeral c =
    run_at c.args.text.now c.args.at c.run_end-to.result c.args.digits c.requires.prefix c.requires.here (omega (arith, c.run_end-to.ensures.ahead, c.if-to-at.false)) c.run_end-to.ensures.each c.run_end-to.ensures.longest
