use Rattle.std.proofs.Common.{sym, ◌∙◌}
use Rattle.bv_lex.proofs.Longest.{numeral_stops}
use Rattle.bv_lex.proofs.front.numeral_to.Goals as goal

pub returns-in-Err-clause-fault : goal.returns-in-Err-clause-fault
returns-in-Err-clause-fault c = numeral_stops c.args.text.now c.args.at c.args.to c.in-Err.field-0 c.requires.numeral (sym c.number.ensures ∙ c.in-Err.is)
