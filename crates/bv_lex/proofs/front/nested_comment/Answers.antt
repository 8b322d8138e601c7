use Rattle.bv_lex.proofs.Longest.{nested_cut, nested_stops}
use Rattle.bv_lex.proofs.front.nested_comment.Goals as goal

pub returns-in-Some-clause-front : goal.returns-in-Some-clause-front
returns-in-Some-clause-front c = nested_cut c.args.text.now c.args.at c.in-Some.to c.requires c.in-Some.ensures.closed

pub returns-in-None-clause-fault : goal.returns-in-None-clause-fault
returns-in-None-clause-fault c = nested_stops c.args.text.now c.args.at c.requires c.in-None.ensures.open_
