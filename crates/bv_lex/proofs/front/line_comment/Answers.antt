use Rattle.bv_lex.proofs.Longest.{line_cut}
use Rattle.bv_lex.proofs.front.line_comment.Goals as goal

pub returns : goal.returns
returns c = line_cut c.args.text.now c.args.at c.run_end.result c.requires c.run_end.ensures.ahead c.run_end.ensures.each c.run_end.ensures.longest
