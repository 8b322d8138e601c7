use Rattle.bv_lex.proofs.Unique.{one_cut}
use Rattle.bv_lex.proofs.laws.one_cut.Goals as goal

pub returns : goal.returns
returns c = one_cut
