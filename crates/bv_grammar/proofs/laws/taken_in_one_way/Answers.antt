use Rattle.bv_grammar.proofs.Unique.{one_role}
use Rattle.bv_grammar.proofs.laws.taken_in_one_way.Goals as goal

pub returns : goal.returns
returns c = one_role
