use Rattle.bv_terms.proofs.Built.{held}
use Rattle.bv_terms.proofs.laws.terms_are_held.Goals as goal

pub returns : goal.returns
returns c = held
