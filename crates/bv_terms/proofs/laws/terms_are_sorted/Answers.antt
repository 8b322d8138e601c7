use Rattle.bv_terms.proofs.Typed.{sorts}
use Rattle.bv_terms.proofs.laws.terms_are_sorted.Goals as goal

pub returns : goal.returns
returns c = sorts
