use Rattle.bv_terms.proofs.Depths.{term_depth}
use Rattle.bv_terms.proofs.laws.terms_are_shallow.Goals as goal

pub returns : goal.returns
returns c = term_depth
