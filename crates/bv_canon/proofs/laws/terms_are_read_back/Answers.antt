use Rattle.bv_canon.proofs.Terms.{term_read}
use Rattle.bv_canon.proofs.laws.terms_are_read_back.Goals as goal

pub returns : goal.returns
returns c binders t b e i s stand expr sorts named = term_read binders t b e i s stand expr.leaves expr.shallow sorts named
