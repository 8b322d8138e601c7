use Rattle.bv_terms.proofs.Told.{found_tree}
use Rattle.bv_terms.proofs.laws.trees_are_read.Goals as goal

pub returns : goal.returns
returns c = found_tree
