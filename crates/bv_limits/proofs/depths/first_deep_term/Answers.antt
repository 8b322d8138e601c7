use Rattle.bv_limits.proofs.Measured.{first_deep}
use Rattle.bv_limits.proofs.depths.first_deep_term.Goals as goal

pub returns : goal.returns
returns c = λ xs h. first_deep c.args.pieces.now _ c.in_ok-found.ensures xs h
