use Rattle.bv_limits.proofs.Measured.{goals_hold}
use Rattle.bv_limits.proofs.laws.pieces_hold_terms.Goals as goal

pub returns : goal.returns
returns c = goals_hold
