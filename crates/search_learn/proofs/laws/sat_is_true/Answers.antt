use Rattle.search_learn.proofs.Solved.{sat_solves}
use Rattle.search_learn.proofs.laws.sat_is_true.Goals as goal

pub returns : goal.returns
returns c = sat_solves
