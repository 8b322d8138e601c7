use Rattle.lrat_trim.proofs.Reached as reached
use Rattle.lrat_trim.proofs.laws.trimmed_reached.Goals as goal

pub returns : goal.returns
returns c = reached.trimmed_reached
