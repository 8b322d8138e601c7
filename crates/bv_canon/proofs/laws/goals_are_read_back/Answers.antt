use Rattle.bv_canon.proofs.Printed.{read_back, reads_one}
use Rattle.bv_canon.proofs.laws.goals_are_read_back.Goals as goal

pub returns-clause-some : goal.returns-clause-some
returns-clause-some c = read_back

pub returns-clause-one : goal.returns-clause-one
returns-clause-one c = reads_one
