use Rattle.bv_trees.proofs.Whole.{has_goals, is_whole, one_reading}
use Rattle.bv_trees.proofs.laws.whole_files_have_one_reading.Goals as goal

pub returns-clause-some : goal.returns-clause-some
returns-clause-some c = has_goals

pub returns-clause-whole : goal.returns-clause-whole
returns-clause-whole c = is_whole

pub returns-clause-one : goal.returns-clause-one
returns-clause-one c = one_reading
