use Rattle.std.proofs.Common.{arith}
use Rattle.bv_typing.proofs.InGoals.{end_some, first_goal, other_goals}
use Rattle.bv_typing.proofs.goals.goal_end.Goals as goal

pub returns-clause-some : goal.returns-clause-some
returns-clause-some c = λ h. let s = end_some c.args.pieces.now h in omega arith

pub returns-clause-first : goal.returns-clause-first
returns-clause-first c = λ g gs e. first_goal c.find_end.result c.args.pieces.now g gs c.find_end.ensures.value e

pub returns-clause-others : goal.returns-clause-others
returns-clause-others c = λ g gs e. other_goals c.find_end.result c.args.pieces.now g gs c.find_end.ensures.value e
