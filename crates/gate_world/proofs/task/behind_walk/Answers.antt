use Rattle.gate_world.proofs.Behind.{whole_follows}
use Rattle.gate_world.proofs.task.behind_walk.Goals as goal

pub returns-in_ok-start_search-in-Whole : goal.returns-in_ok-start_search-in-Whole
returns-in_ok-start_search-in-Whole c = whole_follows c.args.budget c.args.walked c.in-Whole.cone c.in-Whole.nodes c.in_ok-start_search-in-Whole.field-0 c.in-Whole.is c.in_ok-start_search-in-Whole.ensures
