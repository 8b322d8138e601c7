use Rattle.gate_world.specs.Coding.{problem_of}
use Rattle.gate_world.specs.Tasks.{FollowsBuild}
use Rattle.gate_world.proofs.Begun.{if_ok}
use Rattle.gate_world.proofs.Behind.{begun_walks, begun_follows}
use Rattle.gate_world.proofs.task.Task.begin.Goals as goal

pub behind_build-requires-clause-built : goal.behind_build-requires-clause-built
behind_build-requires-clause-built c = begun_walks (problem_of c.args.goal.now) c.args.size c.in_ok-start_building.field-0 c.requires.size.1 c.in_ok-start_building.ensures.begun

pub returns-clause-begun : goal.returns-clause-begun
returns-clause-begun c =
    if_ok c.behind_build.result (FollowsBuild c.args.budget c.in_ok-start_building.field-0) _
    (λ t k. begun_follows c.args.goal.now c.args.size c.args.budget c.in_ok-start_building.field-0 t c.requires.size.0 c.requires.size.1 c.in_ok-start_building.ensures.scripted c.in_ok-start_building.ensures.begun k) c.behind_build.ensures
