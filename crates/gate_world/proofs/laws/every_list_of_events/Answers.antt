use Rattle.gate_world.proofs.Running.{stays_right}
use Rattle.gate_world.proofs.Bounding.{steps_bounded}
use Rattle.gate_world.proofs.Turning.{turns_bounded}
use Rattle.gate_world.proofs.Lowering.{events_lower}
use Rattle.gate_world.proofs.Cones.{cones_agree}
use Rattle.gate_world.proofs.laws.every_list_of_events.Goals as goal

pub returns-clause-right : goal.returns-clause-right
returns-clause-right c = stays_right

pub returns-clause-steps : goal.returns-clause-steps
returns-clause-steps c = steps_bounded

pub returns-clause-turns : goal.returns-clause-turns
returns-clause-turns c = turns_bounded

pub returns-clause-lower : goal.returns-clause-lower
returns-clause-lower c = events_lower

pub returns-clause-cones : goal.returns-clause-cones
returns-clause-cones c = cones_agree
