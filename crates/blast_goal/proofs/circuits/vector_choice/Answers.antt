use Rattle.gate_shape.proofs.Building.{stand_self, builds_at_one_and_lists}
use Rattle.blast_logic.specs.Chosen.{chosen}
use Rattle.blast_goal.proofs.Rows.{stands_first}
use Rattle.blast_goal.proofs.circuits.vector_choice.Goals as goal

pub choose-requires-clause-condition : goal.choose-requires-clause-condition
choose-requires-clause-condition g c = (stands_first (stand_self c.requires.condition) c.requires.positive c.index-c-0.is).known

pub returns : goal.returns
returns g c =
    builds_at_one_and_lists chosen (stands_first (stand_self c.requires.condition) c.requires.positive c.index-c-0.is) (stand_self c.requires.left) (stand_self c.requires.right) c.choose.ensures.built
