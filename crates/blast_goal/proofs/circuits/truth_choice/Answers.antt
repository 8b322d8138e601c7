use Rattle.gate_shape.specs.Row.{choice}
use Rattle.gate_shape.proofs.Building.{stand_self, builds_at_three}
use Rattle.blast_goal.proofs.Rows.{builds_single, stands_first}
use Rattle.blast_goal.proofs.circuits.truth_choice.Goals as goal

pub truth_if-requires-clause-condition : goal.truth_if-requires-clause-condition
truth_if-requires-clause-condition g c = (stands_first (stand_self c.requires.condition) c.requires.positive c.index-c-0.is).known

pub truth_if-requires-clause-left : goal.truth_if-requires-clause-left
truth_if-requires-clause-left g c = (stands_first (stand_self c.requires.left) c.requires.left_positive c.index-x-0.is).known

pub truth_if-requires-clause-right : goal.truth_if-requires-clause-right
truth_if-requires-clause-right g c = (stands_first (stand_self c.requires.right) c.requires.right_positive c.index-y-0.is).known

pub returns : goal.returns
returns g c =
    let p = stands_first (stand_self c.requires.condition) c.requires.positive c.index-c-0.is in
    let q = stands_first (stand_self c.requires.left) c.requires.left_positive c.index-x-0.is in
    let r = stands_first (stand_self c.requires.right) c.requires.right_positive c.index-y-0.is in
    builds_single _ (builds_at_three choice p q r c.truth_if.ensures.built) c.single.ensures
