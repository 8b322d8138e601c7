use Rattle.std.proofs.Common.{◌≡◌, ℕ, take}
use Rattle.sat_form.specs.Truth.{value_of}
use Rattle.goal_alone.specs.Satisfying.{node_bits}
use Rattle.goal_alone.specs.Inputs.{has}
use Rattle.goal_alone.proofs.counterexample.true_inputs.Given as goal

abbrev pub invariant-loop-i : goal.invariant-loop-i
invariant-loop-i l = (k j : ℕ) → has l.inputs.items k j ≡ node_bits (take l.i l.cone.nodes.items) (value_of l.values) k j
