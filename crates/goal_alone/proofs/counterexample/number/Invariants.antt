use Rattle.std.proofs.Common.{◌≡◌, ◌≤◌}
use Rattle.goal_alone.specs.Inputs.{has}
use Rattle.goal_alone.proofs.Numbers.{upper}
use Rattle.goal_alone.proofs.counterexample.number.Given as goal

abbrev pub invariant-loop-bit : goal.invariant-loop-bit
invariant-loop-bit l = record {
  so_far : l.number ≡ upper (has l.inputs l.variable) l.width l.bit;
  within : l.bit ≤ l.width;
}

abbrev pub decreases-loop-bit : goal.decreases-loop-bit
decreases-loop-bit l = l.bit
