use Rattle.std.proofs.Common.{◌≡◌, take}
use Rattle.blast_goal.specs.Values.{values_of}
use Rattle.goal_alone.specs.Inputs.{has}
use Rattle.goal_alone.proofs.counterexample.counterexample.Given as goal

abbrev pub invariant-loop-variable : goal.invariant-loop-variable
invariant-loop-variable l = l.found.items ≡ values_of (take l.variable l.goal.binders) (has l.inputs.items)
