use Rattle.std.proofs.Common.{◌≡◌, map, Some}
use Rattle.gate_world.specs.Tasks.{outcome_in}
use Rattle.gate_world.proofs.world.outcomes_of.Given as goal

abbrev pub invariant-loop-task : goal.invariant-loop-task
invariant-loop-task l = map outcome_in l.yielded ≡ map (λ o. Some o) l.outcomes.items
