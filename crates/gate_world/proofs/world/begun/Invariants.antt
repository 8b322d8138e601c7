use Rattle.std.proofs.Common.{map}
use Rattle.gate_world.proofs.Happening.{AreBegun}
use Rattle.gate_world.proofs.world.begun.Given as goal

abbrev pub invariant-loop-goal : goal.invariant-loop-goal
invariant-loop-goal l = AreBegun (map (λ g. g.now) l.goals) l.size l.budget l.goal-index l.tasks.items
