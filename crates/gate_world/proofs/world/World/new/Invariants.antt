use Rattle.std.proofs.Common.{◌≡◌, map, take}
use Rattle.gate_world.proofs.world.World.new.Given as goal

abbrev pub invariant-loop-goal : goal.invariant-loop-goal
invariant-loop-goal l = map (λ g. g.now) l.lent.items ≡ take l.goal-index l.goals
