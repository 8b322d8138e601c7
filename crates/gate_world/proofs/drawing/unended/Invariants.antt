use Rattle.std.proofs.Common.{◌≡◌, ◌++◌, drop}
use Rattle.gate_world.specs.World.{World}
use Rattle.gate_world.specs.Drawn.{unended, unended_from}
use Rattle.gate_world.specs.Shown.{Shows}
use Rattle.gate_world.proofs.drawing.unended.Given as goal

-- the goals before this one are looked through
abbrev pub invariant-loop-goal : goal.invariant-loop-goal
invariant-loop-goal l = (w : World) → Shows l.world w → unended w ≡ l.goals.items ++ unended_from l.goal (drop l.goal w.actors)
