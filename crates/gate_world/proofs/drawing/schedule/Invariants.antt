use Rattle.std.proofs.Common.{map}
use Rattle.gate_world.proofs.Weighed.{world_left}
use Rattle.gate_world.proofs.DrawnSo.{IsDrawnSo}
use Rattle.gate_world.proofs.drawing.schedule.Given as goal

abbrev pub invariant-loop-generator : goal.invariant-loop-generator
invariant-loop-generator l = IsDrawnSo (map (λ g. g.now) l.fn.goals.items) l.seed l.words l.budget l.world l.generator l.left.items

abbrev pub decreases-loop-generator : goal.decreases-loop-generator
decreases-loop-generator l = world_left l.world
