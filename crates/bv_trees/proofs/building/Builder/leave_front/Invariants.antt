use Rattle.std.proofs.Common.{◌≡◌, length}
use Rattle.bv_trees.specs.Building.{settle, front}
use Rattle.bv_trees.proofs.building.Builder.leave_front.Given as goal

abbrev pub invariant-loop-self : goal.invariant-loop-self
invariant-loop-self l = settle (front l.self.frames) l.self ≡ settle (front l.initial.self.frames) l.initial.self

abbrev pub decreases-loop-self : goal.decreases-loop-self
decreases-loop-self l = length l.self.frames
