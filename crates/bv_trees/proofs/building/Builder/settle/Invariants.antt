use Rattle.std.proofs.Common.{◌≡◌}
use Rattle.bv_trees.specs.Building.{settle}
use Rattle.bv_trees.proofs.building.Builder.settle.Given as goal

abbrev pub invariant-loop-left : goal.invariant-loop-left
invariant-loop-left l = settle l.left l.self ≡ settle l.number l.initial.self

abbrev pub decreases-loop-left : goal.decreases-loop-left
decreases-loop-left l = l.left
