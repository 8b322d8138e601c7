use Rattle.std.proofs.Common.{◌≡◌, ◌+◌, drop}
use Rattle.bv_typing.specs.Faults.{goal_end}
use Rattle.bv_typing.proofs.goals.find_end.Given as goal

abbrev pub invariant-loop-at : goal.invariant-loop-at
invariant-loop-at l = l.at + goal_end (drop l.at l.pieces) ≡ goal_end l.pieces
