use Rattle.std.proofs.Common.{◌≡◌, ◌-◌, length, drop}
use Rattle.bv_limits.specs.Naming.{names_sort}
use Rattle.bv_limits.proofs.variables.names_sort.Given as goal

abbrev pub invariant-loop-at : goal.invariant-loop-at
invariant-loop-at l = names_sort (drop l.at l.taken) ≡ names_sort (drop l.from l.taken)

abbrev pub decreases-loop-at : goal.decreases-loop-at
decreases-loop-at l = length l.taken - l.at
