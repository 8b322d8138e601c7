use Rattle.std.proofs.Common.{◌≡◌, ◌-◌, length, drop}
use Rattle.bv_limits.specs.Measuring.{start, measure}
use Rattle.bv_limits.proofs.depths.least_deep.Given as goal

abbrev pub invariant-loop-at : goal.invariant-loop-at
invariant-loop-at l = measure (drop l.at l.pieces) (record { parts = l.parts; least = l.least }) ≡ measure l.pieces start

abbrev pub decreases-loop-at : goal.decreases-loop-at
decreases-loop-at l = length l.pieces - l.at
