use Rattle.std.proofs.Common.{◌≡◌, ◌≤◌, ◌<◌, ◌-◌, ℕ, length, None}
use Rattle.bv_limits.specs.Counting.{counters, limit_at}
use Rattle.bv_limits.proofs.plain.find_limit.Given as goal

abbrev pub invariant-loop-at : goal.invariant-loop-at
invariant-loop-at l = record {
  within : l.at ≤ length l.taken;
  so_far : l.counters ≡ counters l.taken l.at;
  clean : (k : ℕ) → k < l.at → limit_at l.tokens l.taken k ≡ None;
}

abbrev pub decreases-loop-at : goal.decreases-loop-at
decreases-loop-at l = length l.taken - l.at
