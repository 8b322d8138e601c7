use Rattle.std.proofs.Common.{◌≡◌, ℕ, ◌<◌, pos, false, get_or}
use Rattle.lrat_judge.specs.Taken.{begins_group}
use Rattle.lrat_judge.proofs.hints.leading.Given as goal

abbrev pub invariant-loop-at : goal.invariant-loop-at
invariant-loop-at l = (k : ℕ) → k < l.at → begins_group (get_or l.hints k (pos 0)) ≡ false
