use Rattle.std.proofs.Common.{◌≡◌, ◌≤◌, length}
use Rattle.lrat_trim.specs.Passing.{rest_from}
use Rattle.lrat_trim.proofs.Marked.{IsMarkedFrom}
use Rattle.lrat_trim.proofs.needed.marks.Given as goal

abbrev pub invariant-loop-at : goal.invariant-loop-at
invariant-loop-at l = record {
  size : length l.marks.items ≡ length l.lines;
  within : l.at ≤ length l.lines;
  marked : IsMarkedFrom l.inputs l.marks.items l.at (rest_from l.inputs l.lines l.at);
}

abbrev pub decreases-loop-at : goal.decreases-loop-at
decreases-loop-at l = l.at
