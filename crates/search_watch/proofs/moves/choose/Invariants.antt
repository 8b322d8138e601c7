use Rattle.std.proofs.Common.{◌≡◌, length}
use Rattle.search_watch.proofs.Members.{StayFree, members}
use Rattle.search_watch.proofs.moves.choose.Given as goal

abbrev pub invariant-loop-var : goal.invariant-loop-var
invariant-loop-var l = record {
  scores : l.heap.scores ≡ l.initial.heap.scores;
  size : length l.heap.members ≡ length l.initial.heap.members;
  stay : StayFree l.trail.steps l.initial.heap l.heap;
}

abbrev pub decreases-loop-var : goal.decreases-loop-var
decreases-loop-var l = members l.heap
