use Rattle.std.proofs.Common.{◌≡◌, length}
use Rattle.search_learn.specs.Trail as trails
use Rattle.search_learn.specs.Values.{IsOfMachine}
use Rattle.search_watch.specs.Members.{KeepsFree}
use Rattle.search_watch.proofs.moves.cut.Given as goal

abbrev pub invariant-loop-step : goal.invariant-loop-step
invariant-loop-step l = record {
  vars : l.trail.vars ≡ l.initial.trail.vars;
  machine : IsOfMachine l.trail.vars l.trail.steps;
  cut : trails.cut l.to l.trail.steps ≡ trails.cut l.to l.initial.trail.steps;
  scores : l.heap.scores ≡ l.initial.heap.scores;
  size : length l.heap.members ≡ length l.initial.heap.members;
  free : KeepsFree l.initial.trail.vars l.initial.trail.steps l.initial.heap l.trail.steps l.heap;
}

abbrev pub decreases-loop-step : goal.decreases-loop-step
decreases-loop-step l = length l.trail.steps
