use Rattle.std.proofs.Common.{◌≡◌, ◌<◌, ◌≤◌, ◌-◌, false}
use Rattle.search_learn.specs.declared.Turn.TheVariants.{More}
use Rattle.cdcl_solver.specs.Progress.{turned}
use Rattle.cdcl_solver.proofs.Search.turn.Given as goal

abbrev pub invariant-loop-taken : goal.invariant-loop-taken
invariant-loop-taken l = record {
  whole : l.self.broken ≡ false;
  so_far : l.self ≡ turned l.taken l.initial.self;
  going : 0 < l.taken → l.self.machine.state.end ≡ More;
  within : l.taken ≤ l.most;
}

abbrev pub decreases-loop-taken : goal.decreases-loop-taken
decreases-loop-taken l = l.most - l.taken
