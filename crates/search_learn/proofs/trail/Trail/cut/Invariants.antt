use Rattle.std.proofs.Common.{◌≡◌, length}
use Rattle.search_learn.specs.Trail as trails
use Rattle.search_learn.specs.Values.{IsOfMachine}
use Rattle.search_learn.proofs.trail.Trail.cut.Given as goal

abbrev pub invariant-loop : goal.invariant-loop
invariant-loop l = record {
  vars : l.self.vars ≡ l.initial.self.vars;
  machine : IsOfMachine l.self.vars l.self.steps;
  cut : trails.cut l.to l.self.steps ≡ trails.cut l.to l.initial.self.steps;
}

abbrev pub decreases-loop : goal.decreases-loop
decreases-loop l = length l.self.steps
