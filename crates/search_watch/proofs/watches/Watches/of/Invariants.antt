use Rattle.std.proofs.Common.{◌≡◌, ◌≤◌, ◌-◌, [], take, length}
use Rattle.search_watch.specs.Nets.{IsNet, net}
use Rattle.search_watch.proofs.watches.Watches.of.Given as goal

abbrev pub invariant-loop-lits : goal.invariant-loop-lits
invariant-loop-lits l = record {
  low : l.at ≤ length l.cnf.clauses;
  net : IsNet l.trail.vars l.trail.steps [] (net l.watches);
  clauses : l.watches.clauses ≡ take l.at l.cnf.clauses;
}

abbrev pub decreases-loop-lits : goal.decreases-loop-lits
decreases-loop-lits l = length l.cnf.clauses - l.at
