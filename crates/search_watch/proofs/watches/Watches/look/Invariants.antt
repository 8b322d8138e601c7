use Rattle.std.proofs.Common.{◌≡◌, ◌-◌, drop, length}
use Rattle.search_watch.specs.Nets.{IsNet, negated, net}
use Rattle.search_watch.proofs.watches.Watches.look.Given as goal

abbrev pub decreases-loop-at : goal.decreases-loop-at
decreases-loop-at l = length l.trail - l.at

abbrev pub invariant-loop-at : goal.invariant-loop-at
invariant-loop-at l = record {
  net : IsNet (length l.values) l.trail (negated (drop l.at l.trail)) (net l.self);
  clauses : l.self.clauses ≡ l.initial.self.clauses;
}
