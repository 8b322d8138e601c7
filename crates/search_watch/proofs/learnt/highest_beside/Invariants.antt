use Rattle.std.proofs.Common.{◌≤◌, take}
use Rattle.search_watch.specs.Chosen.{IsHighest}
use Rattle.search_watch.proofs.learnt.highest_beside.Given as goal

abbrev pub invariant-loop-lit : goal.invariant-loop-lit
invariant-loop-lit l = record {
  highest : IsHighest l.trail.steps (take l.lit-index l.lits) l.first l.best;
  within : l.best.var ≤ l.trail.vars;
}
