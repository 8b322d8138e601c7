use Rattle.std.proofs.Common.{◌≡◌, ◌≤◌, ◌+◌, drop, length}
use Rattle.search_learn.specs.Machine as machine
use Rattle.search_learn.specs.Cases.{put_entries}
use Rattle.search_watch.specs.RoundUnits.{entries}
use Rattle.search_watch.proofs.units.put.Given as goal

abbrev pub invariant-loop-unit : goal.invariant-loop-unit
invariant-loop-unit l = record {
  vars : l.trail.vars ≡ l.initial.trail.vars;
  signs : length l.signs ≡ length l.initial.signs;
  count : l.count ≤ l.unit-index;
  put : (m : machine.State) → m.trail ≡ l.initial.trail.steps → m.signs ≡ l.initial.signs
      → put_entries (entries l.level l.units) m ≡ put_entries (entries l.level (drop l.unit-index l.units)) (record m { trail = l.trail.steps; signs = l.signs; spent = m.spent + l.count });
}
