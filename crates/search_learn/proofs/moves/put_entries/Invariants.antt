use Rattle.std.proofs.Common.{◌≡◌, ◌≤◌, ◌+◌, drop, length}
use Rattle.search_learn.specs.Machine as machine
use Rattle.search_learn.specs.Cases.{put_entries}
use Rattle.search_learn.proofs.moves.put_entries.Given as goal

abbrev pub invariant-loop-entry : goal.invariant-loop-entry
invariant-loop-entry l = record {
  vars : l.trail.vars ≡ l.initial.trail.vars;
  signs : length l.signs ≡ length l.initial.signs;
  count : l.count ≤ l.entry-index;
  put : (m : machine.State) → m.trail ≡ l.initial.trail.steps → m.signs ≡ l.initial.signs
      → put_entries l.entries m ≡ put_entries (drop l.entry-index l.entries) (record m { trail = l.trail.steps; signs = l.signs; spent = m.spent + l.count });
}
