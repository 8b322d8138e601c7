use Rattle.std.proofs.Common.{◌≡◌, ◌++◌}
use Rattle.search_learn.specs.Machine.{numbered}
use Rattle.search_learn.specs.Cases.{unit_entries}
use Rattle.search_plain.proofs.Numbered.{rest}
use Rattle.search_plain.proofs.moves.units.Given as goal

abbrev pub invariant-loop-place : goal.invariant-loop-place
invariant-loop-place l =
    let all = l.clauses.clauses ++ l.learnt in
    unit_entries l.trail.steps l.level (numbered 1 all) ≡ l.entries.items ++ unit_entries l.trail.steps l.level (rest all l.place)
