use Rattle.std.proofs.Common.{◌≡◌, ◌≤◌, ◌-◌, length, take}
use Rattle.lrat_lines.specs.Judge.{given}
use Rattle.lrat_judge.proofs.known.Known.given.Given as goal

abbrev pub invariant-loop-clause : goal.invariant-loop-clause
invariant-loop-clause l = record {
  within : l.at ≤ length l.cnf.clauses;
  known : l.known ≡ given (take l.at l.cnf.clauses);
}

abbrev pub decreases-loop-clause : goal.decreases-loop-clause
decreases-loop-clause l = length l.cnf.clauses - l.at
