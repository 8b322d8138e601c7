use Rattle.std.proofs.Common.{◌≡◌, ◌-◌, ◌++◌, length, drop, take}
use Rattle.sat_form.specs.Dimacs.{clauses_text, dimacs_text}
use Rattle.sat_form.proofs.dimacs_text.push_formula.Given as goal

abbrev pub invariant-loop-clause : goal.invariant-loop-clause
invariant-loop-clause l = record {
  text : l.out.items ++ clauses_text (drop l.at l.cnf.clauses) ≡ l.fn.out.items ++ dimacs_text l.cnf.vars l.cnf.clauses;
  keeps : take (length l.fn.out.items) l.out.items ≡ l.fn.out.items;
}

abbrev pub decreases-loop-clause : goal.decreases-loop-clause
decreases-loop-clause l = length l.cnf.clauses - l.at
