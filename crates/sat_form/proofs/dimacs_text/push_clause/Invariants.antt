use Rattle.std.proofs.Common.{◌≡◌, ◌++◌, drop, take, length}
use Rattle.sat_form.specs.Dimacs.{clause_text}
use Rattle.sat_form.proofs.dimacs_text.push_clause.Given as goal

abbrev pub invariant-loop-lit : goal.invariant-loop-lit
invariant-loop-lit l = record {
  text : l.out.items ++ clause_text (drop l.lit-index l.clause) ≡ l.fn.out.items ++ clause_text l.clause;
  keeps : take (length l.fn.out.items) l.out.items ≡ l.fn.out.items;
}
