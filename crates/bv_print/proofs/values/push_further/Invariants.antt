use Rattle.std.proofs.Common.{◌≡◌, ◌++◌, drop}
use Rattle.bv_print.specs.Values.{Begins, further_text}
use Rattle.bv_print.proofs.values.push_further.Given as goal

abbrev pub invariant-variables : goal.invariant-variables
invariant-variables l = record {
  texts : l.out.items ++ further_text (drop l.at l.binders) (drop l.at l.values) ≡ l.initial.out.items ++ further_text l.binders l.values;
  begins : Begins l.initial.out.items l.out.items;
}
