use Rattle.std.proofs.Common.{◌≡◌, ◌++◌, drop, flat_map}
use Rattle.bv_print.specs.Canonical.{binder_text}
use Rattle.bv_print.specs.Values.{Begins}
use Rattle.bv_print.proofs.goals.push_binders.Given as goal

abbrev pub invariant-variables : goal.invariant-variables
invariant-variables l = record {
  texts : l.out.items ++ flat_map binder_text (drop l.at l.binders) ≡ l.initial.out.items ++ flat_map binder_text l.binders;
  begins : Begins l.initial.out.items l.out.items;
}
