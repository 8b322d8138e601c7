use Rattle.std.proofs.Common.{◌≡◌, ◌++◌, drop, flat_map}
use Rattle.bv_print.specs.Canonical.{hypothesis_text}
use Rattle.bv_print.specs.Values.{Begins}
use Rattle.bv_print.proofs.goals.push_hypotheses.Given as goal

abbrev pub invariant-hypotheses : goal.invariant-hypotheses
invariant-hypotheses l = record {
  texts : l.out.items ++ flat_map (hypothesis_text l.binders) (drop l.at l.hyps) ≡ l.initial.out.items ++ flat_map (hypothesis_text l.binders) l.hyps;
  begins : Begins l.initial.out.items l.out.items;
}
