use Rattle.std.proofs.Common.{◌≡◌, ◌++◌, List, length}
use Rattle.bv_expr.specs.Term.{Term}
use Rattle.bv_terms.specs.Goals.{made}
use Rattle.bv_terms.proofs.goals.lowest_first.Given as goal

abbrev pub invariant-items : goal.invariant-items
invariant-items l = record {
  so_far : l.initial.built ≡ made l.terms.items ++ l.built;
  others : (ts : List Term) × (l.built ≡ made ts);
}

abbrev pub decreases-items : goal.decreases-items
decreases-items l = length l.built
