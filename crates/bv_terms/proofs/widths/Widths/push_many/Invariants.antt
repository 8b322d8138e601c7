use Rattle.std.proofs.Common.{◌≡◌}
use Rattle.bv_terms.specs.Widths.{many}
use Rattle.bv_terms.proofs.widths.Widths.push_many.Given as goal

abbrev pub invariant-loop-left : goal.invariant-loop-left
invariant-loop-left l = many l.left l.width l.self ≡ many l.number l.width l.initial.self

abbrev pub decreases-loop-left : goal.decreases-loop-left
decreases-loop-left l = l.left
