use Rattle.std.proofs.Common.{◌≡◌, length}
use Rattle.bv_limits.specs.Measuring.{gathered, behind}
use Rattle.bv_limits.proofs.depths.Parts.gather.Given as goal

abbrev pub invariant-loop-part : goal.invariant-loop-part
invariant-loop-part l = record {
  depth : gathered l.deepest l.self ≡ gathered 0 l.initial.self;
  rest : behind l.self ≡ behind l.initial.self;
}

abbrev pub decreases-loop-part : goal.decreases-loop-part
decreases-loop-part l = length l.self
