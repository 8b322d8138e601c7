use Rattle.std.proofs.Common.{◌≡◌, length, None}
use Rattle.bv_typing.specs.Judging.{truths_misfit}
use Rattle.bv_typing.proofs.judging.truths_misfit.Given as goal

abbrev pub invariant-slots : goal.invariant-slots
invariant-slots l = truths_misfit l.slots l.found ≡ truths_misfit l.initial.slots None

abbrev pub decreases-slots : goal.decreases-slots
decreases-slots l = length l.slots
