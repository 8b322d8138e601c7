use Rattle.std.proofs.Common.{◌≡◌, ◌+◌, length}
use Rattle.bv_typing.specs.Judging.{gather}
use Rattle.bv_typing.specs.Verdicts.{none_gathered}
use Rattle.bv_typing.proofs.judging.Slots.gather.Given as goal

abbrev pub invariant-slots : goal.invariant-slots
invariant-slots l = record {
  counted : l.gathered.count + length l.self ≡ l.number;
  so_far : gather l.self l.gathered ≡ gather l.initial.self none_gathered;
}

abbrev pub decreases-slots : goal.decreases-slots
decreases-slots l = length l.self
