use Rattle.std.proofs.Common.{◌≡◌, ◌+◌, drop}
use Rattle.bvd_text.specs.Numbers as spec
use Rattle.bvd_text.proofs.numbers.digits_read.Given as goal

abbrev pub invariant-loop-at : goal.invariant-loop-at
invariant-loop-at l = spec.digits_read l.base l.digits ≡ l.at + spec.digits_read l.base (drop l.at l.digits)
