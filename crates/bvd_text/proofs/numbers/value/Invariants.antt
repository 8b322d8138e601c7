use Rattle.std.proofs.Common.{◌≡◌, Some, take}
use Rattle.std.specs.Str.Parse.{digits_value}
use Rattle.bvd_text.specs.Numbers as spec
use Rattle.bvd_text.proofs.numbers.value.Given as goal

abbrev pub invariant-loop-byte : goal.invariant-loop-byte
invariant-loop-byte l = Some l.value ≡ spec.small (digits_value l.base (take l.byte-index l.digits))
