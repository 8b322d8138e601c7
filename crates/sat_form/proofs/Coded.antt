-- A literal's number with its last bit changed.
use Rattle.std.proofs.Common.{◌≡◌, ℕ, zero, suc, ◌/◌, ◌%◌, ◌<◌, not, refl, ap, ◌∙◌, arith}
use Rattle.std.specs.Int.Bits.{bit_xor, xor_zero_r}
use Rattle.std.proofs.Math.Nat.{mod-lt}
use Rattle.std.proofs.lemmas.Nat.{xor_shr, xor_mod}
use Rattle.sat_form.specs.Literals.{negate}
use Rattle.sat_form.specs.Codes.{sign_of, literal_of}

other-sign : (part : ℕ) → part < 2 → sign_of (bit_xor part 1) ≡ not (sign_of part)
other-sign zero _ = refl
other-sign (suc zero) _ = refl
other-sign (suc (suc part)) below = absurd (omega (arith, below))

-- it is that of the negation
pub literal_of-xor : (code : ℕ) → literal_of (bit_xor code 1) ≡ negate (literal_of code)
literal_of-xor code i = record {
  var = (xor_shr code 1 1 ∙ xor_zero_r (code / 2)) i;
  positive = (ap sign_of (xor_mod code 1 1) ∙ other-sign (code % 2) (mod-lt code (omega arith))) i;
}
