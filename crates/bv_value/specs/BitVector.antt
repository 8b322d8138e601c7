-- Bit vectors: a width of 1 to 128, and a number below two to that width.
use Rattle.std.specs.Prelude.{ℕ, suc, ◌-◌, ◌/◌, ◌%◌, ◌^◌, ◌<◌, ◌≤◌, if◌then◌else◌, nat_lt, ℤ, pos, negsuc, ◌-ℤ◌, neg_ℤ}

pub record BitVector : Type 0 where
  pub width : ℕ
  pub number : ℕ

-- What holds of every bit vector, as of Lean 4's `BitVec w`.
pub record IsBitVector (x : BitVector) : Type 0 where
  pub positive : 1 ≤ x.width
  pub at_most_128 : x.width ≤ 128
  pub below : x.number < 2 ^ x.width

-- How many numbers the width has.
abbrev pub modulus : BitVector → ℕ
modulus x = 2 ^ x.width

-- The bit vector of a number, modulo two to the width.
abbrev pub of_number : ℕ → ℕ → BitVector
of_number width n = record { width = width; number = n % 2 ^ width }

-- The number from 0 up that a whole number leaves modulo m.
abbrev pub residue : ℕ → ℤ → ℕ
residue m (pos n) = n % m
residue m (negsuc n) = m - 1 - n % m

-- The bit vector of a whole number, modulo two to the width.
abbrev pub of_whole : ℕ → ℤ → BitVector
of_whole width z = record { width = width; number = residue (2 ^ width) z }

-- The signed value, in two's complement.
abbrev pub signed : BitVector → ℤ
signed x = if nat_lt x.number (modulus x / 2) then pos x.number else pos x.number -ℤ pos (modulus x)

-- The quotient rounded down.
abbrev pub floor_quotient : ℤ → ℕ → ℤ
floor_quotient (pos n) d = pos (n / d)
floor_quotient (negsuc n) d = negsuc (n / d)

-- The remainder that has the divisor's sign.
abbrev pub floor_remainder : ℤ → ℤ → ℤ
floor_remainder x (pos d) = pos (residue d x)
floor_remainder x (negsuc d) = neg_ℤ (pos (residue (suc d) (neg_ℤ x)))
