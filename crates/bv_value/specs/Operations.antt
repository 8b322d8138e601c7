-- What each operator on bit vectors gives, as Lean 4's `BitVec` operators: arithmetic modulo two to the width.
-- x and y have one width; of `append` they may differ.
use Rattle.std.specs.Prelude.{ℕ, ◌+◌, ◌-◌, ◌*◌, ◌/◌, ◌%◌, ◌^◌, Bool, ◌==◌, nat_lt, nat_le, if◌then◌else◌, ◌&&◌, ◌||◌, int_lt, int_le, int_div, int_rem}
use Rattle.bv_value.specs.Bits.{number_of, bits_of, at_each, differ}
use Rattle.bv_value.specs.BitVector.{BitVector, modulus, of_number, of_whole, signed, floor_quotient, floor_remainder}

-- Each bit turned over: the number that adds up to all ones with that of x.
abbrev pub bitwise_not : BitVector → BitVector
bitwise_not x = record x { number = modulus x - 1 - x.number }

-- The two's complement: what adds up to 0 with x.
abbrev pub neg : BitVector → BitVector
neg x = of_number x.width (modulus x - x.number)

-- The vector whose bit i is this of bit i of x and bit i of y.
abbrev pub bitwise : (Bool → Bool → Bool) → BitVector → BitVector → BitVector
bitwise f x y = record x { number = number_of (at_each f (bits_of x.width x.number) (bits_of y.width y.number)) }

-- Both bits.
abbrev pub bitwise_and : BitVector → BitVector → BitVector
bitwise_and = bitwise ◌&&◌

-- One or both bits.
abbrev pub bitwise_or : BitVector → BitVector → BitVector
bitwise_or = bitwise ◌||◌

-- Exactly one of the bits.
abbrev pub bitwise_xor : BitVector → BitVector → BitVector
bitwise_xor = bitwise differ

-- The sum.
abbrev pub add : BitVector → BitVector → BitVector
add x y = of_number x.width (x.number + y.number)

-- The difference.
abbrev pub sub : BitVector → BitVector → BitVector
sub x y = of_number x.width (x.number + modulus x - y.number)

-- The product.
abbrev pub mul : BitVector → BitVector → BitVector
mul x y = of_number x.width (x.number * y.number)

-- The unsigned quotient rounded down, 0 for the divisor 0.
abbrev pub udiv : BitVector → BitVector → BitVector
udiv x y = record x { number = if y.number == 0 then 0 else x.number / y.number }

-- The unsigned remainder, x for the divisor 0.
abbrev pub umod : BitVector → BitVector → BitVector
umod x y = record x { number = if y.number == 0 then x.number else x.number % y.number }

-- The signed quotient rounded toward zero, 0 for the divisor 0.
abbrev pub sdiv : BitVector → BitVector → BitVector
sdiv x y = if y.number == 0 then record x { number = 0 } else of_whole x.width (int_div (signed x) (signed y))

-- The signed remainder with the sign of x, x for the divisor 0.
abbrev pub srem : BitVector → BitVector → BitVector
srem x y = if y.number == 0 then x else of_whole x.width (int_rem (signed x) (signed y))

-- The signed remainder with the sign of y, x for the divisor 0.
abbrev pub smod : BitVector → BitVector → BitVector
smod x y = if y.number == 0 then x else of_whole x.width (floor_remainder (signed x) (signed y))

-- Moved up by n bits.
abbrev pub shl_by : BitVector → ℕ → BitVector
shl_by x n = of_number x.width (x.number * 2 ^ n)

-- Moved down by n bits, zeros from above.
abbrev pub lshr_by : BitVector → ℕ → BitVector
lshr_by x n = record x { number = x.number / 2 ^ n }

-- Moved down by n bits, copies of the top bit from above: the signed quotient rounded down.
abbrev pub ashr_by : BitVector → ℕ → BitVector
ashr_by x n = of_whole x.width (floor_quotient (signed x) (2 ^ n))

-- The upper n mod w bits move round to the bottom.
abbrev pub rotl : BitVector → ℕ → BitVector
rotl x n = let k = n % x.width in record x { number = x.number * 2 ^ k % modulus x + x.number / 2 ^ (x.width - k) }

-- The lower n mod w bits move round to the top.
abbrev pub rotr : BitVector → ℕ → BitVector
rotr x n = let k = n % x.width in record x { number = x.number / 2 ^ k + x.number % 2 ^ k * 2 ^ (x.width - k) }

-- The bits of x above those of y.
abbrev pub append : BitVector → BitVector → BitVector
append x y = record { width = x.width + y.width; number = x.number * modulus y + y.number }

-- The bits of x from place `start` up, `len` of them.
abbrev pub extract : BitVector → ℕ → ℕ → BitVector
extract x start len = of_number len (x.number / 2 ^ start)

-- The low bits of x, zeros above.
abbrev pub set_width : BitVector → ℕ → BitVector
set_width x width = of_number width x.number

-- The low bits of x, copies of its top bit above: the signed value at another width.
abbrev pub sign_extend : BitVector → ℕ → BitVector
sign_extend x width = of_whole width (signed x)

-- Bit i, the lowest being bit 0. From the width on it is false, since the number is below two to the width.
abbrev pub bit : BitVector → ℕ → Bool
bit x i = x.number / 2 ^ i % 2 == 1

-- The top bit.
abbrev pub msb : BitVector → Bool
msb x = bit x (x.width - 1)

-- Below, by unsigned values.
abbrev pub ult : BitVector → BitVector → Bool
ult x y = nat_lt x.number y.number

-- At most, by unsigned values.
abbrev pub ule : BitVector → BitVector → Bool
ule x y = nat_le x.number y.number

-- Below, by signed values.
abbrev pub slt : BitVector → BitVector → Bool
slt x y = int_lt (signed x) (signed y)

-- At most, by signed values.
abbrev pub sle : BitVector → BitVector → Bool
sle x y = int_le (signed x) (signed y)
