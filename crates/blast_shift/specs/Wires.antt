-- The rows that make no gate: each bit of the answer is a bit of the argument, or false. Bit 0 is the lowest, and w is
-- the length of the argument.
use Rattle.std.specs.Prelude.{ℕ, ◌+◌, ◌-◌, ◌%◌, false, List, ◌++◌, length, map, min, nat_lt, if◌then◌else◌, pos, ◌-ℤ◌}
use Rattle.std.specs.List.{range_with_len}
use Rattle.gate_shape.specs.Edge.{Edge, constant}
use Rattle.bv_value.specs.BitVector.{residue}
use Rattle.blast_logic.specs.Words.{bit_at}

-- so many bits, bit j of them `bit j`
abbrev pub bits_by : ℕ → (ℕ → Edge) → List Edge
bits_by count bit = map bit (range_with_len 0 count)

-- moved up by n bits, false below them (Lean 4 `x <<< n`)
unfoldable pub shifted_left : ℕ → List Edge → List Edge
shifted_left n xs = bits_by (length xs) (λ j. if nat_lt j n then constant false else bit_at xs (j - n))

-- moved down by n bits, false above them (`x >>> n`)
unfoldable pub shifted_right : ℕ → List Edge → List Edge
shifted_right n xs = bits_by (length xs) (λ j. bit_at xs (j + n))

-- moved down by n bits, the top bit above them (`x.sshiftRight n`)
unfoldable pub shifted_right_signed : ℕ → List Edge → List Edge
shifted_right_signed n xs = bits_by (length xs) (λ j. bit_at xs (min (j + n) (length xs - 1)))

-- moved up by n bits, round: bit j is bit j - n modulo the width (`x.rotateLeft n`)
unfoldable pub rotated_left : ℕ → List Edge → List Edge
rotated_left n xs = bits_by (length xs) (λ j. bit_at xs (residue (length xs) (pos j -ℤ pos n)))

-- moved down by n bits, round: bit j is bit j + n modulo the width (`x.rotateRight n`)
unfoldable pub rotated_right : ℕ → List Edge → List Edge
rotated_right n xs = bits_by (length xs) (λ j. bit_at xs ((j + n) % length xs))

-- the bits of y, and then those of x (`x ++ y`)
abbrev pub appended : List Edge → List Edge → List Edge
appended xs ys = ys ++ xs

-- so many bits from place `start` on, false where there is none (`x.extractLsb' start count`)
unfoldable pub extracted : ℕ → ℕ → List Edge → List Edge
extracted start count xs = bits_by count (λ j. bit_at xs (start + j))

-- the low bits, false above them (`x.setWidth width`)
unfoldable pub with_width : ℕ → List Edge → List Edge
with_width width xs = bits_by width (bit_at xs)

-- the low bits, the top bit above them (`x.signExtend width`)
unfoldable pub sign_extended : ℕ → List Edge → List Edge
sign_extended width xs = bits_by width (λ j. bit_at xs (min j (length xs - 1)))
