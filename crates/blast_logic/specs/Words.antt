-- Lists of edges as bit vectors, bit 0 first.
use Rattle.std.specs.Prelude.{ℕ, ◌-◌, Bool, false, List, length, map, slice_index_or}
use Rattle.gate_shape.specs.Edge.{Edge, constant, value}
use Rattle.bv_value.specs.Bits.{number_of}
use Rattle.bv_value.specs.BitVector.{BitVector}

-- the number that these edges write, where bit j of variable k has the value `bits k j`
abbrev pub written_number : (ℕ → ℕ → Bool) → List Edge → ℕ
written_number bits es = number_of (map (value bits) es)

-- the bit vector, as wide as the list
abbrev pub word : (ℕ → ℕ → Bool) → List Edge → BitVector
word bits es = record { width = length es; number = written_number bits es }

-- bit j of a list, and false from its length on
abbrev pub bit_at : List Edge → ℕ → Edge
bit_at xs j = slice_index_or xs j (constant false)

-- the top bit
abbrev pub top_bit : List Edge → Edge
top_bit xs = bit_at xs (length xs - 1)
