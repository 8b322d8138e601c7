-- The rows of vectors that go bit by bit: constants, variables and the bitwise operators.
use Rattle.std.specs.Prelude.{ℕ, false, List, map}
use Rattle.std.specs.List.{zip, range_with_len}
use Rattle.gate_shape.specs.Edge.{Edge, constant, input}
use Rattle.gate_shape.specs.Row.{Row, each}
use Rattle.bv_value.specs.Bits.{bits_of}
use Rattle.bv_value.specs.BitVector.{BitVector}

-- the bits of a constant
unfoldable pub constants : BitVector → List Edge
constants x = map constant (bits_of x.width x.number)

-- the bits of variable k, as wide as this
unfoldable pub inputs : ℕ → ℕ → List Edge
inputs k width = map (input false k) (range_with_len 0 width)

-- the row of two edges, at each place of two lists
unfoldable pub pairwise : (Edge → Edge → Row Edge) → List Edge → List Edge → Row (List Edge)
pairwise row xs ys = each (λ p. row p.0 p.1) (zip xs ys)
