-- Shifts by bit vectors: a stage for each bit of the amount, from bit 0 up, where the bit's weight 2^k is below the
-- width; any other bit of the amount moves all bits out.
use Rattle.std.specs.Prelude.{ℕ, ◌^◌, false, List, length, replicate, nat_lt, if◌then◌else◌}
use Rattle.std.specs.List.{enumerate_from}
use Rattle.gate_shape.specs.Edge.{Edge, constant, invert}
use Rattle.gate_shape.specs.Row.{Row, plain, ◌>>=◌, along, either}
use Rattle.blast_logic.specs.Chosen.{chosen, masked}
use Rattle.blast_logic.specs.Words.{top_bit}
use Rattle.blast_shift.specs.Wires.{shifted_right_signed}

-- bit k of the amount, of weight 2^k: where the weight is below the width, the bits moved by it or as they are
unfoldable pub stage : (ℕ → List Edge → List Edge) → List Edge → ℕ × Edge → Row (List Edge)
stage move xs p = if nat_lt (2 ^ p.0) (length xs) then chosen p.1 (move (2 ^ p.0) xs) xs else plain xs

-- a stage for each bit of the amount
unfoldable pub stages : (ℕ → List Edge → List Edge) → List Edge → List Edge → Row (List Edge)
stages move xs ys = along (stage move) xs (enumerate_from 0 ys)

-- one more bit of the amount, where its weight is at least the width
unfoldable pub or_overflow : ℕ → Edge → ℕ × Edge → Row Edge
or_overflow width over p = if nat_lt (2 ^ p.0) width then plain over else either over p.1

-- whether a bit of the amount is true whose weight is at least the width
unfoldable pub overflow : ℕ → List Edge → Row Edge
overflow width ys = along (or_overflow width) (constant false) (enumerate_from 0 ys)

-- the bits moved up or down by an amount, false where the amount is too great
unfoldable pub variable_shift : (ℕ → List Edge → List Edge) → List Edge → List Edge → Row (List Edge)
variable_shift move xs ys = do
  moved ← stages move xs ys
  over ← overflow (length xs) ys
  masked (invert over) moved

-- the bits moved down by an amount, the top bit above them
unfoldable pub variable_shift_signed : List Edge → List Edge → Row (List Edge)
variable_shift_signed xs ys = do
  moved ← stages shifted_right_signed xs ys
  over ← overflow (length xs) ys
  chosen over (replicate (length xs) (top_bit xs)) moved
