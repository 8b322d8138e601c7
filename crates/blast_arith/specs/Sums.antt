-- The rows of sums: the ripple adder, and what is made from it.
use Rattle.std.specs.Prelude.{true, false, List, [], ◌∷◌, ◌++◌, map, length, replicate}
use Rattle.std.specs.List.{zip}
use Rattle.gate_shape.specs.Edge.{Edge, constant, invert}
use Rattle.gate_shape.specs.Row.{Row, plain, ◌>>=◌, along, full_adder}

-- a full adder at one place: on the sums so far and the carry, and the two bits
abbrev pub add_bit : List Edge × Edge → Edge × Edge → Row (List Edge × Edge)
add_bit s p = do
  r ← full_adder p.0 p.1 s.1
  plain (s.0 ++ r.0 ∷ [], r.1)

-- full adders from bit 0, each carry going to the next: the sums, and the last carry
unfoldable pub adder : List Edge → List Edge → Edge → Row (List Edge × Edge)
adder xs ys carry = along add_bit ([], carry) (zip xs ys)

-- x - y: the sums of x and the negated bits of y, with the carry true
unfoldable pub difference : List Edge → List Edge → Row (List Edge)
difference xs ys = do
  r ← adder xs (map invert ys) (constant true)
  plain r.0

-- -x: the sums of the negated bits of x and zeros, with the carry true
unfoldable pub negative : List Edge → Row (List Edge)
negative xs = do
  r ← adder (map invert xs) (replicate (length xs) (constant false)) (constant true)
  plain r.0
