-- The rows of unsigned division: the quotient's bits from the top down, and the choice for the divisor 0.
use Rattle.std.specs.Prelude.{true, false, List, [], ◌∷◌, ◌++◌, length, take, map, replicate, reverse}
use Rattle.gate_shape.specs.Literal.{Literal}
use Rattle.gate_shape.specs.Edge.{Edge, constant, invert}
use Rattle.gate_shape.specs.Row.{Row, plain, ◌>>=◌, along, both}
use Rattle.gate_shape.specs.Builds.{Meaning, StandAll, Stands}
use Rattle.blast_arith.specs.Sums.{adder}
use Rattle.blast_logic.specs.Chosen.{chosen, masked}

-- the divisor's negated bits, with a false bit on top of it
abbrev pub negated_divisor : List Edge → List Edge
negated_divisor ys = map invert (ys ++ constant false ∷ [])

-- one more bit of the quotient, and what remains: the bit of the dividend goes below the remainder, and
-- the divisor is taken off where the difference has a carry, so where it is no greater
unfoldable pub divide_step : List Edge → List Edge → Edge → Row (Edge × List Edge)
divide_step ns rest x = do
  r ← adder (x ∷ rest) ns (constant true)
  left ← chosen r.1 (take (length rest) r.0) (take (length rest) (x ∷ rest))
  plain (r.1, left)

-- the step on the quotient's bits so far, the lowest first, and the remainder
abbrev pub divide_bit : List Edge → List Edge × List Edge → Edge → Row (List Edge × List Edge)
divide_bit ns s x = do
  r ← divide_step ns s.1 x
  plain (r.0 ∷ s.0, r.1)

-- the quotient and the remainder: from the top bit of the dividend down, beginning with remainder 0
unfoldable pub division : List Edge → List Edge → Row (List Edge × List Edge)
division xs ys = along (divide_bit (negated_divisor ys)) ([], replicate (length xs) (constant false)) (reverse xs)

-- whether all bits are false: a conjunction along their negations
abbrev pub zero_bit : Edge → Edge → Row Edge
zero_bit z y = both z (invert y)

unfoldable pub zero_test : List Edge → Row Edge
zero_test ys = along zero_bit (constant true) ys

-- x / y: the quotient, or 0 where the divisor is 0
unfoldable pub quotient : List Edge → List Edge → Row (List Edge)
quotient xs ys = do
  r ← division xs ys
  z ← zero_test ys
  masked (invert z) r.0

-- x % y: the remainder, or x where the divisor is 0
unfoldable pub remainder : List Edge → List Edge → Row (List Edge)
remainder xs ys = do
  r ← division xs ys
  z ← zero_test ys
  chosen z xs r.1

-- two lists of literals stand for two lists of edges
abbrev pub StandAllTwo : Meaning → List Literal × List Literal → List Edge × List Edge → Type 0
StandAllTwo m l e = StandAll m l.0 e.0 × StandAll m l.1 e.1

-- a literal and a list stand for an edge and a list of edges
abbrev pub StandOneAndAll : Meaning → Literal × List Literal → Edge × List Edge → Type 0
StandOneAndAll m l e = Stands m l.0 e.0 × StandAll m l.1 e.1
