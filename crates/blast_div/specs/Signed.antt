-- The rows of signed division: unsigned division of the magnitudes, and the signs.
use Rattle.std.specs.Prelude.{false, List}
use Rattle.gate_shape.specs.Edge.{Edge, constant, invert}
use Rattle.gate_shape.specs.Row.{Row, ◌>>=◌, both, differ}
use Rattle.blast_arith.specs.Sums.{adder, negative}
use Rattle.blast_logic.specs.Chosen.{chosen}
use Rattle.blast_logic.specs.Words.{top_bit}
use Rattle.blast_div.specs.Division.{quotient, remainder, zero_test}

-- -x where c is true, else x
unfoldable pub negated_where : Edge → List Edge → Row (List Edge)
negated_where c xs = do
  n ← negative xs
  chosen c n xs

-- the magnitude: -x where the sign is set, else x
unfoldable pub magnitude : List Edge → Row (List Edge)
magnitude xs = negated_where (top_bit xs) xs

-- the quotient rounded toward 0: that of the magnitudes, negated where the signs differ
unfoldable pub signed_quotient : List Edge → List Edge → Row (List Edge)
signed_quotient xs ys = do
  ax ← magnitude xs
  ay ← magnitude ys
  q ← quotient ax ay
  s ← differ (top_bit xs) (top_bit ys)
  negated_where s q

-- the remainder of the magnitudes
unfoldable pub magnitude_remainder : List Edge → List Edge → Row (List Edge)
magnitude_remainder xs ys = do
  ax ← magnitude xs
  ay ← magnitude ys
  remainder ax ay

-- the remainder with the sign of x
unfoldable pub signed_remainder : List Edge → List Edge → Row (List Edge)
signed_remainder xs ys = do
  u ← magnitude_remainder xs ys
  negated_where (top_bit xs) u

-- the remainder with the sign of y: y is added to that with the sign of x, where the signs differ and
-- it isn't 0
unfoldable pub signed_modulus : List Edge → List Edge → Row (List Edge)
signed_modulus xs ys = do
  u ← magnitude_remainder xs ys
  v ← negated_where (top_bit xs) u
  e ← zero_test u
  d ← differ (top_bit xs) (top_bit ys)
  k ← both d (invert e)
  s ← adder v ys (constant false)
  chosen k s.0 v
