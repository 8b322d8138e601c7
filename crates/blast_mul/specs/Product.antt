-- The row of a product: the bits of one factor, moved up and masked, added one after another.
use Rattle.std.specs.Prelude.{ℕ, ◌-◌, false, List, length, take, replicate}
use Rattle.std.specs.List.{enumerate_from}
use Rattle.gate_shape.specs.Edge.{Edge, constant}
use Rattle.gate_shape.specs.Row.{Row, plain, ◌>>=◌, along, each_onto, both}
use Rattle.blast_arith.specs.Sums.{adder}

-- x moved up by i places within its width, each bit with bit i of y: i falses below them
unfoldable pub partial_product : List Edge → ℕ × Edge → Row (List Edge)
partial_product xs p = each_onto (replicate p.0 (constant false)) (both p.1) (take (length xs - p.0) xs)

-- the sum so far, and one more partial product
unfoldable pub add_partial : List Edge → List Edge → ℕ × Edge → Row (List Edge)
add_partial xs sum p = do
  part ← partial_product xs p
  r ← adder sum part (constant false)
  plain r.0

-- x * y: the sum of the partial products of all bits of y, from bit 0 up, beginning with zeros
unfoldable pub product : List Edge → List Edge → Row (List Edge)
product xs ys = along (add_partial xs) (replicate (length xs) (constant false)) (enumerate_from 0 ys)
