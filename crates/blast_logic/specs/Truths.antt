-- The rows of truths that are more than one row of the base.
use Rattle.gate_shape.specs.Edge.{Edge, invert}
use Rattle.gate_shape.specs.Row.{Row, plain, ◌>>=◌, both, differ}

-- a = b: not the exclusive disjunction
unfoldable pub equivalence : Edge → Edge → Row Edge
equivalence a b = do
  d ← differ a b
  plain (invert d)

-- a → b: not both a and the negation of b
unfoldable pub implication : Edge → Edge → Row Edge
implication a b = do
  p ← both a (invert b)
  plain (invert p)
