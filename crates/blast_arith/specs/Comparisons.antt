-- The rows of comparisons.
use Rattle.std.specs.Prelude.{true, List, [], ◌∷◌, map}
use Rattle.std.specs.List.{zip}
use Rattle.gate_shape.specs.Edge.{Edge, constant, invert}
use Rattle.gate_shape.specs.Row.{Row, plain, ◌>>=◌, along, differ, both}
use Rattle.blast_arith.specs.Sums.{adder}

-- whether all bits so far are equal, and these two
abbrev pub equal_bit : Edge → Edge × Edge → Row Edge
equal_bit e p = do
  d ← differ p.0 p.1
  both e (invert d)

-- x = y: all bits are equal, from bit 0 on
unfoldable pub equal : List Edge → List Edge → Row Edge
equal xs ys = along equal_bit (constant true) (zip xs ys)

-- x < y: no carry comes out of x - y
unfoldable pub less : List Edge → List Edge → Row Edge
less xs ys = do
  r ← adder xs (map invert ys) (constant true)
  plain (invert r.1)

-- x ≤ y: not y < x
unfoldable pub at_most : List Edge → List Edge → Row Edge
at_most xs ys = do
  l ← less ys xs
  plain (invert l)

-- a list with its last item changed: bit 0 is the first, so this is the top bit
unfoldable pub with_top : {A : Type 0} → (A → A) → List A → List A
with_top f [] = []
with_top f (x ∷ []) = f x ∷ []
with_top f (x ∷ y ∷ ys) = x ∷ with_top f (y ∷ ys)

-- x < y of signed numbers: the unsigned order, both top bits negated
unfoldable pub signed_less : List Edge → List Edge → Row Edge
signed_less xs ys = less (with_top invert xs) (with_top invert ys)

-- x ≤ y of signed numbers: not y < x
unfoldable pub signed_at_most : List Edge → List Edge → Row Edge
signed_at_most xs ys = do
  l ← signed_less ys xs
  plain (invert l)
