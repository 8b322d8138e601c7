-- Stacks as lists, the topmost first.
use Rattle.std.specs.Prelude.{ℕ, List, [], ◌∷◌, Option, Some, None}

-- the topmost, and what is below it
abbrev pub popped : {A : Type 0} → List A → Option A × List A
popped [] = (None, [])
popped (x ∷ xs) = (Some x, xs)

-- the topmost number, or 0 where there is none, and what is below it
abbrev pub top : List ℕ → ℕ
top [] = 0
top (w ∷ ws) = w

abbrev pub below : List ℕ → List ℕ
below [] = []
below (w ∷ ws) = ws
