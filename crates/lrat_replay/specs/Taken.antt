-- How much was taken of a source.
use Rattle.std.specs.Prelude.{◌≡◌, ◌≤◌, ℕ, ◌++◌, List, length, Option, None, Some, ⊤}

-- where what is left is told, it is what follows a front of at most so many bytes
abbrev pub TookAtMost : Option (List ℕ) → Option (List ℕ) → ℕ → Type 0
TookAtMost None None n = ⊤
TookAtMost (Some text) (Some rest) n = (front : List ℕ) × (text ≡ front ++ rest) × (length front ≤ n)
TookAtMost None (Some rest) n = ⊥
TookAtMost (Some text) None n = ⊥
