-- Inputs of a cone, each by its variable and bit.
use Rattle.std.specs.Prelude.{ℕ, Bool, ◌&&◌, nat_eq, List}
use Rattle.std.specs.List.{list_any}

-- Is the input there?
abbrev pub has : List (ℕ × ℕ) → ℕ → ℕ → Bool
has inputs k j = list_any (λ p. nat_eq p.0 k && nat_eq p.1 j) inputs
