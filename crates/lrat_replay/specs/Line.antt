-- Bytes of one line.
use Rattle.std.specs.Prelude.{◌≡◌, ℕ, false, List, nat_eq}
use Rattle.std.specs.List.{All}

-- The bytes hold no LF.
abbrev pub HasNoEnd : List ℕ → Type 0
HasNoEnd bytes = All (λ b. nat_eq b 10 ≡ false) bytes
