-- The first place that meets a limit.
use Rattle.std.specs.Prelude.{◌≡◌, ℕ, ◌<◌, List, length, Option, Some, None}
use Rattle.bv_lex.specs.declared.token.Token.{Token}
use Rattle.bv_grammar.specs.declared.reading.Taken.{Taken}
use Rattle.bv_limits.specs.declared.plain.Met.{Met}
use Rattle.bv_limits.specs.Counting.{limit_at}

-- the first place at which one is met, and which
abbrev pub IsFirstOf : List Token → List Taken → Option Met → Type 0
IsFirstOf tokens xs (Some m) = (m.at < length xs) × (limit_at tokens xs m.at ≡ Some m.what) × ((k : ℕ) → k < m.at → limit_at tokens xs k ≡ None)
IsFirstOf tokens xs None = (k : ℕ) → k < length xs → limit_at tokens xs k ≡ None
