-- Where a reader stands in a text.
use Rattle.std.specs.Prelude.{◌≡◌, ℕ, ◌+◌, ◌^◌, ◌<◌, ◌≤◌, List, length, take, drop, if◌then◌else◌}
use Rattle.bvd_text.specs.declared.cursor.Place.{Place}
use Rattle.bvd_text.specs.Text.{Reading}
use Rattle.bvd_text.specs.Places.{place_behind, is_line_feed}

-- What a reader shows that is this many bytes into a text.
abbrev pub reading_at : List ℕ → ℕ → List ℕ → Reading
reading_at text at rest = record { before = take at text; rest = rest }

-- What every reader keeps.
pub record IsCursor (text : List ℕ) (at : ℕ) (rest : List ℕ) (place : Place) : Type 0 where
  pub short : length text + 1 < 2 ^ 32
  pub within : at ≤ length text
  pub cut : drop at text ≡ rest
  pub placed : place ≡ place_behind (take at text)

-- The place behind one more character.
abbrev pub past : Place → ℕ → Place
past p c = if is_line_feed c then record { line = p.line + 1; column = 1 } else record p { column = p.column + 1 }
