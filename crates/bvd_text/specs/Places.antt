-- Places in a text of UTF-8: a line feed alone ends a line, and a column counts characters.
use Rattle.std.specs.Prelude.{ℕ, ◌+◌, Bool, not, ◌||◌, ◌==◌, nat_lt, nat_le, List, count_by, reverse}
use Rattle.std.specs.List.{take_while}
use Rattle.bvd_text.specs.declared.cursor.Place.{Place}

abbrev pub is_line_feed : ℕ → Bool
is_line_feed b = b == 10

-- Whether a byte of UTF-8 begins a character: it isn't of the form 10xxxxxx.
abbrev pub begins_character : ℕ → Bool
begins_character b = nat_lt b 128 || nat_le 192 b

-- The bytes behind the last line feed, from the end back.
abbrev pub since_line_feed : List ℕ → List ℕ
since_line_feed bs = take_while (λ b. not (is_line_feed b)) (reverse bs)

-- The place behind these bytes of a text, line and column from 1.
abbrev pub place_behind : List ℕ → Place
place_behind bs = record {
  line = 1 + count_by is_line_feed bs;
  column = 1 + count_by begins_character (since_line_feed bs);
}
