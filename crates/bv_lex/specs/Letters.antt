-- The characters of names, and the bytes that stand between tokens or inside them.
use Rattle.std.specs.Prelude.{ℕ, Bool, not, ◌||◌, ◌&&◌, ◌==◌}
use Rattle.std.specs.Int.{is_in_range}
use Rattle.std.specs.Char.{is_ascii_alphabetic, is_ascii_digit}
use Rattle.bvd_text.specs.Places.{is_line_feed}

-- space, tab, line feed, carriage return
abbrev pub is_blank : ℕ → Bool
is_blank b = b == 32 || b == 9 || b == 10 || b == 13

-- A byte that doesn't end a line. The byte of a line feed is part of no longer character.
abbrev pub is_in_line : ℕ → Bool
is_in_line b = not (is_line_feed b)

-- A byte that may stand between the quotes of a string: no quote, no backslash, no line feed.
abbrev pub is_in_string : ℕ → Bool
is_in_string b = not (b == 34 || b == 92 || is_line_feed b)

-- the Greek small letters from α to ω, without λ
abbrev pub is_greek_letter : ℕ → Bool
is_greek_letter c = is_in_range 0x3B1 0x3C9 c && not (c == 0x3BB)

-- the subscript digits ₀ to ₉
abbrev pub is_subscript : ℕ → Bool
is_subscript c = is_in_range 0x2080 0x2089 c

-- A name begins with an ASCII letter, `_` or a Greek letter,
abbrev pub begins_name : ℕ → Bool
begins_name c = is_ascii_alphabetic c || c == 95 || is_greek_letter c

-- and goes on with these, ASCII digits, `'` and subscript digits.
abbrev pub goes_on_name : ℕ → Bool
goes_on_name c = begins_name c || is_ascii_digit c || c == 39 || is_subscript c
