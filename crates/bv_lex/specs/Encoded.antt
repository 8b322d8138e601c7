-- The bytes of the characters of names.
use Rattle.std.specs.Prelude.{ℕ, Bool, not, ◌||◌, ◌&&◌, ◌==◌}
use Rattle.std.specs.Int.{is_in_range}
use Rattle.std.specs.Char.{is_ascii_alphabetic, is_ascii_digit}

-- an ASCII letter or `_`
abbrev pub is_ascii_letter : ℕ → Bool
is_ascii_letter b = is_ascii_alphabetic b || b == 95

-- the two bytes of a Greek letter
abbrev pub spell_greek_letter : ℕ → ℕ → Bool
spell_greek_letter b c = (b == 0xCE && is_in_range 0xB1 0xBF c && not (c == 0xBB)) || (b == 0xCF && is_in_range 0x80 0x89 c)

-- the three bytes of a subscript digit
abbrev pub spell_subscript : ℕ → ℕ → ℕ → Bool
spell_subscript b c d = b == 0xE2 && c == 0x82 && is_in_range 0x80 0x89 d

-- an ASCII digit or `'`
abbrev pub is_ascii_mark : ℕ → Bool
is_ascii_mark b = is_ascii_digit b || b == 39
