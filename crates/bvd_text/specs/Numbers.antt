-- Numbers as texts write them: decimal digits, `0x` and hexadecimal digits of both cases, or `0b` and binary digits.
use Rattle.std.specs.Prelude.{ℕ, ◌+◌, ◌^◌, ◌==◌, nat_lt, if◌then◌else◌, ◌||◌, ◌&&◌, Bool, false, List, [], ◌∷◌, length, drop, Result, Err, Option, Some, None}
use Rattle.std.specs.List.{prefix_len}
use Rattle.std.specs.Option.{ok_or}
use Rattle.std.specs.Char.{is_digit}
use Rattle.std.specs.Str.Parse.{digits_value}
use Rattle.bvd_text.specs.declared.numbers.NumberStop.{NumberStop}
use Rattle.bvd_text.specs.declared.numbers.NumberStop.TheVariants.{NoDigit, TooBig}

-- Whether the text begins with `0` and this letter.
abbrev pub has_prefix : ℕ → List ℕ → Bool
has_prefix letter [] = false
has_prefix letter (b ∷ []) = false
has_prefix letter (b ∷ c ∷ bs) = b == 48 && c == letter

-- The base of the text's digits: 16 behind `0x`, 2 behind `0b`, else 10.
abbrev pub base_of : List ℕ → ℕ
base_of text = if has_prefix 120 text then 16 else (if has_prefix 98 text then 2 else 10)

-- How many bytes stand before the first digit.
abbrev pub prefix_length : List ℕ → ℕ
prefix_length text = if has_prefix 120 text || has_prefix 98 text then 2 else 0

-- How many digits of the base stand at the front.
abbrev pub digits_read : ℕ → List ℕ → ℕ
digits_read base digits = prefix_len (λ b. is_digit b base) digits

-- A number that is below 2^128.
abbrev pub small : ℕ → Option ℕ
small n = if nat_lt n (2 ^ 128) then Some n else None

-- What digits of a base read as, where this many bytes stand before them: their number, if one digit or more stand
-- there and nothing else; else the first place at which a digit is wanted and none stands.
abbrev pub reading_of : ℕ → ℕ → List ℕ → Result ℕ NumberStop
reading_of base before digits =
    if nat_lt 0 (digits_read base digits) && digits_read base digits == length digits
    then ok_or (small (digits_value base digits)) TooBig
    else Err (NoDigit (before + digits_read base digits))

-- What the whole text reads as.
abbrev pub reading : List ℕ → Result ℕ NumberStop
reading text = reading_of (base_of text) (prefix_length text) (drop (prefix_length text) text)
