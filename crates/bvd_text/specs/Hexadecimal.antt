-- Numbers in a given number of lower-case hexadecimal digits.
use Rattle.std.specs.Prelude.{ℕ, suc, zero, ◌+◌, ◌/◌, ◌%◌, nat_lt, if◌then◌else◌, List, [], ◌∷◌, ◌++◌, codes}

-- The lower-case digit of a number below 16.
abbrev pub hex_digit : ℕ → ℕ
hex_digit d = if nat_lt d 10 then 48 + d else 87 + d

-- The number's last hexadecimal digits, this many, with zeros in front where it has fewer.
abbrev pub hex_digits : ℕ → ℕ → List ℕ
hex_digits zero n = []
hex_digits (suc k) n = hex_digits k (n / 16) ++ hex_digit (n % 16) ∷ []

-- `0x` and that many digits.
abbrev pub hex_text : ℕ → ℕ → List ℕ
hex_text digits n = codes "0x" ++ hex_digits digits n
