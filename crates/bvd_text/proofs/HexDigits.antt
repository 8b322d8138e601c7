-- Hexadecimal digits read back as the number that they write.
use Rattle.std.proofs.Common.{◌≡◌, ℕ, zero, suc, ◌+◌, ◌/◌, ◌%◌, ◌<◌, ◌^◌, Bool, true, false, List, [], ◌∷◌, ◌++◌, length, refl, ◌∙◌, length-append, arith}
use Rattle.std.specs.Prelude.{nat_lt, Ok, if◌then◌else◌}
use Rattle.std.specs.Char.{digit_value}
use Rattle.std.specs.Str.Parse.{digits_value, AllDigits}
use Rattle.std.proofs.lemmas.Grind.{common_steps}
use Rattle.std.proofs.lemmas.Int.Digits.{digits_value_push}
use Rattle.bvd_text.specs.Numbers.{digits_read, reading}
use Rattle.bvd_text.specs.Hexadecimal.{hex_digit, hex_digits, hex_text}
use Rattle.bvd_text.proofs.Digits.{digits_all, not_below, same_length, small_is}

pub length-hex_digits : (k n : ℕ) → length (hex_digits k n) ≡ k
length-hex_digits zero n = refl
length-hex_digits (suc k) n =
    let e : length (hex_digits k (n / 16)) ≡ k = length-hex_digits k (n / 16) in
    length-append (hex_digits k (n / 16)) (hex_digit (n % 16) ∷ []) ∙ omega arith

digit_value-hex_digit : (d : ℕ) → d < 16 → digit_value (hex_digit d) ≡ d
digit_value-hex_digit d h = go (nat_lt d 10) refl
  where
    go : (b : Bool) → nat_lt d 10 ≡ b → digit_value (if b then 48 + d else 87 + d) ≡ d
    go true e = grind (arith, common_steps)
    go false e = grind (arith, common_steps)

all_push : (base : ℕ) (digits : List ℕ) (c : ℕ) → AllDigits base digits → digit_value c < base → AllDigits base (digits ++ c ∷ [])
all_push base [] c d h = (h, tt)
all_push base (b ∷ bs) c d h = (d.0, all_push base bs c d.1 h)

hex_all : (k n : ℕ) → AllDigits 16 (hex_digits k n)
hex_all zero n = tt
hex_all (suc k) n =
    let e : digit_value (hex_digit (n % 16)) ≡ n % 16 = digit_value-hex_digit (n % 16) (omega arith) in
    all_push 16 (hex_digits k (n / 16)) (hex_digit (n % 16)) (hex_all k (n / 16)) (omega arith)

one_less : (k n : ℕ) → n < 16 ^ suc k → n / 16 < 16 ^ k
one_less k n h = omega arith

-- a number that fits in the digits is their number
hex_value : (k n : ℕ) → n < 16 ^ k → digits_value 16 (hex_digits k n) ≡ n
hex_value zero n h = omega arith
hex_value (suc k) n h =
    let above : digits_value 16 (hex_digits k (n / 16)) ≡ n / 16 = hex_value k (n / 16) (one_less k n h) in
    let e : digit_value (hex_digit (n % 16)) ≡ n % 16 = digit_value-hex_digit (n % 16) (omega arith) in
    digits_value_push 16 (hex_digits k (n / 16)) (hex_digit (n % 16)) ∙ omega arith

pub hex_reads_back : (digits n : ℕ) → n < 2 ^ 128 → n < 16 ^ digits → 0 < digits → reading (hex_text digits n) ≡ Ok n
hex_reads_back digits n small_n fits some =
    let all : digits_read 16 (hex_digits digits n) ≡ length (hex_digits digits n) = digits_all 16 (hex_digits digits n) (hex_all digits n) in
    let many : length (hex_digits digits n) ≡ digits = length-hex_digits digits n in
    let positive : nat_lt 0 (length (hex_digits digits n)) ≡ true = not_below 0 (length (hex_digits digits n)) (omega arith) in
    rw (all, positive, same_length (length (hex_digits digits n)), hex_value digits n fits, small_is n small_n) refl
