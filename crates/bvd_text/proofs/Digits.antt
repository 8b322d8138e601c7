-- Digits and the number that they write.
use Rattle.std.proofs.Common.{◌≡◌, ℕ, zero, suc, ◌+◌, ◌*◌, ◌<◌, ◌≤◌, ◌^◌, Bool, true, false, ◌&&◌, ◌||◌, cond, List, [], ◌∷◌, length, get_or, take, refl, sym, ◌∙◌, ap, arith}
use Rattle.std.specs.Prelude.{nat_lt, ◌==◌, Ok, Option, Some, None, decimal, if◌then◌else◌}
use Rattle.std.specs.List.{prefix_len}
use Rattle.std.specs.Char.{digit_value, is_digit}
use Rattle.std.specs.Str.Parse.{digits_value, AllDigits}
use Rattle.std.proofs.lemmas.Grind.{common_steps}
use Rattle.std.proofs.lemmas.Bool.{eqb-true}
use Rattle.std.proofs.lemmas.Fmt.{decimal_is_IsNumeral_wide}
use Rattle.std.proofs.lemmas.Int.Digits.{digits_value_more}
use Rattle.std.proofs.lemmas.Str.Parse.{digits_value-take-le}
use Rattle.bvd_text.specs.Numbers.{has_prefix, prefix_length, digits_read, small, reading}

-- a prefix has two bytes
pub prefix_two : (letter : ℕ) (text : List ℕ) → has_prefix letter text ≡ true → 2 ≤ length text
prefix_two letter [] h = cc
prefix_two letter (b ∷ []) h = cc
prefix_two letter (b ∷ c ∷ bs) h = omega arith

pub prefix_within : (text : List ℕ) → prefix_length text ≤ length text
prefix_within text = go (has_prefix 120 text) (has_prefix 98 text) refl refl
  where
    go : (x b : Bool) → has_prefix 120 text ≡ x → has_prefix 98 text ≡ b → (if x || b then 2 else 0) ≤ length text
    go true b e f = prefix_two 120 text e
    go false true e f = prefix_two 98 text f
    go false false e f = omega arith

below : (a b : ℕ) → nat_lt a b ≡ true → a < b
below a b h = grind (arith, common_steps)

pub not_below : (a b : ℕ) → a < b → nat_lt a b ≡ true
not_below a b h = grind (arith, common_steps)

-- where all bytes are read as digits, all are digits
pub all_digits : (base : ℕ) (digits : List ℕ) → digits_read base digits ≡ length digits → AllDigits base digits
all_digits base [] h = tt
all_digits base (b ∷ bs) h = go (is_digit b base) refl h (λ e. all_digits base bs e)
  where
    go : (d : Bool) → is_digit b base ≡ d → cond d (1 + prefix_len (λ c. is_digit c base) bs) 0 ≡ suc (length bs) → (prefix_len (λ c. is_digit c base) bs ≡ length bs → AllDigits base bs) → AllDigits base (b ∷ bs)
    go true e h rest = (below (digit_value b) base e, rest (omega arith))
    go false e h rest = absurd (omega arith)

pub digits_all : (base : ℕ) (digits : List ℕ) → AllDigits base digits → digits_read base digits ≡ length digits
digits_all base [] d = refl
digits_all base (b ∷ bs) d =
    let here : is_digit b base ≡ true = not_below (digit_value b) base d.0 in
    let rest = digits_all base bs d.1 in
    rw here (omega arith)

pub digit_at : (base : ℕ) (digits : List ℕ) (i : ℕ) → AllDigits base digits → i < length digits → digit_value (get_or digits i 0) < base
digit_at base [] i d h = absurd (omega arith)
digit_at base (b ∷ bs) zero d h = d.0
digit_at base (b ∷ bs) (suc i) d h = digit_at base bs i d.1 (omega arith)

small_some : (n v : ℕ) → Some v ≡ small n → v ≡ n
small_some n v h = go (nat_lt n (2 ^ 128)) h
  where
    go : (b : Bool) → Some v ≡ (if b then Some n else None) → v ≡ n
    go true e = cc
    go false e = cc

small_none : (n : ℕ) → None ≡ small n → nat_lt n (2 ^ 128) ≡ false
small_none n h = go (nat_lt n (2 ^ 128)) refl h
  where
    go : (b : Bool) → nat_lt n (2 ^ 128) ≡ b → None ≡ (if b then Some n else None) → nat_lt n (2 ^ 128) ≡ false
    go true e h = cc
    go false e h = e

large : (m n top : ℕ) → m ≤ n → nat_lt m top ≡ false → nat_lt n top ≡ false
large m n top le h = grind (arith, common_steps)

-- one more digit
pub next_value : (base : ℕ) (digits : List ℕ) (i value d : ℕ) (r : Option ℕ) → Some value ≡ small (digits_value base (take i digits)) → i < length digits
    → d ≡ digit_value (get_or digits i 0) → r ≡ small (value * base + d) → r ≡ small (digits_value base (take (i + 1) digits))
next_value base digits i value d r v lt e h =
    let is : value ≡ digits_value base (take i digits) = small_some (digits_value base (take i digits)) value v in
    h ∙ ap small (ap (λ n. n * base + d) is ∙ (ap (λ n. digits_value base (take i digits) * base + n) e ∙ sym (digits_value_more base digits i lt)))

-- once it is too big, so are all digits
pub stays_big : (base : ℕ) (digits : List ℕ) (j : ℕ) → 1 ≤ base → None ≡ small (digits_value base (take j digits)) → None ≡ small (digits_value base digits)
stays_big base digits j low h =
    let big = large (digits_value base (take j digits)) (digits_value base digits) (2 ^ 128) (digits_value-take-le base digits j low) (small_none (digits_value base (take j digits)) h) in
    rw big refl

other_letter : (letter b c : ℕ) → 10 ≤ digit_value letter → digit_value c < 10 → (b == 48 && c == letter) ≡ false
other_letter letter b c h d = go (b == 48) (c == letter) refl
  where
    go : (x y : Bool) → (c == letter) ≡ y → (x && y) ≡ false
    go true true e = absurd (let same : c ≡ letter = eqb-true c letter e in let k : digit_value c ≡ digit_value letter = ap digit_value same in omega arith)
    go true false e = refl
    go false y e = refl

no_prefix : (letter : ℕ) (digits : List ℕ) → 10 ≤ digit_value letter → AllDigits 10 digits → has_prefix letter digits ≡ false
no_prefix letter [] h d = refl
no_prefix letter (b ∷ []) h d = refl
no_prefix letter (b ∷ c ∷ bs) h d = other_letter letter b c h d.1.0

pub small_is : (n : ℕ) → n < 2 ^ 128 → small n ≡ Some n
small_is n h = rw (not_below n (2 ^ 128) h) refl

pub same_length : (n : ℕ) → (n == n) ≡ true
same_length n = grind (arith, common_steps)

-- the digits that a number is written in read as that number
pub reads_back : (n : ℕ) → n < 2 ^ 128 → reading (decimal n) ≡ Ok n
reads_back n h =
    let numeral = decimal_is_IsNumeral_wide n (omega arith) in
    let hex : has_prefix 120 (decimal n) ≡ false = no_prefix 120 (decimal n) (omega arith) numeral.0.1 in
    let binary : has_prefix 98 (decimal n) ≡ false = no_prefix 98 (decimal n) (omega arith) numeral.0.1 in
    let all : digits_read 10 (decimal n) ≡ length (decimal n) = digits_all 10 (decimal n) numeral.0.1 in
    let some : nat_lt 0 (length (decimal n)) ≡ true = not_below 0 (length (decimal n)) numeral.0.0 in
    rw (hex, binary, all, some, same_length (length (decimal n)), numeral.1, small_is n h) refl
