-- A number and its bits, and the machine's bitwise operators.
use Rattle.std.proofs.Common.{◌≡◌, ℕ, zero, suc, ◌+◌, ◌*◌, ◌/◌, ◌%◌, ◌^◌, ◌<◌, Bool, true, false, ◌&&◌, ◌||◌, List, [], ◌∷◌, length, min, max, refl, sym, ◌∙◌, ap, arith}
use Rattle.std.specs.Prelude.{◌==◌, bit_and, bit_or, bit_xor}
use Rattle.std.proofs.lemmas.Grind.{common_steps}
use Rattle.std.proofs.lemmas.Nat.Bits.{bit_at_lowest, bit_at-suc, bit_at_and, bit_at_or, bit_at_xor, same_from_bits}
use Rattle.std.proofs.Math.Nat.{mod-lt, div-add-mod}
use Rattle.bv_value.specs.Bits.{bit_number, number_of, bits_of, at_each, differ}

pub pow_more : (n : ℕ) → 2 ^ suc n ≡ 2 * 2 ^ n
pow_more n = grind (arith, common_steps)

-- one more bit at the bottom
join : (n low high : ℕ) → n % 2 ≡ low → n / 2 ≡ high → low + 2 * high ≡ n
join n low high p q = let e = div-add-mod n 2 in omega arith

half_below : (w n : ℕ) → n < 2 ^ suc w → n / 2 < 2 ^ w
half_below w n h = omega (arith, pow_more w)

low_below : (n : ℕ) → n % 2 < 2
low_below n = mod-lt n (omega arith)

lowest_bit : (p : ℕ) → p < 2 → bit_number (p == 1) ≡ p
lowest_bit zero h = refl
lowest_bit (suc zero) h = refl
lowest_bit (suc (suc p)) h = absurd (omega arith)

-- the bits of a number write it
pub number-bits : (w n : ℕ) → n < 2 ^ w → number_of (bits_of w n) ≡ n
number-bits zero n h = omega arith
number-bits (suc w) n h =
    let high = number-bits w (n / 2) (half_below w n h) in
    let low = lowest_bit (n % 2) (low_below n) in
    rw (high, low) (join n (n % 2) (n / 2) refl refl)

-- bits write a number whose bits they are
pub bits-number : (bs : List Bool) → bits_of (length bs) (number_of bs) ≡ bs
bits-number [] = refl
bits-number (true ∷ bs) =
    let high : (1 + 2 * number_of bs) / 2 ≡ number_of bs = omega arith in
    let low : (1 + 2 * number_of bs) % 2 ≡ 1 = omega arith in
    rw (high, low) (ap (λ t. true ∷ t) (bits-number bs))
bits-number (false ∷ bs) =
    let high : (0 + 2 * number_of bs) / 2 ≡ number_of bs = omega arith in
    let low : (0 + 2 * number_of bs) % 2 ≡ 0 = omega arith in
    rw (high, low) (ap (λ t. false ∷ t) (bits-number bs))

-- as many bits as asked for
pub length-bits : (w n : ℕ) → length (bits_of w n) ≡ w
length-bits zero n = refl
length-bits (suc w) n = grind (arith, common_steps, length-bits w (n / 2))

both_low : (p q : ℕ) → p < 2 → q < 2 → bit_number ((p == 1) && (q == 1)) ≡ min p q
both_low zero zero h k = refl
both_low zero (suc zero) h k = refl
both_low (suc zero) zero h k = refl
both_low (suc zero) (suc zero) h k = refl
both_low (suc (suc p)) q h k = absurd (omega arith)
both_low zero (suc (suc q)) h k = absurd (omega arith)
both_low (suc zero) (suc (suc q)) h k = absurd (omega arith)

either_low : (p q : ℕ) → p < 2 → q < 2 → bit_number ((p == 1) || (q == 1)) ≡ max p q
either_low zero zero h k = refl
either_low zero (suc zero) h k = refl
either_low (suc zero) zero h k = refl
either_low (suc zero) (suc zero) h k = refl
either_low (suc (suc p)) q h k = absurd (omega arith)
either_low zero (suc (suc q)) h k = absurd (omega arith)
either_low (suc zero) (suc (suc q)) h k = absurd (omega arith)

differ_low : (p q : ℕ) → p < 2 → q < 2 → bit_number (differ (p == 1) (q == 1)) ≡ (p + q) % 2
differ_low zero zero h k = refl
differ_low zero (suc zero) h k = refl
differ_low (suc zero) zero h k = refl
differ_low (suc zero) (suc zero) h k = refl
differ_low (suc (suc p)) q h k = absurd (omega arith)
differ_low zero (suc (suc q)) h k = absurd (omega arith)
differ_low (suc zero) (suc (suc q)) h k = absurd (omega arith)

and_low : (a b : ℕ) → bit_and a b % 2 ≡ min (a % 2) (b % 2)
and_low a b = sym (bit_at_lowest (bit_and a b)) ∙ (bit_at_and a b 0 ∙ rw (bit_at_lowest a, bit_at_lowest b) refl)

and_high : (a b : ℕ) → bit_and a b / 2 ≡ bit_and (a / 2) (b / 2)
and_high a b = same_from_bits _ _ (λ i. sym (bit_at-suc (bit_and a b) i) ∙ (bit_at_and a b (suc i) ∙ rw (bit_at-suc a i, bit_at-suc b i) (sym (bit_at_and (a / 2) (b / 2) i))))

or_low : (a b : ℕ) → bit_or a b % 2 ≡ max (a % 2) (b % 2)
or_low a b = sym (bit_at_lowest (bit_or a b)) ∙ (bit_at_or a b 0 ∙ rw (bit_at_lowest a, bit_at_lowest b) refl)

or_high : (a b : ℕ) → bit_or a b / 2 ≡ bit_or (a / 2) (b / 2)
or_high a b = same_from_bits _ _ (λ i. sym (bit_at-suc (bit_or a b) i) ∙ (bit_at_or a b (suc i) ∙ rw (bit_at-suc a i, bit_at-suc b i) (sym (bit_at_or (a / 2) (b / 2) i))))

xor_low : (a b : ℕ) → bit_xor a b % 2 ≡ (a % 2 + b % 2) % 2
xor_low a b = sym (bit_at_lowest (bit_xor a b)) ∙ (bit_at_xor a b 0 ∙ rw (bit_at_lowest a, bit_at_lowest b) refl)

xor_high : (a b : ℕ) → bit_xor a b / 2 ≡ bit_xor (a / 2) (b / 2)
xor_high a b = same_from_bits _ _ (λ i. sym (bit_at-suc (bit_xor a b) i) ∙ (bit_at_xor a b (suc i) ∙ rw (bit_at-suc a i, bit_at-suc b i) (sym (bit_at_xor (a / 2) (b / 2) i))))

-- `&` is "and" of each two bits
pub and_bits : (w a b : ℕ) → a < 2 ^ w → b < 2 ^ w → number_of (at_each ◌&&◌ (bits_of w a) (bits_of w b)) ≡ bit_and a b
and_bits zero a b h k =
    let none : a ≡ 0 = omega arith in
    rw none refl
and_bits (suc w) a b h k =
    let high = and_bits w (a / 2) (b / 2) (half_below w a h) (half_below w b k) in
    let low = both_low (a % 2) (b % 2) (low_below a) (low_below b) in
    rw (high, low) (join (bit_and a b) _ _ (and_low a b) (and_high a b))

-- `|` is "or" of each two bits
pub or_bits : (w a b : ℕ) → a < 2 ^ w → b < 2 ^ w → number_of (at_each ◌||◌ (bits_of w a) (bits_of w b)) ≡ bit_or a b
or_bits zero a b h k =
    let none : a ≡ 0 = omega arith in
    let none_2 : b ≡ 0 = omega arith in
    rw (none, none_2) refl
or_bits (suc w) a b h k =
    let high = or_bits w (a / 2) (b / 2) (half_below w a h) (half_below w b k) in
    let low = either_low (a % 2) (b % 2) (low_below a) (low_below b) in
    rw (high, low) (join (bit_or a b) _ _ (or_low a b) (or_high a b))

-- `^` is "exactly one" of each two bits
pub xor_bits : (w a b : ℕ) → a < 2 ^ w → b < 2 ^ w → number_of (at_each differ (bits_of w a) (bits_of w b)) ≡ bit_xor a b
xor_bits zero a b h k =
    let none : a ≡ 0 = omega arith in
    let none_2 : b ≡ 0 = omega arith in
    rw (none, none_2) refl
xor_bits (suc w) a b h k =
    let high = xor_bits w (a / 2) (b / 2) (half_below w a h) (half_below w b k) in
    let low = differ_low (a % 2) (b % 2) (low_below a) (low_below b) in
    rw (high, low) (join (bit_xor a b) _ _ (xor_low a b) (xor_high a b))
