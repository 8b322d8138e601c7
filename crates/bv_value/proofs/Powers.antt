-- Numbers modulo powers of two.
use Rattle.std.proofs.Common.{◌≡◌, ℕ, suc, ◌+◌, ◌-◌, ◌*◌, ◌/◌, ◌%◌, ◌^◌, ◌≤◌, ◌<◌, Fits, subst, sym, ◌∙◌, arith}
use Rattle.std.specs.Prelude.{bit_or, bit_xor}
use Rattle.std.proofs.Math.Nat.{mod-eq_of_lt, mod-lt, div-add-mod, mul-lt-mul_of_pos_right, div-eq_of_lt, pow-le-pow_right, mul-le-mul_right, mul-mod_left, mul_assoc, one-le-pow}
use Rattle.std.proofs.lemmas.Nat.{pow-add, or_lt, xor_lt, mod-mul-add}
use Rattle.std.proofs.Math.Pow.{mod-mod-pow, shr_lt}
use mir.Syntax.{w128}

-- a shorter modulus after a longer one
pub shorter : (n k t : ℕ) → k ≤ t → n % 2 ^ t % 2 ^ k ≡ n % 2 ^ k
shorter n k t h =
    let e : t - k + k ≡ t = omega arith in
    subst (λ u. n % 2 ^ u % 2 ^ k ≡ n % 2 ^ k) e (mod-mod-pow n (t - k) k)

-- the same after the modulus of the machine's widest number
pub shorter_wide : (n k : ℕ) → k ≤ 128 → n % 2 ^ 128 % 2 ^ k ≡ n % 2 ^ k
shorter_wide n k h = shorter n k 128 h

-- below a power, and so below a later one
pub below_later : (x j k : ℕ) → j ≤ k → x < 2 ^ j → x < 2 ^ k
below_later x j k h lt =
    let le : 2 ^ j ≤ 2 ^ k = pow-le-pow_right {n = 2} (omega arith) h in
    omega arith

-- a shift to the right past the width
pub shifted_out : (x w n : ℕ) → x < 2 ^ w → w ≤ n → x / 2 ^ n ≡ 0
shifted_out x w n lt h = div-eq_of_lt (below_later x w n h lt)

mul_again : (a b c : ℕ) → a * (b * c) ≡ a * b * c
mul_again a b c = sym (mul_assoc a b c)

-- a shift to the left past the width
pub shifted_up : (x w n : ℕ) → w ≤ n → x * 2 ^ n % 2 ^ w ≡ 0
shifted_up x w n h =
    let e : n - w + w ≡ n = omega arith in
    let q : x * 2 ^ n ≡ x * 2 ^ (n - w) * 2 ^ w = subst (λ m. x * 2 ^ m ≡ x * 2 ^ (n - w) * 2 ^ w) e (rw pow-add (mul_again x (2 ^ (n - w)) (2 ^ w))) in
    rw q (mul-mod_left (x * 2 ^ (n - w)) (2 ^ w))

-- the two's complement of a number that is not 0
pub negated : (g x m : ℕ) → g + 1 ≡ m → 0 < x → x < m → (m - x) % m ≡ g - x + 1
negated g x m e p lt =
    let small : m - x < m = omega arith in
    mod-eq_of_lt small ∙ omega arith

-- a difference that goes below 0
pub wrapped : (g x y m : ℕ) → g + 1 ≡ m → x < y → y < m → (x + m - y) % m ≡ g - (y - x) + 1
wrapped g x y m e p lt =
    let small : x + m - y < m = omega arith in
    mod-eq_of_lt small ∙ omega arith

-- a number beside the number of the low bits
pub beside : (x y v w : ℕ) → x < 2 ^ v → y < 2 ^ w → x * 2 ^ w + y < 2 ^ (v + w)
beside x y v w p q =
    let h : suc x * 2 ^ w ≤ 2 ^ v * 2 ^ w = mul-le-mul_right (2 ^ w) p in
    rw pow-add (omega arith)

pub pow-pos : (w : ℕ) → 0 < 2 ^ w
pow-pos w = one-le-pow w 2 (omega arith)

-- a number above the low bits, in the widest machine number
pub above_wide : (x v w : ℕ) → x < 2 ^ v → v + w ≤ 128 → x * 2 ^ w % 2 ^ 128 ≡ x * 2 ^ w
above_wide x v w p h =
    let low : 0 < 2 ^ w = pow-pos w in
    let b : x * 2 ^ w + 0 < 2 ^ (v + w) = beside x 0 v w p low in
    let c : x * 2 ^ w < 2 ^ (v + w) = omega arith in
    mod-eq_of_lt (below_later (x * 2 ^ w) (v + w) 128 h c)

pub or_fits : (a b k : ℕ) → a < 2 ^ k → b < 2 ^ k → bit_or a b < 2 ^ k
or_fits a b k p q = or_lt k a b p q

pub xor_fits : (a b k : ℕ) → a < 2 ^ k → b < 2 ^ k → bit_xor a b < 2 ^ k
xor_fits a b k p q = xor_lt k a b p q

-- the two parts fit the widest machine number
pub beside_fits : (x y v w : ℕ) → x < 2 ^ v → y < 2 ^ w → v + w ≤ 128 → Fits w128 (x * 2 ^ w % 2 ^ 128 + y)
beside_fits x y v w p q h =
    let b : x * 2 ^ w + y < 2 ^ 128 = below_later (x * 2 ^ w + y) (v + w) 128 h (beside x y v w p q) in
    let e : x * 2 ^ w % 2 ^ 128 ≡ x * 2 ^ w = above_wide x v w p h in
    rw e (record { fits = omega arith })

spread : (x a b q r : ℕ) → a * q + r ≡ x → x * b ≡ q * (a * b) + r * b
spread x a b q r e = subst (λ y. y * b ≡ q * (a * b) + r * b) e (omega arith)

-- the bits that move round stay below the width
pub rotated_below : (x k w : ℕ) → x < 2 ^ w → k < w → x * 2 ^ k % 2 ^ w + x / 2 ^ (w - k) < 2 ^ w
rotated_below x k w p h = split x k (w - k) w (omega arith) p
  where
    split : (x k j w : ℕ) → j + k ≡ w → x < 2 ^ w → x * 2 ^ k % 2 ^ w + x / 2 ^ j < 2 ^ w
    split x k j w e p =
        let s : 2 ^ w ≡ 2 ^ j * 2 ^ k = rw (← e) (pow-add 2 j k) in
        let low : x % 2 ^ j < 2 ^ j = mod-lt x (pow-pos j) in
        let high : x / 2 ^ j < 2 ^ k = shr_lt k j (let c : k + j ≡ w = omega arith in rw c p) in
        let moved : x * 2 ^ k % 2 ^ w ≡ x % 2 ^ j * 2 ^ k =
        (let room : x % 2 ^ j * 2 ^ k < 2 ^ j * 2 ^ k = mul-lt-mul_of_pos_right low (pow-pos k) in
        rw (s, spread x (2 ^ j) (2 ^ k) (x / 2 ^ j) (x % 2 ^ j) (div-add-mod x (2 ^ j))) (mod-mul-add (x / 2 ^ j) (2 ^ j * 2 ^ k) (x % 2 ^ j * 2 ^ k) room)) in
        let b : x % 2 ^ j * 2 ^ k + x / 2 ^ j < 2 ^ (j + k) = beside (x % 2 ^ j) (x / 2 ^ j) j k low high in
        rw (moved, ← e) b

-- the same, the other way round
pub down_below : (x k w : ℕ) → x < 2 ^ w → k < w → w ≤ 128 → (x / 2 ^ k + x % 2 ^ k * 2 ^ (w - k) % 2 ^ 128 < 2 ^ w) × (x % 2 ^ k * 2 ^ (w - k) % 2 ^ 128 ≡ x % 2 ^ k * 2 ^ (w - k))
down_below x k w p h wide = split x k (w - k) w (omega arith) p wide
  where
    split : (x k j w : ℕ) → j + k ≡ w → x < 2 ^ w → w ≤ 128 → (x / 2 ^ k + x % 2 ^ k * 2 ^ j % 2 ^ 128 < 2 ^ w) × (x % 2 ^ k * 2 ^ j % 2 ^ 128 ≡ x % 2 ^ k * 2 ^ j)
    split x k j w e p wide =
        let low : x % 2 ^ k < 2 ^ k = mod-lt x (pow-pos k) in
        let high : x / 2 ^ k < 2 ^ j = shr_lt j k (rw e p) in
        let same : x % 2 ^ k * 2 ^ j % 2 ^ 128 ≡ x % 2 ^ k * 2 ^ j = above_wide (x % 2 ^ k) k j low (omega arith) in
        let b : x % 2 ^ k * 2 ^ j + x / 2 ^ k < 2 ^ (k + j) = beside (x % 2 ^ k) (x / 2 ^ k) k j low high in
        let c : k + j ≡ w = omega arith in
        let d : x % 2 ^ k * 2 ^ j + x / 2 ^ k < 2 ^ w = rw c at b in
        (omega arith, same)

pub down_fits : (x k w : ℕ) → x < 2 ^ w → k < w → w ≤ 128 → Fits w128 (x / 2 ^ k + x % 2 ^ k * 2 ^ (w - k) % 2 ^ 128)
down_fits x k w p h wide =
    let b : x / 2 ^ k + x % 2 ^ k * 2 ^ (w - k) % 2 ^ 128 < 2 ^ w = (down_below x k w p h wide).0 in
    record { fits = below_later (x / 2 ^ k + x % 2 ^ k * 2 ^ (w - k) % 2 ^ 128) w 128 wide b }
