-- A number of a width fits in the hexadecimal digits of that width.
use Rattle.std.proofs.Common.{◌≡◌, ℕ, zero, suc, ◌+◌, ◌*◌, ◌<◌, ◌≤◌, ◌^◌, refl, sym, ◌∙◌, ap, arith}
use Rattle.std.proofs.Math.Nat.{pow-suc, pow-le-pow_right}
use Rattle.std.proofs.lemmas.Nat.{pow-add}
use Rattle.bv_print.specs.Values.{hex_width}

sixteen : (k : ℕ) → 16 ^ k ≡ 2 ^ (4 * k)
sixteen zero = refl
sixteen (suc k) =
    let before : 16 ^ k ≡ 2 ^ (4 * k) = sixteen k in
    let low : 16 ^ suc k ≡ 16 ^ k * 16 = pow-suc 16 k in
    let high : 2 ^ (4 * k + 4) ≡ 2 ^ (4 * k) * 2 ^ 4 = pow-add 2 (4 * k) 4 in
    let place : 4 * suc k ≡ 4 * k + 4 = omega arith in
    low ∙ (ap (λ n. n * 16) before ∙ (sym high ∙ ap (λ n. 2 ^ n) (sym place)))

pub digits_hold : (w n : ℕ) → n < 2 ^ w → n < 16 ^ hex_width w
digits_hold w n h =
    let wide : 2 ^ w ≤ 2 ^ (4 * hex_width w) = pow-le-pow_right {n = 2} (omega arith) {i = w} {j = 4 * hex_width w} (omega arith) in
    let same : 16 ^ hex_width w ≡ 2 ^ (4 * hex_width w) = sixteen (hex_width w) in
    omega arith
