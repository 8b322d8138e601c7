-- Signed values of bit vectors.
use Rattle.std.proofs.Common.{◌≡◌, inl, inr, ℕ, zero, suc, ◌+◌, ◌-◌, ◌*◌, ◌/◌, ◌%◌, ◌^◌, ◌≤◌, ◌<◌, Bool, true, false, nat_eq, nat_lt, sym, ◌∙◌, ap, arith, pos, negsuc}
use Rattle.std.specs.Prelude.{nat_le, neg_ℤ, unsigned_abs}
use Rattle.std.proofs.lemmas.Grind.{common_steps}
use Rattle.std.proofs.lemmas.Int.{ints}
use Rattle.std.proofs.Math.Nat.{mod-eq_of_lt, mod-lt, mod_self, div-le_self, div-add-mod, mul-add-mod_self_left, pow-suc}
use Rattle.std.proofs.lemmas.Bool.{cases_lt}
use Rattle.bv_value.specs.BitVector.{BitVector, IsBitVector, modulus, of_number, residue, signed}
use Rattle.bv_value.specs.Operations as is
use Rattle.bv_value.specs.Signs.{signed_quotient, signed_by, floor_magnitude, signed_less}
use Rattle.bv_value.proofs.Powers.{pow-pos}

-- a test by the greatest number of a width
pub half_test : (g x w : ℕ) → 1 ≤ w → g + 1 ≡ 2 ^ w → nat_lt (g / 2) x ≡ nat_le (2 ^ w / 2) x
half_test g x zero one e = absurd (omega arith)
half_test g x (suc w) one e = rw pow-suc (halves g x (2 ^ w) (rw pow-suc at e))
  where
    halves : (g x h : ℕ) → g + 1 ≡ h * 2 → nat_lt (g / 2) x ≡ nat_le (h * 2 / 2) x
    halves g x h e = grind (arith, common_steps)

pub signed_low : (x : BitVector) → nat_le (modulus x / 2) x.number ≡ false → signed x ≡ pos x.number
signed_low x h =
    let lt : nat_lt x.number (modulus x / 2) ≡ true = grind (arith, common_steps) in
    rw lt

pub signed_high : (x : BitVector) → nat_le (modulus x / 2) x.number ≡ true → x.number < modulus x → signed x ≡ negsuc (modulus x - 1 - x.number)
signed_high x h lt =
    let ge : nat_lt x.number (modulus x / 2) ≡ false = grind (arith, common_steps) in
    rw ge (omega (arith, ints))

pub ashr_low : (x : BitVector) (n : ℕ) → IsBitVector x → nat_le (modulus x / 2) x.number ≡ false → is.lshr_by x n ≡ is.ashr_by x n
ashr_low x n v h =
    let small : x.number / 2 ^ n < modulus x = omega (arith, div-le_self x.number (2 ^ n), v.below) in
    rw (signed_low x h) (ap (λ (m : ℕ). let r : BitVector = record { width = x.width; number = m } in r) (sym (mod-eq_of_lt small)))

pub ashr_high : (x : BitVector) (n : ℕ) → IsBitVector x → nat_le (modulus x / 2) x.number ≡ true → is.bitwise_not (is.lshr_by (is.bitwise_not x) n) ≡ is.ashr_by x n
ashr_high x n v h =
    let rest : ℕ = modulus x - 1 - x.number in
    let p : 0 < modulus x = pow-pos x.width in
    let small : (modulus x - 1 - x.number) / 2 ^ n < modulus x = omega (arith, div-le_self (modulus x - 1 - x.number) (2 ^ n)) in
    rw (signed_high x h v.below) (ap (λ (m : ℕ). let r : BitVector = record { width = x.width; number = modulus x - 1 - m } in r) (sym (mod-eq_of_lt small)))

-- the residue of a negated number
pub residue_negated : (m q : ℕ) → 0 < m → residue m (neg_ℤ (pos q)) ≡ (m - q % m) % m
residue_negated m zero p =
    let a : 0 % m ≡ 0 = mod-eq_of_lt p in
    let z : m - 0 ≡ m = omega arith in
    rw (a, z) (sym (mod_self m))
residue_negated m (suc q) p = next m (q % m) (suc q % m) (mod-lt q p) (after m q p)
  where
    after : (m q : ℕ) → 0 < m → suc q % m ≡ suc (q % m) % m
    after m q p =
        let e : suc q ≡ m * (q / m) + suc (q % m) = omega (arith, div-add-mod q m) in
        ap (λ n. n % m) e ∙ mul-add-mod_self_left m (q / m) (suc (q % m))

    next : (m r s : ℕ) → r < m → s ≡ suc r % m → m - 1 - r ≡ (m - s) % m
    next m r s lt e =
        elim (cases_lt (suc r) m) [
          | inl small ↦ (let f : suc r % m ≡ suc r = mod-eq_of_lt small in let g : (m - s) % m ≡ m - s = mod-eq_of_lt (omega arith) in omega arith)
          | inr full ↦ (let f : suc r % m ≡ 0 = (let h : suc r ≡ m = omega arith in rw h (mod_self m)) in let g : (m - s) % m ≡ 0 = (let h : m - s ≡ m = omega arith in rw h (mod_self m)) in omega arith)
        ]

pub sdiv_is : (x y : BitVector) (a b : Bool) → IsBitVector x → IsBitVector y → x.width ≡ y.width → nat_eq y.number 0 ≡ false
    → nat_le (modulus x / 2) x.number ≡ a → nat_le (modulus y / 2) y.number ≡ b
    → signed_quotient a b (of_number x.width (unsigned_abs (signed x) / unsigned_abs (signed y))) ≡ is.sdiv x y
sdiv_is x y true true v w e n p q = rw (n, signed_high x p v.below, signed_high y q w.below)
sdiv_is x y true false v w e n p q =
    rw (n, signed_high x p v.below, signed_low y q)
    (ap (λ (m : ℕ). let r : BitVector = record { width = x.width; number = m } in r) (sym (residue_negated (modulus x) (suc (modulus x - 1 - x.number) / y.number) (pow-pos x.width))))
sdiv_is x y false true v w e n p q =
    rw (n, signed_low x p, signed_high y q w.below)
    (ap (λ (m : ℕ). let r : BitVector = record { width = x.width; number = m } in r) (sym (residue_negated (modulus x) (x.number / suc (modulus y - 1 - y.number)) (pow-pos x.width))))
sdiv_is x y false false v w e n p q = rw (n, signed_low x p, signed_low y q)

pub with_sign_is : (m q : ℕ) → 0 < m → residue m (neg_ℤ (pos q)) ≡ (m - q % m) % m
with_sign_is m q p = residue_negated m q p

pub srem_is : (x y : BitVector) (a : Bool) → IsBitVector x → nat_eq y.number 0 ≡ false → nat_le (modulus x / 2) x.number ≡ a
    → signed_by a (of_number x.width (unsigned_abs (signed x) % unsigned_abs (signed y))) ≡ is.srem x y
srem_is x y true v n p =
    rw (n, signed_high x p v.below)
    (ap (λ (m : ℕ). let r : BitVector = record { width = x.width; number = m } in r) (sym (residue_negated (modulus x) (suc (modulus x - 1 - x.number) % unsigned_abs (signed y)) (pow-pos x.width))))
srem_is x y false v n p = rw (n, signed_low x p)

pub smod_is : (x y : BitVector) (a b : Bool) → IsBitVector x → IsBitVector y → x.width ≡ y.width → nat_eq y.number 0 ≡ false
    → nat_le (modulus x / 2) x.number ≡ a → nat_le (modulus y / 2) y.number ≡ b
    → signed_by b (of_number x.width (floor_magnitude a b (unsigned_abs (signed x)) (unsigned_abs (signed y)))) ≡ is.smod x y
smod_is x y true true v w e n p q =
    rw (n, signed_high x p v.below, signed_high y q w.below)
    (ap (λ (m : ℕ). let r : BitVector = record { width = x.width; number = m } in r) (sym (residue_negated (modulus x) (suc (modulus x - 1 - x.number) % suc (modulus y - 1 - y.number)) (pow-pos x.width))))
smod_is x y true false v w e n p q =
    let pos_y : 0 < y.number = grind (arith, common_steps) in
    rw (n, signed_high x p v.below, signed_low y q)
    (ap (λ (m : ℕ). let r : BitVector = record { width = x.width; number = m % modulus x } in r) (sym (residue_negated y.number (suc (modulus x - 1 - x.number)) pos_y)))
smod_is x y false true v w e n p q =
    let one : 0 < suc (modulus y - 1 - y.number) = omega arith in
    rw (n, signed_low x p, signed_high y q w.below, residue_negated (suc (modulus y - 1 - y.number)) x.number one)
    (ap (λ (m : ℕ). let r : BitVector = record { width = x.width; number = m } in r)
    (sym (residue_negated (modulus x) ((suc (modulus y - 1 - y.number) - x.number % suc (modulus y - 1 - y.number)) % suc (modulus y - 1 - y.number)) (pow-pos x.width))))
smod_is x y false false v w e n p q = rw (n, signed_low x p, signed_low y q)

pub sign_extend_low : (x : BitVector) (w : ℕ) → nat_le (modulus x / 2) x.number ≡ false → is.set_width x w ≡ is.sign_extend x w
sign_extend_low x w p = rw (signed_low x p)

pub sign_extend_high : (x : BitVector) (w : ℕ) → IsBitVector x → nat_le (modulus x / 2) x.number ≡ true
    → is.bitwise_not (is.set_width (is.bitwise_not x) w) ≡ is.sign_extend x w
sign_extend_high x w v p = rw (signed_high x p v.below)

pub slt_is : (x y : BitVector) (a b : Bool) → IsBitVector x → IsBitVector y → x.width ≡ y.width
    → nat_le (modulus x / 2) x.number ≡ a → nat_le (modulus y / 2) y.number ≡ b → signed_less a b (is.ult x y) ≡ is.slt x y
slt_is x y true true v w e p q =
    let same : 2 ^ x.width ≡ 2 ^ y.width = ap (λ n. 2 ^ n) e in
    let xb : x.number < 2 ^ x.width = v.below in
    let yb : y.number < 2 ^ y.width = w.below in
    rw (signed_high x p v.below, signed_high y q w.below) (grind (arith, common_steps))
slt_is x y true false v w e p q = rw (signed_high x p v.below, signed_low y q)
slt_is x y false true v w e p q = rw (signed_low x p, signed_high y q w.below)
slt_is x y false false v w e p q = rw (signed_low x p, signed_low y q)
