-- Each operator on bit vectors gives a bit vector.
use Rattle.std.proofs.Common.{◌≡◌, ℕ, zero, suc, ◌+◌, ◌-◌, ◌*◌, ◌/◌, ◌%◌, ◌^◌, ◌≤◌, ◌<◌, Bool, true, false, refl, sym, arith, ℤ, pos, negsuc}
use Rattle.std.specs.Prelude.{◌==◌, ◌&&◌, ◌||◌, if◌then◌else◌}
use Rattle.std.proofs.Math.Nat.{mod-eq_of_lt, mod-lt, mod-le, div-le_self, pow-suc}
use Rattle.bv_value.specs.BitVector.{BitVector, IsBitVector, of_number, of_whole, residue}
use Rattle.bv_value.specs.Bits.{bit_number, number_of, bits_of, at_each, differ}
use Rattle.bv_value.specs.Operations as is
use Rattle.bv_value.proofs.Powers.{pow-pos, beside, rotated_below, down_below}

-- A width, and a number reduced to it.
pub reduced_fits : (w n : ℕ) → 1 ≤ w → w ≤ 128 → IsBitVector (of_number w n)
reduced_fits w n one wide = record { positive = one; at_most_128 = wide; below = mod-lt n (pow-pos w) }

residue_below : (m : ℕ) (z : ℤ) → 0 < m → residue m z < m
residue_below m (pos n) p = mod-lt n p
residue_below m (negsuc n) p = let r : n % m < m = mod-lt n p in omega arith

pub whole_fits : (w : ℕ) (z : ℤ) → 1 ≤ w → w ≤ 128 → IsBitVector (of_whole w z)
whole_fits w z one wide = record { positive = one; at_most_128 = wide; below = residue_below (2 ^ w) z (pow-pos w) }

-- A number that is not above that of a bit vector.
pub smaller_fits : (x : BitVector) (n : ℕ) → IsBitVector x → n ≤ x.number → IsBitVector (record x { number = n })
smaller_fits x n v le = record { positive = v.positive; at_most_128 = v.at_most_128; below = omega (arith, v.below) }

choice_fits : (b : Bool) (x y : BitVector) → IsBitVector x → IsBitVector y → IsBitVector (if b then x else y)
choice_fits true x y p q = p
choice_fits false x y p q = q

pub not_fits : (x : BitVector) → IsBitVector x → IsBitVector (is.bitwise_not x)
not_fits x v = record { positive = v.positive; at_most_128 = v.at_most_128; below = (let p : 0 < 2 ^ x.width = pow-pos x.width in omega arith) }

-- What bits that are made at each place write is below two to their count.
each-below : (f : Bool → Bool → Bool) (w m n : ℕ) → number_of (at_each f (bits_of w m) (bits_of w n)) < 2 ^ w
each-below f zero m n = omega arith
each-below f (suc w) m n = join (f (m % 2 == 1) (n % 2 == 1)) _ (each-below f w (m / 2) (n / 2))
  where
    join : (b : Bool) (k : ℕ) → k < 2 ^ w → bit_number b + 2 * k < 2 ^ suc w
    join true k h = omega (arith, pow-suc 2 w)
    join false k h = omega (arith, pow-suc 2 w)

pub bitwise_fits : (f : Bool → Bool → Bool) (x y : BitVector) → IsBitVector x → x.width ≡ y.width → IsBitVector (is.bitwise f x y)
bitwise_fits f x y v e = record {
  positive = v.positive;
  at_most_128 = v.at_most_128;
  below = (let h : number_of (at_each f (bits_of x.width x.number) (bits_of x.width y.number)) < 2 ^ x.width = each-below f x.width x.number y.number in rw (sym e) h);
}

pub and_fits : (x y : BitVector) → IsBitVector x → x.width ≡ y.width → IsBitVector (is.bitwise_and x y)
and_fits x y v e = bitwise_fits ◌&&◌ x y v e

pub or_fits : (x y : BitVector) → IsBitVector x → x.width ≡ y.width → IsBitVector (is.bitwise_or x y)
or_fits x y v e = bitwise_fits ◌||◌ x y v e

pub xor_fits : (x y : BitVector) → IsBitVector x → x.width ≡ y.width → IsBitVector (is.bitwise_xor x y)
xor_fits x y v e = bitwise_fits differ x y v e

pub udiv_fits : (x y : BitVector) → IsBitVector x → IsBitVector (is.udiv x y)
udiv_fits x y v = go (y.number == 0)
  where
    go : (b : Bool) → IsBitVector (record x { number = if b then 0 else x.number / y.number })
    go true = smaller_fits x 0 v (omega arith)
    go false = smaller_fits x (x.number / y.number) v (div-le_self x.number y.number)

pub umod_fits : (x y : BitVector) → IsBitVector x → IsBitVector (is.umod x y)
umod_fits x y v = go (y.number == 0)
  where
    go : (b : Bool) → IsBitVector (record x { number = if b then x.number else x.number % y.number })
    go true = v
    go false = smaller_fits x (x.number % y.number) v (mod-le x.number y.number)

pub lshr_fits : (x : BitVector) (n : ℕ) → IsBitVector x → IsBitVector (is.lshr_by x n)
lshr_fits x n v = smaller_fits x (x.number / 2 ^ n) v (div-le_self x.number (2 ^ n))

pub rotl_fits : (x : BitVector) (n : ℕ) → IsBitVector x → IsBitVector (is.rotl x n)
rotl_fits x n v = record {
  positive = v.positive;
  at_most_128 = v.at_most_128;
  below = rotated_below x.number (n % x.width) x.width v.below (mod-lt n v.positive);
}

pub rotr_fits : (x : BitVector) (n : ℕ) → IsBitVector x → IsBitVector (is.rotr x n)
rotr_fits x n v =
    let d = down_below x.number (n % x.width) x.width v.below (mod-lt n v.positive) v.at_most_128 in
    record {
      positive = v.positive;
      at_most_128 = v.at_most_128;
      below = (let h = d.0 in rw d.1 at h);
    }

pub srem_fits : (x y : BitVector) → IsBitVector x → IsBitVector (is.srem x y)
srem_fits x y v = choice_fits (y.number == 0) _ _ v (whole_fits x.width _ v.positive v.at_most_128)

pub sdiv_fits : (x y : BitVector) → IsBitVector x → IsBitVector (is.sdiv x y)
sdiv_fits x y v = choice_fits (y.number == 0) _ _ (smaller_fits x 0 v (omega arith)) (whole_fits x.width _ v.positive v.at_most_128)

pub smod_fits : (x y : BitVector) → IsBitVector x → IsBitVector (is.smod x y)
smod_fits x y v = choice_fits (y.number == 0) _ _ v (whole_fits x.width _ v.positive v.at_most_128)

pub append_fits : (x y : BitVector) → IsBitVector x → IsBitVector y → x.width + y.width ≤ 128 → IsBitVector (is.append x y)
append_fits x y v w wide = record {
  positive = omega (arith, v.positive);
  at_most_128 = wide;
  below = beside x.number y.number x.width y.width v.below w.below;
}

-- What two rules rest on.
pub not_not : (x : BitVector) → IsBitVector x → is.bitwise_not (is.bitwise_not x) ≡ x
not_not x v =
    let e : 2 ^ x.width - 1 - (2 ^ x.width - 1 - x.number) ≡ x.number = omega (arith, v.below) in
    rw e refl

pub add_zero : (x y : BitVector) → IsBitVector x → y.number ≡ 0 → is.add x y ≡ x
add_zero x y v z =
    let e : x.number + y.number ≡ x.number = omega arith in
    let m : x.number % 2 ^ x.width ≡ x.number = mod-eq_of_lt v.below in
    rw (e, m)
