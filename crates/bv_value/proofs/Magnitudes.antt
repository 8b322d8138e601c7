-- Signed quotients and remainders of bit vectors, from the magnitudes and the signs.
use Rattle.std.proofs.Common.{◌≡◌, ℕ, zero, suc, ◌+◌, ◌-◌, ◌/◌, ◌%◌, ◌^◌, ◌≤◌, ◌<◌, Bool, true, false, not, ◌&&◌, nat_eq, refl, sym, ◌∙◌, ap, arith, if◌then◌else◌}
use Rattle.std.specs.Prelude.{nat_le, unsigned_abs}
use Rattle.std.proofs.lemmas.Grind.{common_steps}
use Rattle.std.proofs.Math.Nat.{mod-eq_of_lt, mod-lt, mod-le, mod_self, div-le_self, add-mod_right}
use Rattle.bv_value.specs.Bits.{differ}
use Rattle.bv_value.specs.BitVector.{BitVector, modulus, of_number, signed}
use Rattle.bv_value.specs.Operations as is
use Rattle.bv_value.specs.Signs.{signed_quotient, signed_by, floor_magnitude}
use Rattle.bv_value.proofs.Bits.{pow_more}
use Rattle.bv_value.proofs.Powers.{pow-pos}
use Rattle.bv_value.proofs.Signs.{signed_low, signed_high, with_sign_is}

-- what a width and a number make
abbrev pub vector : ℕ → ℕ → BitVector
vector w n = record { width = w; number = n }

-- the vector of the magnitude of the signed value
abbrev pub magnitude_of : BitVector → BitVector
magnitude_of x = record x { number = unsigned_abs (signed x) }

-- a vector of some width whose number fits, and its sign
pub record HasSign (x : BitVector) (a : Bool) : Type 0 where
  pub positive : 1 ≤ x.width
  pub below : x.number < modulus x
  pub sign : nat_le (modulus x / 2) x.number ≡ a

pub two_or_more : (w : ℕ) → 1 ≤ w → 2 ≤ 2 ^ w
two_or_more zero l = absurd (omega arith)
two_or_more (suc w) l = let p = pow-pos w in let e = pow_more w in omega arith

-- the upper half begins above 0
high_positive : (m x : ℕ) → 2 ≤ m → nat_le (m / 2) x ≡ true → 0 < x
high_positive m x l h = grind (arith, common_steps)

zero_low : (m : ℕ) → 2 ≤ m → nat_le (m / 2) 0 ≡ false
zero_low m l = grind (arith, common_steps)

rest_of_smaller : (n m : ℕ) → n < m → n % m ≡ n
rest_of_smaller n m l = mod-eq_of_lt l

-- the magnitude is the negated number where the sign is set
pub magnitude_is : (x : BitVector) (a : Bool) → HasSign x a → (if a then is.neg x else x) ≡ magnitude_of x
magnitude_is x true s =
    let some : 0 < x.number = high_positive (modulus x) x.number (two_or_more x.width s.positive) s.sign in
    let b : x.number < modulus x = s.below in
    let e : (modulus x - x.number) % modulus x ≡ modulus x - x.number = rest_of_smaller _ _ (omega arith) in
    let f : modulus x - x.number ≡ suc (modulus x - 1 - x.number) = omega arith in
    rw (signed_high x s.sign b) (ap (vector x.width) (e ∙ f))
magnitude_is x false s = rw (signed_low x s.sign) refl

-- and negated again it is the number
pub magnitude_back : (x : BitVector) (a : Bool) → HasSign x a → (if a then is.neg (magnitude_of x) else magnitude_of x) ≡ x
magnitude_back x true s =
    let b : x.number < modulus x = s.below in
    let e : modulus x - suc (modulus x - 1 - x.number) ≡ x.number = omega arith in
    rw (signed_high x s.sign b) (ap (vector x.width) (ap (λ n. n % modulus x) e ∙ rest_of_smaller _ _ b))
magnitude_back x false s = rw (signed_low x s.sign) refl

pub magnitude_below : (x : BitVector) (a : Bool) → HasSign x a → unsigned_abs (signed x) < modulus x
magnitude_below x true s =
    let some : 0 < x.number = high_positive (modulus x) x.number (two_or_more x.width s.positive) s.sign in
    let b : x.number < modulus x = s.below in
    rw (signed_high x s.sign b) (omega arith)
magnitude_below x false s = rw (signed_low x s.sign) s.below

-- the magnitude is 0 exactly where the number is
pub magnitude-zero : (y : BitVector) (b : Bool) → HasSign y b → nat_eq (unsigned_abs (signed y)) 0 ≡ nat_eq y.number 0
magnitude-zero y true s =
    let some : 0 < y.number = high_positive (modulus y) y.number (two_or_more y.width s.positive) s.sign in
    rw (signed_high y s.sign s.below) (grind (arith, common_steps))
magnitude-zero y false s = rw (signed_low y s.sign) refl

-- The signed quotient from that of the magnitudes.

sdiv_is : (x y : BitVector) (a b : Bool) → HasSign x a → HasSign y b → nat_eq y.number 0 ≡ false
    → signed_quotient a b (of_number x.width (unsigned_abs (signed x) / unsigned_abs (signed y))) ≡ is.sdiv x y
sdiv_is x y true true p q n = rw (n, signed_high x p.sign p.below, signed_high y q.sign q.below)
sdiv_is x y true false p q n =
    rw (n, signed_high x p.sign p.below, signed_low y q.sign)
    (ap (vector x.width) (sym (with_sign_is (modulus x) (suc (modulus x - 1 - x.number) / y.number) (pow-pos x.width))))
sdiv_is x y false true p q n =
    rw (n, signed_low x p.sign, signed_high y q.sign q.below)
    (ap (vector x.width) (sym (with_sign_is (modulus x) (x.number / suc (modulus y - 1 - y.number)) (pow-pos x.width))))
sdiv_is x y false false p q n = rw (n, signed_low x p.sign, signed_low y q.sign)

by_signs : (a b : Bool) (q : BitVector) → (if differ a b then is.neg q else q) ≡ signed_quotient a b q
by_signs true true q = refl
by_signs true false q = refl
by_signs false true q = refl
by_signs false false q = refl

neg_zero : (w : ℕ) → is.neg (vector w 0) ≡ vector w 0
neg_zero w = ap (vector w) (go (2 ^ w))
  where
    go : (m : ℕ) → (m - 0) % m ≡ 0
    go m = let e : m - 0 ≡ m = omega arith in rw e (mod_self m)

either_zero : (t : Bool) (w : ℕ) → (if t then is.neg (vector w 0) else vector w 0) ≡ vector w 0
either_zero true w = neg_zero w
either_zero false w = refl

pub quotient_by_signs : (x y : BitVector) (a b : Bool) → HasSign x a → HasSign y b → (if differ a b then is.neg (is.udiv (magnitude_of x) (magnitude_of y)) else is.udiv (magnitude_of x) (magnitude_of y)) ≡ is.sdiv x y
quotient_by_signs x y a b p q = go (nat_eq y.number 0) refl
  where
    go : (t : Bool) → nat_eq y.number 0 ≡ t → (if differ a b then is.neg (is.udiv (magnitude_of x) (magnitude_of y)) else is.udiv (magnitude_of x) (magnitude_of y)) ≡ is.sdiv x y
    go true e = rw (magnitude-zero y b q, e) (either_zero (differ a b) x.width)
    go false e =
        let m = magnitude_below x a p in
        let r : unsigned_abs (signed x) / unsigned_abs (signed y) % modulus x ≡ unsigned_abs (signed x) / unsigned_abs (signed y) = rest_of_smaller _ _ (let l = div-le_self (unsigned_abs (signed x)) (unsigned_abs (signed y)) in omega arith) in
        by_signs a b (is.udiv (magnitude_of x) (magnitude_of y)) ∙ (ap (signed_quotient a b) (rw (magnitude-zero y b q, e) (ap (vector x.width) (sym r))) ∙ sdiv_is x y a b p q e)

-- The signed remainders.

srem_is : (x y : BitVector) (a : Bool) → HasSign x a → nat_eq y.number 0 ≡ false
    → signed_by a (of_number x.width (unsigned_abs (signed x) % unsigned_abs (signed y))) ≡ is.srem x y
srem_is x y true p n =
    rw (n, signed_high x p.sign p.below)
    (ap (vector x.width) (sym (with_sign_is (modulus x) (suc (modulus x - 1 - x.number) % unsigned_abs (signed y)) (pow-pos x.width))))
srem_is x y false p n = rw (n, signed_low x p.sign)

with_sign : (a : Bool) (q : BitVector) → (if a then is.neg q else q) ≡ signed_by a q
with_sign true q = refl
with_sign false q = refl

-- the remainder of the magnitudes, where the divisor isn't 0
reduced : (x y : BitVector) (a b : Bool) → HasSign x a → HasSign y b → nat_eq y.number 0 ≡ false → is.umod (magnitude_of x) (magnitude_of y) ≡ of_number x.width (unsigned_abs (signed x) % unsigned_abs (signed y))
reduced x y a b p q e =
    let m = magnitude_below x a p in
    let r : unsigned_abs (signed x) % unsigned_abs (signed y) % modulus x ≡ unsigned_abs (signed x) % unsigned_abs (signed y) = rest_of_smaller _ _ (let l = mod-le (unsigned_abs (signed x)) (unsigned_abs (signed y)) in omega arith) in
    rw (magnitude-zero y b q, e) (ap (vector x.width) (sym r))

-- and where it is 0
whole : (x y : BitVector) (b : Bool) → HasSign y b → nat_eq y.number 0 ≡ true → is.umod (magnitude_of x) (magnitude_of y) ≡ magnitude_of x
whole x y b q e = rw (magnitude-zero y b q, e) refl

pub remainder_by_sign : (x y : BitVector) (a b : Bool) → HasSign x a → HasSign y b → (if a then is.neg (is.umod (magnitude_of x) (magnitude_of y)) else is.umod (magnitude_of x) (magnitude_of y)) ≡ is.srem x y
remainder_by_sign x y a b p q = go (nat_eq y.number 0) refl
  where
    go : (t : Bool) → nat_eq y.number 0 ≡ t → (if a then is.neg (is.umod (magnitude_of x) (magnitude_of y)) else is.umod (magnitude_of x) (magnitude_of y)) ≡ is.srem x y
    go true e = ap (λ z. if a then is.neg z else z) (whole x y b q e) ∙ (magnitude_back x a p ∙ rw e refl)
    go false e = with_sign a (is.umod (magnitude_of x) (magnitude_of y)) ∙ (ap (signed_by a) (reduced x y a b p q e) ∙ srem_is x y a p e)

-- The remainder with the sign of the divisor: that is added where the signs differ and the remainder isn't 0.

smod_is : (x y : BitVector) (a b : Bool) → HasSign x a → HasSign y b → nat_eq y.number 0 ≡ false
    → signed_by b (of_number x.width (floor_magnitude a b (unsigned_abs (signed x)) (unsigned_abs (signed y)))) ≡ is.smod x y
smod_is x y true true p q n =
    rw (n, signed_high x p.sign p.below, signed_high y q.sign q.below)
    (ap (vector x.width) (sym (with_sign_is (modulus x) (suc (modulus x - 1 - x.number) % suc (modulus y - 1 - y.number)) (pow-pos x.width))))
smod_is x y true false p q n =
    let some : 0 < y.number = grind (arith, common_steps) in
    rw (n, signed_high x p.sign p.below, signed_low y q.sign)
    (ap (λ m. vector x.width (m % modulus x)) (sym (with_sign_is y.number (suc (modulus x - 1 - x.number)) some)))
smod_is x y false true p q n =
    let d : ℕ = suc (modulus y - 1 - y.number) in
    let one : 0 < suc (modulus y - 1 - y.number) = omega arith in
    rw (n, signed_low x p.sign, signed_high y q.sign q.below, with_sign_is (suc (modulus y - 1 - y.number)) x.number one)
    (ap (vector x.width) (sym (with_sign_is (modulus x) ((suc (modulus y - 1 - y.number) - x.number % suc (modulus y - 1 - y.number)) % suc (modulus y - 1 - y.number)) (pow-pos x.width))))
smod_is x y false false p q n = rw (n, signed_low x p.sign, signed_low y q.sign)

-- the choice of the sum with the divisor, from the remainder u of the magnitudes
abbrev pub turned : Bool → Bool → BitVector → BitVector → BitVector
turned a b y u =
    let v = (if a then is.neg u else u) in
    if differ a b && not (nat_eq u.number 0) then is.add v y else v

same_signs_up : (w u : ℕ) → u < 2 ^ w → vector w u ≡ of_number w u
same_signs_up w u l = ap (vector w) (sym (rest_of_smaller _ _ l))

-- a negated remainder and a positive divisor
up : (m u y : ℕ) → u < y → y < m → (t : Bool) → nat_eq u 0 ≡ t → (if not t then ((m - u) % m + y) % m else (m - u) % m) ≡ (y - u) % y % m
up m u y l k true e =
    let z : u ≡ 0 = grind (arith, common_steps) in
    let a : m - 0 ≡ m = omega arith in
    let b : y - 0 ≡ y = omega arith in
    rw (z, a, b, mod_self m, mod_self y) (sym (rest_of_smaller 0 m (omega arith)))
up m u y l k false e =
    let some : 0 < u = grind (arith, common_steps) in
    let a : (m - u) % m ≡ m - u = rest_of_smaller _ _ (omega arith) in
    let b : (y - u) % y ≡ y - u = rest_of_smaller _ _ (omega arith) in
    let c : m - u + y ≡ y - u + m = omega arith in
    rw (a, b, c) (add-mod_right (y - u) m)

-- a remainder and a negated divisor
down : (m u d n : ℕ) → u < d → n + d ≡ m → n < m → (t : Bool) → nat_eq u 0 ≡ t → (if not t then (u + n) % m else u) ≡ (m - (d - u) % d % m) % m
down m u d n l k g true e =
    let z : u ≡ 0 = grind (arith, common_steps) in
    let b : d - 0 ≡ d = omega arith in
    let c : m - 0 ≡ m = omega arith in
    rw (z, b, mod_self d, rest_of_smaller 0 m (omega arith), c, mod_self m) refl
down m u d n l k g false e =
    let some : 0 < u = grind (arith, common_steps) in
    let b : (d - u) % d ≡ d - u = rest_of_smaller _ _ (omega arith) in
    let c : (d - u) % m ≡ d - u = rest_of_smaller _ _ (omega arith) in
    let s : m - (d - u) ≡ u + n = omega arith in
    rw (b, c, s) refl

vector_if : (t : Bool) (w m n : ℕ) → (if t then vector w m else vector w n) ≡ vector w (if t then m else n)
vector_if true w m n = refl
vector_if false w m n = refl

-- whatever is chosen, where both are the same
either_way : (t : Bool) (x y : BitVector) → y ≡ x → (if t then y else x) ≡ x
either_way true x y e = e
either_way false x y e = refl

turned_is : (x y : BitVector) (a b : Bool) → x.width ≡ y.width → HasSign x a → HasSign y b → nat_eq y.number 0 ≡ false
    → turned a b y (vector x.width (unsigned_abs (signed x) % unsigned_abs (signed y))) ≡ signed_by b (of_number x.width (floor_magnitude a b (unsigned_abs (signed x)) (unsigned_abs (signed y))))
turned_is x y a b w p q e = go a b p q (unsigned_abs (signed x) % unsigned_abs (signed y)) refl
  where
    some : 0 < y.number
    some = grind (arith, common_steps)

    small : (a : Bool) → HasSign x a → unsigned_abs (signed x) % unsigned_abs (signed y) < modulus x
    small a p = let m = magnitude_below x a p in let l = mod-le (unsigned_abs (signed x)) (unsigned_abs (signed y)) in omega arith

    go : (a b : Bool) → HasSign x a → HasSign y b → (u : ℕ) → unsigned_abs (signed x) % unsigned_abs (signed y) ≡ u → turned a b y (vector x.width u) ≡ signed_by b (of_number x.width (floor_magnitude a b (unsigned_abs (signed x)) (unsigned_abs (signed y))))
    go true true p q u i = rw i (ap is.neg (same_signs_up x.width u (rw i at (small true p))))
    go false false p q u i = rw i (same_signs_up x.width u (rw i at (small false p)))
    go true false p q u i =
        let d : unsigned_abs (signed y) ≡ y.number = rw (signed_low y q.sign) refl in
        let less : u < y.number = (let l = mod-lt (unsigned_abs (signed x)) (let s : 0 < unsigned_abs (signed y) = rw d some in s) in rw (i, d) at l) in
        let fits : y.number < modulus x = rw w q.below in
        rw (i, d) (vector_if (not (nat_eq u 0)) x.width _ _ ∙ ap (vector x.width) (up (modulus x) u y.number less fits (nat_eq u 0) refl))
    go false true p q u i =
        let b : y.number < modulus y = q.below in
        let m : modulus y ≡ modulus x = ap (λ n. 2 ^ n) (sym w) in
        let d : unsigned_abs (signed y) ≡ suc (modulus y - 1 - y.number) = rw (signed_high y q.sign q.below) refl in
        let whole : y.number + unsigned_abs (signed y) ≡ modulus x = omega arith in
        let less : u < unsigned_abs (signed y) = (let l = mod-lt (unsigned_abs (signed x)) (let s : 0 < unsigned_abs (signed y) = omega arith in s) in rw i at l) in
        rw i (vector_if (not (nat_eq u 0)) x.width _ _ ∙ ap (vector x.width) (down (modulus x) u (unsigned_abs (signed y)) y.number less whole (omega arith) (nat_eq u 0) refl))

pub modulus_by_signs : (x y : BitVector) (a b : Bool) → x.width ≡ y.width → HasSign x a → HasSign y b → turned a b y (is.umod (magnitude_of x) (magnitude_of y)) ≡ is.smod x y
modulus_by_signs x y a b w p q = go (nat_eq y.number 0) refl
  where
    nothing_added : nat_eq y.number 0 ≡ true → is.add x y ≡ x
    nothing_added e =
        let z : x.number + y.number ≡ x.number = grind (arith, common_steps) in
        ap (vector x.width) (ap (λ n. n % modulus x) z ∙ rest_of_smaller _ _ p.below)

    go : (t : Bool) → nat_eq y.number 0 ≡ t → turned a b y (is.umod (magnitude_of x) (magnitude_of y)) ≡ is.smod x y
    go true e =
        ap (turned a b y) (whole x y b q e)
        ∙ (ap (λ v. if differ a b && not (nat_eq (magnitude_of x).number 0) then is.add v y else v) (magnitude_back x a p)
        ∙ (either_way (differ a b && not (nat_eq (magnitude_of x).number 0)) x (is.add x y) (nothing_added e) ∙ rw e refl))
    go false e = ap (turned a b y) (rw (magnitude-zero y b q, e) refl) ∙ (turned_is x y a b w p q e ∙ smod_is x y a b p q e)
