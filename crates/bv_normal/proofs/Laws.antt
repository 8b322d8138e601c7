-- Laws of the operators on bit vectors, one or two for each rule.
use Rattle.std.proofs.Common.{◌≡◌, ℕ, zero, suc, ◌+◌, ◌-◌, ◌*◌, ◌/◌, ◌%◌, ◌^◌, ◌≤◌, ◌<◌, Bool, true, false, ◌&&◌, ◌||◌, List, [], ◌∷◌, refl, sym, ◌∙◌, ap, arith, nat_lt, ℤ, pos, negsuc}
use Rattle.std.specs.Prelude.{◌==◌, nat_le, bit_and, bit_or, bit_xor, int_le, if◌then◌else◌}
use Rattle.std.specs.Int.Bits.{and_self, or_self, xor_self, and_zero_r, or_zero_r, xor_zero_r}
use Rattle.std.proofs.lemmas.Grind.{common_steps}
use Rattle.std.proofs.lemmas.Nat.{and_mask, le_or_r, or_lt}
use Rattle.std.proofs.Math.Nat.{mod-eq_of_lt, mod_self, mod-one, div-one}
use Rattle.bv_value.specs.BitVector.{BitVector, IsBitVector, modulus, of_number}
use Rattle.bv_value.specs.Bits.{number_of, bits_of, at_each, differ}
use Rattle.bv_value.specs.Operations as is
use Rattle.bv_value.proofs.Bits.{and_bits, or_bits, xor_bits}
use Rattle.bv_value.proofs.Powers.{pow-pos, shifted_up, shifted_out}
use Rattle.bv_value.proofs.Results.{not_fits, not_not}
use Rattle.bv_value.proofs.Signs.{ashr_low, ashr_high, sign_extend_low, sign_extend_high, slt_is}

-- two vectors of one width and one number
pub one_vector : (x y : BitVector) → x.width ≡ y.width → x.number ≡ y.number → x ≡ y
one_vector x y w n = ap (λ (m : ℕ). let r : BitVector = record { width = x.width; number = m } in r) n ∙ ap (λ (m : ℕ). let r : BitVector = record { width = m; number = y.number } in r) w

pub neg_neg : (x : BitVector) → IsBitVector x → is.neg (is.neg x) ≡ x
neg_neg x v = one_vector _ x refl (cases x.number (modulus x) v.below)
  where
    cases : (n m : ℕ) → n < m → (m - (m - n) % m) % m ≡ n
    cases zero m h =
        let z : m - 0 ≡ m = omega arith in
        let a : m % m ≡ 0 = mod_self m in
        rw (z, a, z) a
    cases (suc n) m h =
        let a : (m - suc n) % m ≡ m - suc n = mod-eq_of_lt (omega arith) in
        let b : m - (m - suc n) ≡ suc n = omega arith in
        rw (a, b) (mod-eq_of_lt h)

pub sub_self : (x : BitVector) → is.sub x x ≡ of_number x.width 0
sub_self x =
    let a : x.number + modulus x - x.number ≡ modulus x = omega arith in
    let b : 0 % modulus x ≡ 0 = mod-eq_of_lt (pow-pos x.width) in
    one_vector _ _ refl (rw (a, b) (mod_self (modulus x)))

pub xor_self_zero : (x : BitVector) → IsBitVector x → is.bitwise_xor x x ≡ of_number x.width 0
xor_self_zero x v =
    let b : 0 % modulus x ≡ 0 = mod-eq_of_lt (pow-pos x.width) in
    one_vector _ _ refl (xor_bits x.width x.number x.number v.below v.below ∙ (xor_self x.number ∙ sym b))

-- the order of the operands
pub add_turned : (x y : BitVector) → x.width ≡ y.width → is.add x y ≡ is.add y x
add_turned x y e =
    let s : x.number + y.number ≡ y.number + x.number = omega arith in
    one_vector _ _ e (rw (e, s) refl)

pub mul_turned : (x y : BitVector) → x.width ≡ y.width → is.mul x y ≡ is.mul y x
mul_turned x y e =
    let s : x.number * y.number ≡ y.number * x.number = omega arith in
    one_vector _ _ e (rw (e, s) refl)

at_each-turned : (f : Bool → Bool → Bool) → ((a b : Bool) → f a b ≡ f b a) → (xs ys : List Bool) → at_each f xs ys ≡ at_each f ys xs
at_each-turned f c [] [] = refl
at_each-turned f c [] (y ∷ ys) = refl
at_each-turned f c (x ∷ xs) [] = refl
at_each-turned f c (x ∷ xs) (y ∷ ys) = rw (c x y, at_each-turned f c xs ys) refl

bitwise_turned : (f : Bool → Bool → Bool) → ((a b : Bool) → f a b ≡ f b a) → (x y : BitVector) → x.width ≡ y.width → is.bitwise f x y ≡ is.bitwise f y x
bitwise_turned f c x y e = one_vector _ _ e (ap number_of (at_each-turned f c (bits_of x.width x.number) (bits_of y.width y.number)))

and_either : (a b : Bool) → a && b ≡ b && a
and_either true true = refl
and_either true false = refl
and_either false true = refl
and_either false false = refl

or_either : (a b : Bool) → a || b ≡ b || a
or_either true true = refl
or_either true false = refl
or_either false true = refl
or_either false false = refl

differ_either : (a b : Bool) → differ a b ≡ differ b a
differ_either true true = refl
differ_either true false = refl
differ_either false true = refl
differ_either false false = refl

pub and_turned : (x y : BitVector) → x.width ≡ y.width → is.bitwise_and x y ≡ is.bitwise_and y x
and_turned = bitwise_turned ◌&&◌ and_either

pub or_turned : (x y : BitVector) → x.width ≡ y.width → is.bitwise_or x y ≡ is.bitwise_or y x
or_turned = bitwise_turned ◌||◌ or_either

pub xor_turned : (x y : BitVector) → x.width ≡ y.width → is.bitwise_xor x y ≡ is.bitwise_xor y x
xor_turned = bitwise_turned differ differ_either

-- the machine's operators on the numbers
and_is : (x y : BitVector) → IsBitVector x → IsBitVector y → x.width ≡ y.width → (is.bitwise_and x y).number ≡ bit_and x.number y.number
and_is x y v w e = rw (← e) (and_bits x.width x.number y.number v.below (let h : y.number < 2 ^ y.width = w.below in rw (← e) at h))

or_is : (x y : BitVector) → IsBitVector x → IsBitVector y → x.width ≡ y.width → (is.bitwise_or x y).number ≡ bit_or x.number y.number
or_is x y v w e = rw (← e) (or_bits x.width x.number y.number v.below (let h : y.number < 2 ^ y.width = w.below in rw (← e) at h))

xor_is : (x y : BitVector) → IsBitVector x → IsBitVector y → x.width ≡ y.width → (is.bitwise_xor x y).number ≡ bit_xor x.number y.number
xor_is x y v w e = rw (← e) (xor_bits x.width x.number y.number v.below (let h : y.number < 2 ^ y.width = w.below in rw (← e) at h))

-- an operand that is 0
pub or_zero : (x y : BitVector) → IsBitVector x → IsBitVector y → x.width ≡ y.width → y.number ≡ 0 → is.bitwise_or x y ≡ x
or_zero x y v w e z = one_vector _ x refl (or_is x y v w e ∙ rw z (or_zero_r x.number))

pub xor_zero : (x y : BitVector) → IsBitVector x → IsBitVector y → x.width ≡ y.width → y.number ≡ 0 → is.bitwise_xor x y ≡ x
xor_zero x y v w e z = one_vector _ x refl (xor_is x y v w e ∙ rw z (xor_zero_r x.number))

pub sub_zero : (x y : BitVector) → IsBitVector x → y.number ≡ 0 → is.sub x y ≡ x
sub_zero x y v z =
    let a : x.number + modulus x - y.number ≡ x.number + modulus x = omega arith in
    let b : (x.number + modulus x) % modulus x ≡ x.number = wrapped_once x.number (modulus x) v.below in
    one_vector _ x refl (rw a b)
  where
    wrapped_once : (n m : ℕ) → n < m → (n + m) % m ≡ n
    wrapped_once n m h = grind (arith, common_steps)

pub and_zero : (x y : BitVector) → IsBitVector x → IsBitVector y → x.width ≡ y.width → y.number ≡ 0 → is.bitwise_and x y ≡ y
and_zero x y v w e z = one_vector _ y e (and_is x y v w e ∙ rw z (and_zero_r x.number))

pub mul_zero : (x y : BitVector) → x.width ≡ y.width → y.number ≡ 0 → is.mul x y ≡ y
mul_zero x y e z =
    let a : x.number * 0 ≡ 0 = omega arith in
    one_vector _ y e (rw (z, a) (mod-eq_of_lt (pow-pos x.width)))

-- an operand that is 1 or all ones
pub mul_one : (x y : BitVector) → IsBitVector x → y.number ≡ 1 → is.mul x y ≡ x
mul_one x y v z =
    let a : x.number * 1 ≡ x.number = omega arith in
    one_vector _ x refl (rw (z, a) (mod-eq_of_lt v.below))

pub and_ones : (x y : BitVector) → IsBitVector x → IsBitVector y → x.width ≡ y.width → y.number + 1 ≡ modulus y → is.bitwise_and x y ≡ x
and_ones x y v w e z =
    let a : y.number ≡ 2 ^ x.width - 1 = rw e (omega arith) in
    one_vector _ x refl (and_is x y v w e ∙ (rw a (and_mask x.number x.width ∙ mod-eq_of_lt v.below)))

pub or_ones : (x y : BitVector) → IsBitVector x → IsBitVector y → x.width ≡ y.width → y.number + 1 ≡ modulus y → is.bitwise_or x y ≡ y
or_ones x y v w e z =
    let below : x.number < 2 ^ y.width = (let h : x.number < 2 ^ x.width = v.below in rw e at h) in
    let a : bit_or x.number y.number < 2 ^ y.width = or_lt y.width x.number y.number below w.below in
    let b : y.number ≤ bit_or x.number y.number = le_or_r x.number y.number in
    one_vector _ y e (or_is x y v w e ∙ omega arith)

-- equal operands
pub and_itself : (x : BitVector) → IsBitVector x → is.bitwise_and x x ≡ x
and_itself x v = one_vector _ x refl (and_bits x.width x.number x.number v.below v.below ∙ and_self x.number)

pub or_itself : (x : BitVector) → IsBitVector x → is.bitwise_or x x ≡ x
or_itself x v = one_vector _ x refl (or_bits x.width x.number x.number v.below v.below ∙ or_self x.number)

pub number_itself : (n : ℕ) → (n == n) ≡ true
number_itself n = grind (arith, common_steps)

pub at_most_itself : (n : ℕ) → nat_le n n ≡ true
at_most_itself n = grind (arith, common_steps)

pub not_below_itself : (n : ℕ) → nat_lt n n ≡ false
not_below_itself n = grind (arith, common_steps)

pub sle_itself : (z : ℤ) → int_le z z ≡ true
sle_itself (pos n) = at_most_itself n
sle_itself (negsuc n) = at_most_itself n

pub slt_itself : (x : BitVector) → IsBitVector x → is.slt x x ≡ false
slt_itself x v = by_sign (nat_le (modulus x / 2) x.number) refl
  where
    by_sign : (a : Bool) → nat_le (modulus x / 2) x.number ≡ a → is.slt x x ≡ false
    by_sign true e = sym (slt_is x x true true v v refl e e) ∙ not_below_itself x.number
    by_sign false e = sym (slt_is x x false false v v refl e e) ∙ not_below_itself x.number

-- shifts and rotations by nothing
pub shl_nothing : (x : BitVector) → IsBitVector x → is.shl_by x 0 ≡ x
shl_nothing x v =
    let a : x.number * 1 ≡ x.number = omega arith in
    one_vector _ x refl (rw a (mod-eq_of_lt v.below))

pub lshr_nothing : (x : BitVector) → is.lshr_by x 0 ≡ x
lshr_nothing x = one_vector _ x refl (div-one x.number)

pub ashr_nothing : (x : BitVector) → IsBitVector x → is.ashr_by x 0 ≡ x
ashr_nothing x v = by_sign (nat_le (modulus x / 2) x.number) refl
  where
    by_sign : (a : Bool) → nat_le (modulus x / 2) x.number ≡ a → is.ashr_by x 0 ≡ x
    by_sign true e = sym (ashr_high x 0 v e) ∙ (ap is.bitwise_not (lshr_nothing (is.bitwise_not x)) ∙ not_not x v)
    by_sign false e = sym (ashr_low x 0 v e) ∙ lshr_nothing x

pub rotl_nothing : (x : BitVector) (n : ℕ) → IsBitVector x → n % x.width ≡ 0 → is.rotl x n ≡ x
rotl_nothing x n v z =
    let a : x.number * 2 ^ 0 ≡ x.number = omega arith in
    let b : x.number % modulus x ≡ x.number = mod-eq_of_lt v.below in
    let c : x.width - 0 ≡ x.width = omega arith in
    let d : x.number / 2 ^ x.width ≡ 0 = shifted_out x.number x.width x.width v.below (omega arith) in
    let f : x.number + 0 ≡ x.number = omega arith in
    one_vector _ x refl (rw (z, a, b, c, d) f)

pub rotr_nothing : (x : BitVector) (n : ℕ) → n % x.width ≡ 0 → is.rotr x n ≡ x
rotr_nothing x n z =
    let a : x.number % 1 ≡ 0 = mod-one x.number in
    let b : x.number / 1 ≡ x.number = div-one x.number in
    let f : x.number + 0 * 2 ^ (x.width - 0) ≡ x.number = omega arith in
    one_vector _ x refl (rw (z, a, b) f)

-- shifts past the width
pub shl_past : (x : BitVector) (n : ℕ) → x.width ≤ n → is.shl_by x n ≡ of_number x.width 0
shl_past x n h = one_vector _ _ refl (shifted_up x.number x.width n h ∙ sym (mod-eq_of_lt (pow-pos x.width)))

pub lshr_past : (x : BitVector) (n : ℕ) → IsBitVector x → x.width ≤ n → is.lshr_by x n ≡ of_number x.width 0
lshr_past x n v h = one_vector _ _ refl (shifted_out x.number x.width n v.below h ∙ sym (mod-eq_of_lt (pow-pos x.width)))

-- powers of two
pub mul_power : (x y : BitVector) (k : ℕ) → y.number ≡ 2 ^ k → is.mul x y ≡ is.shl_by x k
mul_power x y k e = rw e refl

pub udiv_power : (x y : BitVector) (k : ℕ) → y.number ≡ 2 ^ k → is.udiv x y ≡ is.lshr_by x k
udiv_power x y k e = by_test (y.number == 0) refl
  where
    by_test : (a : Bool) → (y.number == 0) ≡ a → record x { number = if y.number == 0 then 0 else x.number / y.number } ≡ is.lshr_by x k
    by_test true t = (let p : 0 < 2 ^ k = pow-pos k in let z : y.number ≡ 0 = grind (arith, common_steps) in absurd (omega arith))
    by_test false t = rw (t, e) refl

pub umod_power : (x y : BitVector) (k : ℕ) → IsBitVector x → IsBitVector y → x.width ≡ y.width → y.number ≡ 2 ^ k → is.umod x y ≡ is.bitwise_and x (of_number x.width (2 ^ k - 1))
umod_power x y k v w e p =
    let room : 2 ^ k < 2 ^ x.width = (let h : y.number < 2 ^ y.width = w.below in rw (p, ← e) at h) in
    let small : (2 ^ k - 1) % 2 ^ x.width ≡ 2 ^ k - 1 = mod-eq_of_lt (omega arith) in
    let ones : 2 ^ k - 1 < 2 ^ x.width = omega arith in
    one_vector _ _ refl (remainder (y.number == 0) refl ∙ (sym (and_mask x.number k) ∙ (sym (and_bits x.width x.number (2 ^ k - 1) v.below ones) ∙ rw small refl)))
  where
    remainder : (a : Bool) → (y.number == 0) ≡ a → (is.umod x y).number ≡ x.number % 2 ^ k
    remainder true t = (let q : 0 < 2 ^ k = pow-pos k in let z : y.number ≡ 0 = grind (arith, common_steps) in absurd (omega arith))
    remainder false t = rw (t, p) refl

-- division by 0 and 1
pub udiv_zero : (x y : BitVector) → y.number ≡ 0 → is.udiv x y ≡ of_number x.width 0
udiv_zero x y z = one_vector _ _ refl (rw z (sym (mod-eq_of_lt (pow-pos x.width))))

pub umod_zero : (x y : BitVector) → y.number ≡ 0 → is.umod x y ≡ x
umod_zero x y z = rw z refl

pub udiv_one : (x y : BitVector) → y.number ≡ 1 → is.udiv x y ≡ x
udiv_one x y z = one_vector _ x refl (rw z (div-one x.number))

pub umod_one : (x y : BitVector) → y.number ≡ 1 → is.umod x y ≡ of_number x.width 0
umod_one x y z = one_vector _ _ refl (rw z (mod-one x.number ∙ sym (mod-eq_of_lt (pow-pos x.width))))

-- the same width
pub set_width_same : (x : BitVector) → IsBitVector x → is.set_width x x.width ≡ x
set_width_same x v = one_vector _ x refl (mod-eq_of_lt v.below)

pub sign_extend_same : (x : BitVector) → IsBitVector x → is.sign_extend x x.width ≡ x
sign_extend_same x v = by_sign (nat_le (modulus x / 2) x.number) refl
  where
    by_sign : (a : Bool) → nat_le (modulus x / 2) x.number ≡ a → is.sign_extend x x.width ≡ x
    by_sign true e = sym (sign_extend_high x x.width v e) ∙ (ap is.bitwise_not (set_width_same (is.bitwise_not x) (not_fits x v)) ∙ not_not x v)
    by_sign false e = sym (sign_extend_low x x.width e) ∙ set_width_same x v

pub extract_all : (x : BitVector) → IsBitVector x → is.extract x 0 x.width ≡ x
extract_all x v = one_vector _ x refl (rw (div-one x.number) (mod-eq_of_lt v.below))
