-- The values of comparisons.
use Rattle.std.proofs.Common.{◌≡◌, ◌<◌, ◌≤◌, ◌+◌, ◌-◌, ◌*◌, ◌/◌, ◌^◌, ℕ, zero, suc, Bool, true, false, not, ◌&&◌, List, [], ◌∷◌, ◌++◌, map, take, get_or, refl, sym, ◌∙◌, ap, length, arith, nat_lt}
use Rattle.std.specs.Prelude.{◌==◌, nat_le, int_lt, int_le, ℤ}
use Rattle.std.proofs.lemmas.Grind.{common_steps}
use Rattle.std.proofs.lemmas.List.{length-map, take_more, take_all}
use Rattle.std.proofs.lemmas.List.Elements.{All-cons, All-nil, All-head, All-tail}
use Rattle.std.specs.List.{zip}
use Rattle.gate_shape.specs.Literal.{Literal, opposite}
use Rattle.gate_shape.specs.Edge.{Edge, value, constant, invert}
use Rattle.gate_shape.specs.Row.{◌>>=◌, along, differ, both}
use Rattle.bv_value.specs.Bits.{number_of, bit_number}
use Rattle.blast_logic.specs.Words.{written_number}
use Rattle.gate_shape.specs.Builds.{Meaning, edge, edges, Known, AllKnown, StandAll}
use Rattle.gate_shape.proofs.Building.{edge-opposite, known_opposite}
use Rattle.gate_shape.proofs.Values.{value-invert, both-value, differ-value, and-true, xor}
use Rattle.bv_value.proofs.Bits.{pow_more}
use Rattle.blast_logic.proofs.Numbers.{written-below}
use Rattle.bv_value.specs.BitVector.{BitVector, modulus, signed}
use Rattle.bv_value.specs.Operations as is
use Rattle.bv_value.specs.Signs.{signed_less as less_by_signs}
use Rattle.bv_value.proofs.Signs.{signed_low, signed_high}
use Rattle.blast_arith.specs.Sums.{adder}
use Rattle.blast_arith.specs.Comparisons.{equal, equal_bit, less, at_most, with_top, signed_less, signed_at_most}
use Rattle.blast_logic.specs.Words.{word}
use Rattle.blast_arith.proofs.Adding.{adder-below, borrow-value}

-- whether these bits are equal, one by one
alike : List Bool → List Bool → Bool
alike [] ys = true
alike (x ∷ xs) [] = true
alike (x ∷ xs) (y ∷ ys) = not (xor x y) && alike xs ys

and_assoc : (a b c : Bool) → (a && b) && c ≡ a && (b && c)
and_assoc true b c = refl
and_assoc false b c = refl

equal_from : (bits : ℕ → ℕ → Bool) (xs ys : List Edge) (e : Edge) → value bits (along equal_bit e (zip xs ys)).answer ≡ value bits e && alike (map (value bits) xs) (map (value bits) ys)
unfolding along ◌>>=◌ alike
equal_from bits [] ys e = sym (and-true (value bits e))
equal_from bits (x ∷ xs) [] e = sym (and-true (value bits e))
equal_from bits (x ∷ xs) (y ∷ ys) e =
    let d : Edge = (differ x y).answer in
    equal_from bits xs ys (both e (invert d)).answer
    ∙ (ap (λ z. z && alike (map (value bits) xs) (map (value bits) ys)) (both-value bits e (invert d) ∙ ap (λ z. value bits e && z) (value-invert bits d ∙ ap not (differ-value bits x y)))
    ∙ and_assoc (value bits e) (not (xor (value bits x) (value bits y))) (alike (map (value bits) xs) (map (value bits) ys)))

alike-number : (xs ys : List Bool) → length xs ≡ length ys → alike xs ys ≡ true → number_of xs ≡ number_of ys
unfolding alike
alike-number [] [] l h = refl
alike-number [] (y ∷ ys) l h = absurd (omega (arith, l))
alike-number (x ∷ xs) [] l h = absurd (omega (arith, l))
alike-number (true ∷ xs) (true ∷ ys) l h = ap (λ z. 1 + 2 * z) (alike-number xs ys (omega (arith, l)) h)
alike-number (true ∷ xs) (false ∷ ys) l h = cc
alike-number (false ∷ xs) (true ∷ ys) l h = cc
alike-number (false ∷ xs) (false ∷ ys) l h = ap (λ z. 0 + 2 * z) (alike-number xs ys (omega (arith, l)) h)

number-alike : (xs ys : List Bool) → length xs ≡ length ys → number_of xs ≡ number_of ys → alike xs ys ≡ true
unfolding alike
number-alike [] ys l h = refl
number-alike (x ∷ xs) [] l h = refl
number-alike (true ∷ xs) (true ∷ ys) l h = number-alike xs ys (omega (arith, l)) (omega (arith, h))
number-alike (true ∷ xs) (false ∷ ys) l h = absurd (omega (arith, h))
number-alike (false ∷ xs) (true ∷ ys) l h = absurd (omega (arith, h))
number-alike (false ∷ xs) (false ∷ ys) l h = number-alike xs ys (omega (arith, l)) (omega (arith, h))

-- a truth is whether two numbers are equal, where it is true exactly then
as_test : (b : Bool) (x y : ℕ) → (b ≡ true → x ≡ y) → (x ≡ y → b ≡ true) → b ≡ (x == y)
as_test true x y f g = let e = f refl in grind (arith, common_steps)
as_test false x y f g = grind (arith, common_steps, g)

pub equal-value : (bits : ℕ → ℕ → Bool) (xs ys : List Edge) → length xs ≡ length ys → value bits (equal xs ys).answer ≡ (written_number bits xs == written_number bits ys)
unfolding equal value
equal-value bits xs ys l =
    let n : length (map (value bits) xs) ≡ length (map (value bits) ys) = length-map xs (value bits) ∙ (l ∙ sym (length-map ys (value bits))) in
    equal_from bits xs ys (constant true) ∙ as_test _ _ _ (alike-number _ _ n) (number-alike _ _ n)

-- a carry comes out exactly where the second isn't greater
pub no_borrow : (b : Bool) (s p x y : ℕ) → s + p * bit_number b + y ≡ x + p → s < p → not b ≡ nat_lt x y
no_borrow true s p x y e l = grind (arith, common_steps)
no_borrow false s p x y e l = grind (arith, common_steps)

pub less-value : (bits : ℕ → ℕ → Bool) (xs ys : List Edge) → length xs ≡ length ys → value bits (less xs ys).answer ≡ is.ult (word bits xs) (word bits ys)
unfolding less ◌>>=◌
less-value bits xs ys l =
    let r = (adder xs (map invert ys) (constant true)).answer in
    value-invert bits r.1
    ∙ no_borrow (value bits r.1) (written_number bits r.0) (2 ^ length xs) (written_number bits xs) (written_number bits ys) (borrow-value bits xs ys l) (adder-below bits xs (map invert ys) (constant true) (l ∙ sym (length-map ys invert)))

not-less : (x y : ℕ) → not (nat_lt y x) ≡ nat_le x y
not-less x y = grind (arith, common_steps)

pub at_most-value : (bits : ℕ → ℕ → Bool) (xs ys : List Edge) → length ys ≡ length xs → value bits (at_most xs ys).answer ≡ is.ule (word bits xs) (word bits ys)
unfolding at_most ◌>>=◌
at_most-value bits xs ys l = value-invert bits (less ys xs).answer ∙ (ap not (less-value bits ys xs l) ∙ not-less (written_number bits xs) (written_number bits ys))

-- the last item of a list
pub with_top-push : {A : Type 0} (f : A → A) (xs : List A) (x : A) → with_top f (xs ++ x ∷ []) ≡ xs ++ f x ∷ []
unfolding with_top
with_top-push f [] x = refl
with_top-push f (y ∷ []) x = refl
with_top-push f (y ∷ z ∷ zs) x = ap (λ t. y ∷ t) (with_top-push f (z ∷ zs) x)

pub top_cut : {A : Type 0} (d : A) (xs : List A) → 1 ≤ length xs → xs ≡ take (length xs - 1) xs ++ get_or xs (length xs - 1) d ∷ []
top_cut d xs l =
    let n : length xs - 1 < length xs = omega arith in
    let m : length xs ≤ length xs - 1 + 1 = omega arith in
    sym (take_all (length xs - 1 + 1) xs m) ∙ take_more xs (length xs - 1) d n

pub edges-with_top : (m : Meaning) (ls : List Literal) → edges m (with_top opposite ls) ≡ with_top invert (edges m ls)
unfolding with_top
edges-with_top m [] = refl
edges-with_top m (l ∷ []) = ap (λ z. z ∷ []) (edge-opposite m l)
edges-with_top m (l ∷ k ∷ ks) = ap (λ z. edge m l ∷ z) (edges-with_top m (k ∷ ks))

pub length-with_top : {A : Type 0} (f : A → A) (xs : List A) → length (with_top f xs) ≡ length xs
unfolding with_top
length-with_top f [] = refl
length-with_top f (x ∷ []) = refl
length-with_top f (x ∷ y ∷ ys) = ap suc (length-with_top f (y ∷ ys))

-- a number by its sign bit and the bits below it, and the number with the sign bit turned over
pub record Signed (h x flipped : ℕ) : Type 0 where
  pub sign : Bool
  pub low : ℕ
  pub small : low < h
  pub whole : x ≡ low + h * bit_number sign
  pub turned : flipped ≡ low + h * bit_number (not sign)

pub signed_parts : (n : ℕ) (bits : ℕ → ℕ → Bool) (xs : List Edge) → length xs ≡ suc n → Signed (2 ^ n) (written_number bits xs) (written_number bits (with_top invert xs))
unfolding with_top
signed_parts n bits [] l = absurd (omega (arith, l))
signed_parts zero bits (x ∷ []) l = record { sign = value bits x; low = 0; small = omega arith; whole = omega arith; turned = rw (value-invert bits x) (omega arith) }
signed_parts (suc n) bits (x ∷ []) l = absurd (omega (arith, l))
signed_parts zero bits (x ∷ y ∷ ys) l = absurd (omega (arith, l))
signed_parts (suc n) bits (x ∷ y ∷ ys) l =
    let p = signed_parts n bits (y ∷ ys) (omega (arith, l)) in
    record {
      sign = p.sign;
      low = bit_number (value bits x) + 2 * p.low;
      small = small (value bits x) p.low (2 ^ n) (2 ^ suc n) p.small (pow_more n);
      whole = whole (bit_number (value bits x)) p.low (2 ^ n) (2 ^ suc n) (bit_number p.sign) _ p.whole (pow_more n);
      turned = whole (bit_number (value bits x)) p.low (2 ^ n) (2 ^ suc n) (bit_number (not p.sign)) _ p.turned (pow_more n);
    }
  where
    small : (b : Bool) (f h g : ℕ) → f < h → g ≡ 2 * h → bit_number b + 2 * f < g
    small true f h g l e = omega arith
    small false f h g l e = omega arith

    whole : (b f h g t x : ℕ) → x ≡ f + h * t → g ≡ 2 * h → b + 2 * x ≡ b + 2 * f + g * t
    whole b f h g t x e k = grind (arith, common_steps)

pub sign_test : (b : Bool) (f h m x : ℕ) → f < h → m ≡ 2 * h → x ≡ f + h * bit_number b → nat_le (m / 2) x ≡ b
sign_test true f h m x l k e = grind (arith, common_steps)
sign_test false f h m x l k e = grind (arith, common_steps)

-- whether a number is in the upper half is its sign
pub signed_test : (n w x f : ℕ) (p : Signed (2 ^ n) x f) → w ≡ suc n → nat_le (2 ^ w / 2) x ≡ p.sign
signed_test n w x f p e = rw e (sign_test p.sign p.low (2 ^ n) (2 ^ suc n) x p.small (pow_more n) p.whole)

signed_order : (h x y f g : ℕ) (p : Signed h x f) (q : Signed h y g) → nat_lt f g ≡ less_by_signs p.sign q.sign (nat_lt x y)
signed_order h x y f g p q = go p.sign q.sign p.low q.low p.small q.small p.whole q.whole p.turned q.turned
  where
    go : (s t : Bool) (a b : ℕ) → a < h → b < h → x ≡ a + h * bit_number s → y ≡ b + h * bit_number t → f ≡ a + h * bit_number (not s) → g ≡ b + h * bit_number (not t) → nat_lt f g ≡ less_by_signs s t (nat_lt x y)
    go true true a b la lb ex ey ef eg = grind (arith, common_steps)
    go true false a b la lb ex ey ef eg = grind (arith, common_steps)
    go false true a b la lb ex ey ef eg = grind (arith, common_steps)
    go false false a b la lb ex ey ef eg = grind (arith, common_steps)

-- the signed order of two vectors of one width, whose signs are these
pub slt_is : (x y : BitVector) (a b : Bool) → x.number < modulus x → y.number < modulus y → x.width ≡ y.width → nat_le (modulus x / 2) x.number ≡ a → nat_le (modulus y / 2) y.number ≡ b → less_by_signs a b (is.ult x y) ≡ is.slt x y
slt_is x y true true v w e p q =
    let same : 2 ^ x.width ≡ 2 ^ y.width = ap (λ n. 2 ^ n) e in
    rw (signed_high x p v, signed_high y q w) (grind (arith, common_steps))
slt_is x y true false v w e p q = rw (signed_high x p v, signed_low y q)
slt_is x y false true v w e p q = rw (signed_low x p, signed_high y q w)
slt_is x y false false v w e p q = rw (signed_low x p, signed_low y q)

pub signed_less-value : (bits : ℕ → ℕ → Bool) (xs ys : List Edge) → length xs ≡ length ys → 1 ≤ length xs → value bits (signed_less xs ys).answer ≡ is.slt (word bits xs) (word bits ys)
unfolding signed_less
signed_less-value bits xs ys l one =
    let n : ℕ = length xs - 1 in
    let ex : length xs ≡ suc n = omega arith in
    let ey : length ys ≡ suc n = omega arith in
    let p = signed_parts n bits xs ex in
    let q = signed_parts n bits ys ey in
    less-value bits (with_top invert xs) (with_top invert ys) (length-with_top invert xs ∙ (l ∙ sym (length-with_top invert ys)))
    ∙ (signed_order (2 ^ n) _ _ _ _ p q
    ∙ slt_is (word bits xs) (word bits ys) p.sign q.sign (written-below bits xs) (written-below bits ys) l (signed_test n (length xs) _ _ p ex) (signed_test n (length ys) _ _ q ey))

known_turned : (m : Meaning) (ls : List Literal) → AllKnown m ls → AllKnown m (with_top opposite ls)
unfolding with_top
known_turned m [] h = h
known_turned m (l ∷ []) h = All-cons (Known m) (opposite l) [] (known_opposite (All-head (Known m) l [] h)) (All-nil (Known m))
known_turned m (l ∷ k ∷ ks) h = All-cons (Known m) l _ (All-head (Known m) l (k ∷ ks) h) (known_turned m (k ∷ ks) (All-tail (Known m) l (k ∷ ks) h))

-- a list of literals with the sign of the last turned over
pub stand_turned : {m : Meaning} (ls : List Literal) {more : List Literal} → more ≡ with_top opposite ls → AllKnown m ls → StandAll m more (with_top invert (edges m ls))
stand_turned {m} ls q h = rw q record { known = known_turned m ls h; stand_for = edges-with_top m ls }

pub signed_at_most-value : (bits : ℕ → ℕ → Bool) (xs ys : List Edge) → length ys ≡ length xs → 1 ≤ length ys → value bits (signed_at_most xs ys).answer ≡ is.sle (word bits xs) (word bits ys)
unfolding signed_at_most ◌>>=◌
signed_at_most-value bits xs ys l one = value-invert bits (signed_less ys xs).answer ∙ (ap not (signed_less-value bits ys xs l one) ∙ not-int_lt (signed (word bits xs)) (signed (word bits ys)))
  where
    not-int_lt : (x y : ℤ) → not (int_lt y x) ≡ int_le x y
    not-int_lt x y = grind (arith, common_steps)
