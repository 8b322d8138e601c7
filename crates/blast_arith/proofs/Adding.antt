-- The values of sums, of differences and of negated numbers.
use Rattle.std.proofs.Common.{◌≡◌, ◌<◌, ◌+◌, ◌-◌, ◌*◌, ◌%◌, ◌^◌, ℕ, suc, Bool, true, false, ◌&&◌, ◌||◌, List, [], ◌∷◌, ◌++◌, map, replicate, refl, sym, ◌∙◌, ap, length, arith, zero-add, add-one}
use Rattle.std.proofs.lemmas.Grind.{common_steps}
use Rattle.std.proofs.lemmas.List.{map-append, length-append, length-map, length-replicate}
use Rattle.std.specs.List.{zip}
use Rattle.gate_shape.specs.Edge.{Edge, value, constant, invert}
use Rattle.gate_shape.specs.Row.{◌>>=◌, along, both, differ, full_adder}
use Rattle.bv_value.specs.Bits.{bit_number}
use Rattle.blast_logic.specs.Words.{written_number}
use Rattle.gate_shape.proofs.Values.{xor, both-value, either-value, differ-value}
use Rattle.bv_value.proofs.Bits.{pow_more}
use Rattle.blast_logic.proofs.Numbers.{number-push, rest_is, written-below, written-inverts, written-falses}
use Rattle.bv_value.specs.Operations as is
use Rattle.blast_arith.specs.Sums.{adder, add_bit, difference, negative}
use Rattle.blast_logic.specs.Words.{word}

-- twice the carry and the sum are the number of bits that are true
pub full_adder-value : (bits : ℕ → ℕ → Bool) (a b c : Edge) → bit_number (value bits (full_adder a b c).answer.0) + 2 * bit_number (value bits (full_adder a b c).answer.1) ≡ bit_number (value bits a) + bit_number (value bits b) + bit_number (value bits c)
unfolding full_adder ◌>>=◌
full_adder-value bits a b c =
    rw (differ-value bits (differ a b).answer c, either-value bits (both a b).answer (both (differ a b).answer c).answer, both-value bits a b, both-value bits (differ a b).answer c, differ-value bits a b)
    (go (value bits a) (value bits b) (value bits c))
  where
    go : (x y z : Bool) → bit_number (xor (xor x y) z) + 2 * bit_number ((x && y) || (xor x y && z)) ≡ bit_number x + bit_number y + bit_number z
    go true true true = refl
    go true true false = refl
    go true false true = refl
    go true false false = refl
    go false true true = refl
    go false true false = refl
    go false false true = refl
    go false false false = refl

one_bit : (A W T N P X Y k s x y z : ℕ) → A + T ≡ W + 2 * P * (X + Y + k) → W ≡ N + P * s → s + 2 * k ≡ x + y + z → A + T ≡ N + P * (x + 2 * X + (y + 2 * Y) + z)
one_bit A W T N P X Y k s x y z a w e = let f : P * (s + 2 * k) ≡ P * (x + y + z) = ap (λ v. P * v) e in omega (arith, f)

pub written-push : (bits : ℕ → ℕ → Bool) (es : List Edge) (e : Edge) → written_number bits (es ++ e ∷ []) ≡ written_number bits es + 2 ^ length es * bit_number (value bits e)
written-push bits es e = rw (map-append (value bits) es (e ∷ [])) (number-push (map (value bits) es) (value bits e) ∙ rw length-map refl)

adds_from : (bits : ℕ → ℕ → Bool) (xs ys : List Edge) (sums : List Edge) (c : Edge) → length xs ≡ length ys → written_number bits (along add_bit (sums, c) (zip xs ys)).answer.0 + 2 ^ (length sums + length xs) * bit_number (value bits (along add_bit (sums, c) (zip xs ys)).answer.1) ≡ written_number bits sums + 2 ^ length sums * (written_number bits xs + written_number bits ys + bit_number (value bits c))
unfolding along ◌>>=◌
adds_from bits [] [] sums c l = grind (arith, common_steps)
adds_from bits [] (y ∷ ys) sums c l = absurd (omega (arith, l))
adds_from bits (x ∷ xs) [] sums c l = absurd (omega (arith, l))
adds_from bits (x ∷ xs) (y ∷ ys) sums c l =
    let f : Edge × Edge = (full_adder x y c).answer in
    let more : List Edge = sums ++ f.0 ∷ [] in
    let ih = adds_from bits xs ys more f.1 (omega (arith, l)) in
    let n : length more ≡ length sums + 1 = length-append sums (f.0 ∷ []) in
    let power : 2 ^ (length sums + 1) ≡ 2 * 2 ^ length sums = rw add-one (pow_more (length sums)) in
    let ih2 = rw (n, power) at ih in
    let deep : length sums + 1 + length xs ≡ length sums + suc (length xs) = omega arith in
    rw (← deep)
    (one_bit _ _ _ _ (2 ^ length sums) _ _ _ _ _ _ _ ih2 (written-push bits sums f.0) (full_adder-value bits x y c))

pub adder-value : (bits : ℕ → ℕ → Bool) (xs ys : List Edge) (c : Edge) → length xs ≡ length ys → written_number bits (adder xs ys c).answer.0 + 2 ^ length xs * bit_number (value bits (adder xs ys c).answer.1) ≡ written_number bits xs + written_number bits ys + bit_number (value bits c)
unfolding adder
adder-value bits xs ys c l = let h = adds_from bits xs ys [] c l in rw (zero-add (length xs)) at h ∙ omega arith

adds_length : (xs ys sums : List Edge) (c : Edge) → length xs ≡ length ys → length (along add_bit (sums, c) (zip xs ys)).answer.0 ≡ length sums + length xs
unfolding along ◌>>=◌
adds_length [] ys sums c l = omega arith
adds_length (x ∷ xs) [] sums c l = absurd (omega (arith, l))
adds_length (x ∷ xs) (y ∷ ys) sums c l =
    let f : Edge × Edge = (full_adder x y c).answer in
    let ih = adds_length xs ys (sums ++ f.0 ∷ []) f.1 (omega (arith, l)) in
    let n : length (sums ++ f.0 ∷ []) ≡ length sums + 1 = length-append sums (f.0 ∷ []) in
    ih ∙ omega arith

pub adder-length : (xs ys : List Edge) (c : Edge) → length xs ≡ length ys → length (adder xs ys c).answer.0 ≡ length xs
unfolding adder
adder-length xs ys c l = adds_length xs ys [] c l ∙ omega arith

-- the number of the sums is below 2 to the width
pub adder-below : (bits : ℕ → ℕ → Bool) (xs ys : List Edge) (c : Edge) → length xs ≡ length ys → written_number bits (adder xs ys c).answer.0 < 2 ^ length xs
adder-below bits xs ys c l = let b = written-below bits (adder xs ys c).answer.0 in rw (adder-length xs ys c l) at b

-- with no carry in, the sums are the sum of the two vectors
pub adder-word : (bits : ℕ → ℕ → Bool) (xs ys : List Edge) (c : Edge) → length xs ≡ length ys → value bits c ≡ false → word bits (adder xs ys c).answer.0 ≡ is.add (word bits xs) (word bits ys)
adder-word bits xs ys c l none =
    let s = adder-value bits xs ys c l in
    let s2 = rw none at s in
    let e = rest_is _ (2 ^ length xs) (bit_number (value bits (adder xs ys c).answer.1)) (written_number bits xs + written_number bits ys) (adder-below bits xs ys c l) (omega (arith, s2)) in
    rw (adder-length xs ys c l, e) refl

pub difference-length : (xs ys : List Edge) → length xs ≡ length ys → length (difference xs ys).answer ≡ length xs
unfolding difference ◌>>=◌
difference-length xs ys l = adder-length xs (map invert ys) (constant true) (l ∙ sym (length-map ys invert))

-- the sum of a number, another's negated bits and one
pub borrow-value : (bits : ℕ → ℕ → Bool) (xs ys : List Edge) → length xs ≡ length ys → written_number bits (adder xs (map invert ys) (constant true)).answer.0 + 2 ^ length xs * bit_number (value bits (adder xs (map invert ys) (constant true)).answer.1) + written_number bits ys ≡ written_number bits xs + 2 ^ length xs
unfolding value
borrow-value bits xs ys l =
    let s = adder-value bits xs (map invert ys) (constant true) (l ∙ sym (length-map ys invert)) in
    let n = written-inverts bits ys in
    let m = rw (← l) at n in
    omega (arith, s, m)

pub difference-value : (bits : ℕ → ℕ → Bool) (xs ys : List Edge) → length xs ≡ length ys → written_number bits (difference xs ys).answer ≡ (written_number bits xs + 2 ^ length xs - written_number bits ys) % 2 ^ length xs
unfolding difference ◌>>=◌
difference-value bits xs ys l =
    rest_is _ (2 ^ length xs) (bit_number (value bits (adder xs (map invert ys) (constant true)).answer.1)) _
    (adder-below bits xs (map invert ys) (constant true) (l ∙ sym (length-map ys invert)))
    (let e = borrow-value bits xs ys l in omega (arith, e))

pub difference-word : (bits : ℕ → ℕ → Bool) (xs ys : List Edge) → length xs ≡ length ys → word bits (difference xs ys).answer ≡ is.sub (word bits xs) (word bits ys)
difference-word bits xs ys l = rw (difference-length xs ys l, difference-value bits xs ys l) refl

negative-lengths : (xs : List Edge) → length (map invert xs) ≡ length (replicate (length xs) (constant false))
negative-lengths xs = length-map xs invert ∙ sym (length-replicate (length xs) (constant false))

pub negative-length : (xs : List Edge) → length (negative xs).answer ≡ length xs
unfolding negative ◌>>=◌
negative-length xs = adder-length (map invert xs) (replicate (length xs) (constant false)) (constant true) (negative-lengths xs) ∙ length-map xs invert

pub negative-value : (bits : ℕ → ℕ → Bool) (xs : List Edge) → written_number bits (negative xs).answer ≡ (2 ^ length xs - written_number bits xs) % 2 ^ length xs
unfolding negative ◌>>=◌ value
negative-value bits xs =
    let r = (adder (map invert xs) (replicate (length xs) (constant false)) (constant true)).answer in
    let s = adder-value bits (map invert xs) (replicate (length xs) (constant false)) (constant true) (negative-lengths xs) in
    let b = adder-below bits (map invert xs) (replicate (length xs) (constant false)) (constant true) (negative-lengths xs) in
    let s2 = rw (length-map xs invert, written-falses bits (length xs)) at s in
    let b2 = rw (length-map xs invert) at b in
    rest_is _ (2 ^ length xs) (bit_number (value bits r.1)) _ b2 (let n = written-inverts bits xs in omega (arith, s2, n))

pub negative-word : (bits : ℕ → ℕ → Bool) (xs : List Edge) → word bits (negative xs).answer ≡ is.neg (word bits xs)
negative-word bits xs = rw (negative-length xs, negative-value bits xs) refl
