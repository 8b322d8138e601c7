-- The numbers that lists of bits write: parts of a list, its bits turned over, and sums.
use Rattle.std.proofs.Common.{◌≡◌, ◌<◌, ◌≤◌, ◌+◌, ◌*◌, ◌/◌, ◌%◌, ◌^◌, ℕ, zero, suc, Bool, true, false, not, ◌&&◌, List, [], ◌∷◌, ◌++◌, map, take, drop, replicate, refl, sym, ◌∙◌, ap, length, arith, zero-add}
use Rattle.std.proofs.lemmas.Grind.{common_steps}
use Rattle.std.proofs.Math.Nat.{add-mul-mod_self_left, mod-eq_of_lt, add-mul-div_left, div-eq_of_lt}
use Rattle.std.proofs.lemmas.List.{take-append-drop, length-take-le, length-map, map-append}
use Rattle.gate_shape.specs.Edge.{Edge, constant, invert, value}
use Rattle.bv_value.proofs.Bits.{pow_more}
use Rattle.bv_value.specs.Bits.{number_of, bit_number}
use Rattle.blast_logic.specs.Words.{written_number}
use Rattle.gate_shape.proofs.Values.{value-invert, both-value}
use Rattle.gate_shape.specs.Row.{both}

-- one list behind another
pub number-append : (xs ys : List Bool) → number_of (xs ++ ys) ≡ number_of xs + 2 ^ length xs * number_of ys
number-append [] ys = omega arith
number-append (x ∷ xs) ys = step (number_of (xs ++ ys)) (number_of xs) (number_of ys) (2 ^ length xs) (2 ^ suc (length xs)) (number-append xs ys) (pow_more (length xs))
  where
    step : (a n m p q : ℕ) → a ≡ n + p * m → q ≡ 2 * p → bit_number x + 2 * a ≡ bit_number x + 2 * n + q * m
    step a n m p q e f = grind (arith, common_steps)

pub number-push : (xs : List Bool) (b : Bool) → number_of (xs ++ b ∷ []) ≡ number_of xs + 2 ^ length xs * bit_number b
number-push xs b = number-append xs (b ∷ []) ∙ ap (λ z. number_of xs + 2 ^ length xs * z) (last b)
  where
    last : (b : Bool) → bit_number b + 2 * 0 ≡ bit_number b
    last b = omega arith

pub number-below : (xs : List Bool) → number_of xs < 2 ^ length xs
number-below [] = omega arith
number-below (true ∷ xs) = let h = number-below xs in omega (arith, pow_more (length xs))
number-below (false ∷ xs) = let h = number-below xs in omega (arith, pow_more (length xs))

-- each bit turned over
pub number-not : (xs : List Bool) → number_of (map not xs) + number_of xs + 1 ≡ 2 ^ length xs
number-not [] = omega arith
number-not (true ∷ xs) = let h = number-not xs in omega (arith, pow_more (length xs))
number-not (false ∷ xs) = let h = number-not xs in omega (arith, pow_more (length xs))

pub number-zeros : (n : ℕ) → number_of (replicate n false) ≡ 0
number-zeros zero = refl
number-zeros (suc n) = let h = number-zeros n in omega arith

-- the bits below place k, and those from k on
pub number-cut : (k : ℕ) (xs : List Bool) → k ≤ length xs → number_of xs ≡ number_of (take k xs) + 2 ^ k * number_of (drop k xs)
number-cut k xs l =
    let e = number-append (take k xs) (drop k xs) in
    rw (take-append-drop k xs, length-take-le k xs l) at e

low : (p a d : ℕ) → a < p → (a + p * d) % p ≡ a
low p a d h = add-mul-mod_self_left a p d ∙ mod-eq_of_lt h

high : (p a d : ℕ) → a < p → (a + p * d) / p ≡ d
high p a d h = add-mul-div_left a d (omega arith) ∙ (ap (λ z. z + d) (div-eq_of_lt h) ∙ zero-add d)

pub number-take : (k : ℕ) (xs : List Bool) → k ≤ length xs → number_of (take k xs) ≡ number_of xs % 2 ^ k
number-take k xs l =
    let b : number_of (take k xs) < 2 ^ length (take k xs) = number-below (take k xs) in
    let b2 = rw (length-take-le k xs l) at b in
    sym (rw (number-cut k xs l) (low (2 ^ k) (number_of (take k xs)) (number_of (drop k xs)) b2))

pub number-drop : (k : ℕ) (xs : List Bool) → k ≤ length xs → number_of (drop k xs) ≡ number_of xs / 2 ^ k
number-drop k xs l =
    let b : number_of (take k xs) < 2 ^ length (take k xs) = number-below (take k xs) in
    let b2 = rw (length-take-le k xs l) at b in
    sym (rw (number-cut k xs l) (high (2 ^ k) (number_of (take k xs)) (number_of (drop k xs)) b2))

-- a bit before all bits: the bits, or zeros
pub number-masked : (b : Bool) (xs : List Bool) → number_of (map (λ x. b && x) xs) ≡ bit_number b * number_of xs
number-masked b [] = grind (arith, common_steps)
number-masked true (x ∷ xs) = let h = number-masked true xs in omega arith
number-masked false (x ∷ xs) = let h = number-masked false xs in omega arith

-- what is left below a power, where a number is given with a multiple of it
pub rest_is : (s p k t : ℕ) → s < p → s + p * k ≡ t → s ≡ t % p
rest_is s p k t l e = rw (sym e) (sym (low p s k l))

-- the same of edges
values-invert : (bits : ℕ → ℕ → Bool) (es : List Edge) → map (value bits) (map invert es) ≡ map not (map (value bits) es)
values-invert bits [] = refl
values-invert bits (e ∷ es) = rw (value-invert bits e, values-invert bits es) refl

values-replicate : (bits : ℕ → ℕ → Bool) (n : ℕ) (e : Edge) → map (value bits) (replicate n e) ≡ replicate n (value bits e)
values-replicate bits zero e = refl
values-replicate bits (suc n) e = ap (λ z. value bits e ∷ z) (values-replicate bits n e)

pub written-below : (bits : ℕ → ℕ → Bool) (es : List Edge) → written_number bits es < 2 ^ length es
written-below bits es = rw length-map at (number-below (map (value bits) es))

pub written-inverts : (bits : ℕ → ℕ → Bool) (es : List Edge) → written_number bits (map invert es) + written_number bits es + 1 ≡ 2 ^ length es
written-inverts bits es = rw (values-invert bits es) (number-not (map (value bits) es) ∙ ap (λ n. 2 ^ n) (length-map es (value bits)))

pub written-falses : (bits : ℕ → ℕ → Bool) (n : ℕ) → written_number bits (replicate n (constant false)) ≡ 0
unfolding value
written-falses bits n = rw (values-replicate bits n (constant false)) (number-zeros n)

pub written-append : (bits : ℕ → ℕ → Bool) (xs ys : List Edge) → written_number bits (xs ++ ys) ≡ written_number bits xs + 2 ^ length xs * written_number bits ys
written-append bits xs ys = rw (map-append (value bits) xs ys) (number-append (map (value bits) xs) (map (value bits) ys) ∙ ap (λ n. number_of (map (value bits) xs) + 2 ^ n * number_of (map (value bits) ys)) (length-map xs (value bits)))

pub written-cut : (bits : ℕ → ℕ → Bool) (k : ℕ) (xs : List Edge) → k ≤ length xs → written_number bits xs ≡ written_number bits (take k xs) + 2 ^ k * written_number bits (drop k xs)
written-cut bits k xs l =
    let e = written-append bits (take k xs) (drop k xs) in
    rw (take-append-drop k xs, length-take-le k xs l) at e

pub written-take : (bits : ℕ → ℕ → Bool) (k : ℕ) (xs : List Edge) → k ≤ length xs → written_number bits (take k xs) ≡ written_number bits xs % 2 ^ k
written-take bits k xs l =
    let b = written-below bits (take k xs) in
    let b2 = rw (length-take-le k xs l) at b in
    rest_is _ (2 ^ k) (written_number bits (drop k xs)) _ b2 (sym (written-cut bits k xs l))

-- the bits of a list, each with one bit
pub written-masked : (bits : ℕ → ℕ → Bool) (y : Edge) (xs : List Edge) → written_number bits (map (λ x. (both y x).answer) xs) ≡ bit_number (value bits y) * written_number bits xs
written-masked bits y xs = ap number_of (go xs) ∙ number-masked (value bits y) (map (value bits) xs)
  where
    go : (xs : List Edge) → map (value bits) (map (λ x. (both y x).answer) xs) ≡ map (λ v. value bits y && v) (map (value bits) xs)
    go [] = refl
    go (x ∷ xs) = rw (both-value bits y x, go xs) refl
