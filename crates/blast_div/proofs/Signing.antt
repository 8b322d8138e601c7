-- The values of the rows of signed division.
use Rattle.std.proofs.Common.{◌≡◌, ℕ, suc, ◌-◌, ◌*◌, ◌/◌, ◌^◌, ◌≤◌, ◌<◌, Bool, false, not, ◌&&◌, List, take, get_or, nat_eq, refl, sym, ◌∙◌, ap, length, arith, if◌then◌else◌}
use Rattle.std.specs.Prelude.{nat_le}
use Rattle.std.proofs.lemmas.List.{length-map, length-take-le, get_or-map}
use Rattle.gate_shape.specs.Literal.{Literal}
use Rattle.gate_shape.specs.Edge.{Edge, value, constant, invert}
use Rattle.gate_shape.specs.Row.{◌>>=◌, both, differ}
use Rattle.blast_logic.specs.Words.{written_number}
use Rattle.gate_shape.specs.Builds.{Meaning, Stands, AllKnown, edge, edges}
use Rattle.gate_shape.proofs.Building.{known_item}
use Rattle.bv_value.proofs.Bits.{pow_more}
use Rattle.blast_logic.proofs.Numbers.{written-below}
use Rattle.gate_shape.proofs.Values.{both-value, value-invert}
use Rattle.bv_value.specs.Bits.{differ as differ_bits}
use Rattle.blast_logic.proofs.Meanings.{differ_bits-value}
use Rattle.bv_value.specs.BitVector.{BitVector}
use Rattle.bv_value.specs.Operations as is
use Rattle.blast_arith.specs.Sums.{adder, negative}
use Rattle.blast_logic.specs.Words.{word}
use Rattle.blast_arith.proofs.Adding.{adder-length, adder-word, negative-length, negative-word, written-push}
use Rattle.blast_arith.proofs.Comparing.{sign_test, top_cut}
use Rattle.blast_logic.proofs.Picking.{chosen-length, chosen-word}
use Rattle.blast_div.specs.Division.{quotient, zero_test}
use Rattle.blast_logic.specs.Words.{top_bit}
use Rattle.blast_div.specs.Signed.{negated_where, magnitude, signed_quotient, magnitude_remainder, signed_remainder, signed_modulus}
use Rattle.blast_div.proofs.Zeros.{quotient-word, remainder-word, zero_test-value}
use Rattle.bv_value.proofs.Magnitudes.{HasSign, magnitude_of, magnitude_is, quotient_by_signs, remainder_by_sign, turned, modulus_by_signs}

-- the literal at the top stands for the sign
pub stands_sign : {m : Meaning} (xs : List Literal) {i : ℕ} {l : Literal} → AllKnown m xs → i < length xs → i ≡ length xs - 1 → l ≡ get_or xs i l → Stands m l (top_bit (edges m xs))
stands_sign {m} xs {i} {l} h b n e =
    let top : length (edges m xs) - 1 ≡ i = (let k = length-map xs (edge m) in omega (arith, k)) in
    let same : get_or (edges m xs) i (constant false) ≡ edge m l = get_or-map (edge m) xs i l (constant false) b ∙ ap (edge m) (sym e) in
    record { known = known_item xs h b e; stands_for = sym (ap (λ k. get_or (edges m xs) k (constant false)) top ∙ same) }

-- the top bit is set exactly where the number is in the upper half
pub top_bit-value : (bits : ℕ → ℕ → Bool) (xs : List Edge) → 1 ≤ length xs → value bits (top_bit xs) ≡ nat_le (2 ^ length xs / 2) (written_number bits xs)
top_bit-value bits xs one =
    let n : ℕ = length xs - 1 in
    let long : length (take n xs) ≡ n = length-take-le n xs (omega arith) in
    let small = rw long at (written-below bits (take n xs)) in
    let whole = rw long at (written-push bits (take n xs) (top_bit xs)) in
    let number = ap (written_number bits) (top_cut (constant false) xs one) ∙ whole in
    let double : 2 ^ length xs ≡ 2 * 2 ^ n = (let e : length xs ≡ suc n = omega arith in ap (λ k. 2 ^ k) e ∙ pow_more n) in
    sym (sign_test (value bits (top_bit xs)) (written_number bits (take n xs)) (2 ^ n) (2 ^ length xs) (written_number bits xs) small double number)

pub has_sign : (bits : ℕ → ℕ → Bool) (xs : List Edge) → 1 ≤ length xs → HasSign (word bits xs) (value bits (top_bit xs))
has_sign bits xs one = record { positive = one; below = written-below bits xs; sign = sym (top_bit-value bits xs one) }

pub negated_where-length : (c : Edge) (xs : List Edge) → length (negated_where c xs).answer ≡ length xs
unfolding negated_where ◌>>=◌
negated_where-length c xs = chosen-length c (negative xs).answer xs (negative-length xs) ∙ negative-length xs

negated_where-word : (bits : ℕ → ℕ → Bool) (c : Edge) (xs : List Edge) → word bits (negated_where c xs).answer ≡ (if value bits c then is.neg (word bits xs) else word bits xs)
unfolding negated_where ◌>>=◌
negated_where-word bits c xs = chosen-word bits c (negative xs).answer xs (negative-length xs) ∙ ap (λ z. if value bits c then z else word bits xs) (negative-word bits xs)

pub magnitude-length : (xs : List Edge) → length (magnitude xs).answer ≡ length xs
unfolding magnitude
magnitude-length xs = negated_where-length (top_bit xs) xs

magnitude-word : (bits : ℕ → ℕ → Bool) (xs : List Edge) → 1 ≤ length xs → word bits (magnitude xs).answer ≡ magnitude_of (word bits xs)
unfolding magnitude
magnitude-word bits xs one = negated_where-word bits (top_bit xs) xs ∙ magnitude_is (word bits xs) (value bits (top_bit xs)) (has_sign bits xs one)

magnitude-lengths : (xs ys : List Edge) → length xs ≡ length ys → length (magnitude xs).answer ≡ length (magnitude ys).answer
magnitude-lengths xs ys l = magnitude-length xs ∙ (l ∙ sym (magnitude-length ys))

-- an operator on the magnitudes
on_magnitudes : (f : BitVector → BitVector → BitVector) (bits : ℕ → ℕ → Bool) (xs ys : List Edge) → length xs ≡ length ys → 1 ≤ length xs → f (word bits (magnitude xs).answer) (word bits (magnitude ys).answer) ≡ f (magnitude_of (word bits xs)) (magnitude_of (word bits ys))
on_magnitudes f bits xs ys l one = ap (λ z. f z (word bits (magnitude ys).answer)) (magnitude-word bits xs one) ∙ ap (f (magnitude_of (word bits xs))) (magnitude-word bits ys (omega arith))

pub signed_quotient-word : (bits : ℕ → ℕ → Bool) (xs ys : List Edge) → length xs ≡ length ys → 1 ≤ length xs → word bits (signed_quotient xs ys).answer ≡ is.sdiv (word bits xs) (word bits ys)
unfolding signed_quotient ◌>>=◌
signed_quotient-word bits xs ys l one =
    let some : 1 ≤ length ys = omega arith in
    let q = quotient-word bits (magnitude xs).answer (magnitude ys).answer (magnitude-lengths xs ys l) ∙ on_magnitudes is.udiv bits xs ys l one in
    let u : BitVector = is.udiv (magnitude_of (word bits xs)) (magnitude_of (word bits ys)) in
    negated_where-word bits (differ (top_bit xs) (top_bit ys)).answer (quotient (magnitude xs).answer (magnitude ys).answer).answer
    ∙ (ap (λ z. if value bits (differ (top_bit xs) (top_bit ys)).answer then is.neg z else z) q
    ∙ (ap (λ t. if t then is.neg u else u) (differ_bits-value bits (top_bit xs) (top_bit ys))
    ∙ quotient_by_signs (word bits xs) (word bits ys) (value bits (top_bit xs)) (value bits (top_bit ys)) (has_sign bits xs one) (has_sign bits ys some)))

magnitude_remainder-word : (bits : ℕ → ℕ → Bool) (xs ys : List Edge) → length xs ≡ length ys → 1 ≤ length xs → word bits (magnitude_remainder xs ys).answer ≡ is.umod (magnitude_of (word bits xs)) (magnitude_of (word bits ys))
unfolding magnitude_remainder ◌>>=◌
magnitude_remainder-word bits xs ys l one = remainder-word bits (magnitude xs).answer (magnitude ys).answer (magnitude-lengths xs ys l) ∙ on_magnitudes is.umod bits xs ys l one

pub magnitude_remainder-length : (xs ys : List Edge) → length xs ≡ length ys → length (magnitude_remainder xs ys).answer ≡ length xs
unfolding magnitude_remainder ◌>>=◌
magnitude_remainder-length xs ys l = ap (λ w. w.width) (remainder-word (λ k j. false) (magnitude xs).answer (magnitude ys).answer (magnitude-lengths xs ys l)) ∙ magnitude-length xs

pub signed_remainder-word : (bits : ℕ → ℕ → Bool) (xs ys : List Edge) → length xs ≡ length ys → 1 ≤ length xs → word bits (signed_remainder xs ys).answer ≡ is.srem (word bits xs) (word bits ys)
unfolding signed_remainder ◌>>=◌
signed_remainder-word bits xs ys l one =
    let some : 1 ≤ length ys = omega arith in
    negated_where-word bits (top_bit xs) (magnitude_remainder xs ys).answer
    ∙ (ap (λ z. if value bits (top_bit xs) then is.neg z else z) (magnitude_remainder-word bits xs ys l one)
    ∙ remainder_by_sign (word bits xs) (word bits ys) (value bits (top_bit xs)) (value bits (top_bit ys)) (has_sign bits xs one) (has_sign bits ys some))

pub signed_modulus-word : (bits : ℕ → ℕ → Bool) (xs ys : List Edge) → length xs ≡ length ys → 1 ≤ length xs → word bits (signed_modulus xs ys).answer ≡ is.smod (word bits xs) (word bits ys)
unfolding signed_modulus ◌>>=◌ value
signed_modulus-word bits xs ys l one =
    let some : 1 ≤ length ys = omega arith in
    let us : List Edge = (magnitude_remainder xs ys).answer in
    let vs : List Edge = (negated_where (top_bit xs) us).answer in
    let e : Edge = (zero_test us).answer in
    let d : Edge = (differ (top_bit xs) (top_bit ys)).answer in
    let k : Edge = (both d (invert e)).answer in
    let long : length vs ≡ length xs = negated_where-length (top_bit xs) us ∙ magnitude_remainder-length xs ys l in
    let sums : List Edge = (adder vs ys (constant false)).answer.0 in
    let test : value bits k ≡ differ_bits (value bits (top_bit xs)) (value bits (top_bit ys)) && not (nat_eq (written_number bits us) 0) =
    both-value bits d (invert e) ∙ (ap (λ t. t && value bits (invert e)) (differ_bits-value bits (top_bit xs) (top_bit ys)) ∙ ap (λ t. differ_bits (value bits (top_bit xs)) (value bits (top_bit ys)) && t) (value-invert bits e ∙ ap not (zero_test-value bits us))) in
    chosen-word bits k sums vs (adder-length vs ys (constant false) (long ∙ l))
    ∙ (ap (λ t. if t then word bits sums else word bits vs) test
    ∙ (ap (λ z. if differ_bits (value bits (top_bit xs)) (value bits (top_bit ys)) && not (nat_eq (written_number bits us) 0) then z else word bits vs) (adder-word bits vs ys (constant false) (long ∙ l) refl)
    ∙ (ap (λ v. if differ_bits (value bits (top_bit xs)) (value bits (top_bit ys)) && not (nat_eq (written_number bits us) 0) then is.add v (word bits ys) else v) (negated_where-word bits (top_bit xs) us)
    ∙ (ap (turned (value bits (top_bit xs)) (value bits (top_bit ys)) (word bits ys)) (magnitude_remainder-word bits xs ys l one)
    ∙ modulus_by_signs (word bits xs) (word bits ys) (value bits (top_bit xs)) (value bits (top_bit ys)) l (has_sign bits xs one) (has_sign bits ys some)))))
