-- The choice for the divisor 0.
use Rattle.std.proofs.Common.{◌≡◌, ◌<◌, ◌+◌, ◌*◌, ◌/◌, ◌%◌, ℕ, Bool, true, false, not, ◌&&◌, List, [], ◌∷◌, ◌++◌, map, replicate, reverse, refl, sym, ◌∙◌, ap, length, arith, nat_eq, if◌then◌else◌}
use Rattle.std.proofs.lemmas.Grind.{common_steps}
use Rattle.std.proofs.lemmas.List.{length-append, length-map, length-replicate, length-reverse}
use Rattle.gate_shape.specs.Edge.{Edge, value, constant, invert}
use Rattle.gate_shape.specs.Row.{◌>>=◌, along, both}
use Rattle.bv_value.specs.Bits.{bit_number}
use Rattle.blast_logic.specs.Words.{written_number}
use Rattle.gate_shape.proofs.Values.{both-value, value-invert}
use Rattle.gate_shape.proofs.Looping.{each_onto-answer}
use Rattle.blast_logic.proofs.Numbers.{written-masked}
use Rattle.bv_value.specs.Operations as is
use Rattle.blast_logic.specs.Words.{word}
use Rattle.blast_logic.proofs.Picking.{chosen-length, chosen-value}
use Rattle.blast_div.specs.Division.{negated_divisor, divide_step, divide_bit, division, zero_bit, zero_test, remainder, quotient}
use Rattle.blast_div.proofs.Dividing.{step-length, division-value}

zero_step : (a v : Bool) (n : ℕ) → (a && not v) && nat_eq n 0 ≡ a && nat_eq (bit_number v + 2 * n) 0
zero_step true true n = grind (arith, common_steps)
zero_step true false n = grind (arith, common_steps)
zero_step false v n = refl

zeros_from : (bits : ℕ → ℕ → Bool) (ys : List Edge) (e : Edge) → value bits (along zero_bit e ys).answer ≡ value bits e && nat_eq (written_number bits ys) 0
unfolding along ◌>>=◌
zeros_from bits [] e = grind (arith, common_steps)
zeros_from bits (y ∷ ys) e = zeros_from bits ys (both e (invert y)).answer ∙ (ap (λ z. z && nat_eq (written_number bits ys) 0) (both-value bits e (invert y) ∙ ap (λ z. value bits e && z) (value-invert bits y)) ∙ zero_step (value bits e) (value bits y) (written_number bits ys))

pub zero_test-value : (bits : ℕ → ℕ → Bool) (ys : List Edge) → value bits (zero_test ys).answer ≡ nat_eq (written_number bits ys) 0
unfolding zero_test value
zero_test-value bits ys = zeros_from bits ys (constant true)

negated_divisor-length : (ys : List Edge) → length (negated_divisor ys) ≡ length ys + 1
negated_divisor-length ys = length-map (ys ++ constant false ∷ []) invert ∙ length-append ys (constant false ∷ [])

steps-length : (ns zs qs rest : List Edge) → length ns ≡ length rest + 1 → length (along (divide_bit ns) (qs, rest) zs).answer.1 ≡ length rest
unfolding along ◌>>=◌
steps-length ns [] qs rest l = refl
steps-length ns (z ∷ zs) qs rest l =
    let n = step-length ns rest z l in
    steps-length ns zs ((divide_step ns rest z).answer.0 ∷ qs) (divide_step ns rest z).answer.1 (omega (arith, n)) ∙ n

pub division-length : (xs ys : List Edge) → length xs ≡ length ys → length (division xs ys).answer.1 ≡ length xs
unfolding division
division-length xs ys l =
    let z : length (replicate (length xs) (constant false)) ≡ length xs = length-replicate (length xs) (constant false) in
    let n = negated_divisor-length ys in
    steps-length (negated_divisor ys) (reverse xs) [] (replicate (length xs) (constant false)) (omega (arith, z, n)) ∙ z

steps-bits : (ns zs qs rest : List Edge) → length (along (divide_bit ns) (qs, rest) zs).answer.0 ≡ length qs + length zs
unfolding along ◌>>=◌
steps-bits ns [] qs rest = omega arith
steps-bits ns (z ∷ zs) qs rest = steps-bits ns zs ((divide_step ns rest z).answer.0 ∷ qs) (divide_step ns rest z).answer.1 ∙ omega arith

pub division-bits : (xs ys : List Edge) → length (division xs ys).answer.0 ≡ length xs
unfolding division
division-bits xs ys = steps-bits (negated_divisor ys) (reverse xs) [] (replicate (length xs) (constant false)) ∙ (let n = length-reverse xs in omega (arith, n))

-- where the divisor isn't 0, the two lists are quotient and remainder
pub division-words : (bits : ℕ → ℕ → Bool) (xs ys : List Edge) → length xs ≡ length ys → 0 < written_number bits ys → (word bits (division xs ys).answer.0 ≡ is.udiv (word bits xs) (word bits ys)) × (word bits (division xs ys).answer.1 ≡ is.umod (word bits xs) (word bits ys))
division-words bits xs ys l some =
    let v = division-value bits xs ys l some in
    let e : nat_eq (written_number bits ys) 0 ≡ false = grind (arith, common_steps) in
    (rw (division-bits xs ys, v.0, e) refl, rw (division-length xs ys l, v.1, e) refl)

remainder-value : (bits : ℕ → ℕ → Bool) (xs ys : List Edge) → length xs ≡ length ys → (t : Bool) → nat_eq (written_number bits ys) 0 ≡ t → written_number bits (remainder xs ys).answer ≡ (if t then written_number bits xs else written_number bits xs % written_number bits ys)
unfolding remainder ◌>>=◌
remainder-value bits xs ys l true e = chosen-value bits (zero_test ys).answer xs (division xs ys).answer.1 (sym (division-length xs ys l)) ∙ rw (zero_test-value bits ys, e) refl
remainder-value bits xs ys l false e =
    let some : 0 < written_number bits ys = above (written_number bits ys) e in
    chosen-value bits (zero_test ys).answer xs (division xs ys).answer.1 (sym (division-length xs ys l)) ∙ rw (zero_test-value bits ys, e) (division-value bits xs ys l some).1
  where
    above : (n : ℕ) → nat_eq n 0 ≡ false → 0 < n
    above n h = grind (arith, common_steps)

pub remainder-word : (bits : ℕ → ℕ → Bool) (xs ys : List Edge) → length xs ≡ length ys → word bits (remainder xs ys).answer ≡ is.umod (word bits xs) (word bits ys)
unfolding remainder ◌>>=◌
remainder-word bits xs ys l = rw (remainder-value bits xs ys l (nat_eq (written_number bits ys) 0) refl, chosen-length (zero_test ys).answer xs (division xs ys).answer.1 (sym (division-length xs ys l))) refl

quotient-value : (bits : ℕ → ℕ → Bool) (xs ys : List Edge) → length xs ≡ length ys → (t : Bool) → nat_eq (written_number bits ys) 0 ≡ t → bit_number (value bits (invert (zero_test ys).answer)) * written_number bits (division xs ys).answer.0 ≡ (if t then 0 else written_number bits xs / written_number bits ys)
quotient-value bits xs ys l true e = rw (value-invert bits (zero_test ys).answer, zero_test-value bits ys, e) (grind (arith, common_steps))
quotient-value bits xs ys l false e =
    let some : 0 < written_number bits ys = above (written_number bits ys) e in
    rw (value-invert bits (zero_test ys).answer, zero_test-value bits ys, e) (once (written_number bits (division xs ys).answer.0) ∙ (division-value bits xs ys l some).0)
  where
    above : (n : ℕ) → nat_eq n 0 ≡ false → 0 < n
    above n h = grind (arith, common_steps)

    once : (n : ℕ) → 1 * n ≡ n
    once n = omega arith

quotient-is : (xs ys : List Edge) → (quotient xs ys).answer ≡ map (λ q. (both (invert (zero_test ys).answer) q).answer) (division xs ys).answer.0
unfolding quotient ◌>>=◌
quotient-is xs ys = each_onto-answer [] (both (invert (zero_test ys).answer)) (division xs ys).answer.0

pub quotient-word : (bits : ℕ → ℕ → Bool) (xs ys : List Edge) → length xs ≡ length ys → word bits (quotient xs ys).answer ≡ is.udiv (word bits xs) (word bits ys)
quotient-word bits xs ys l = rw (quotient-is xs ys, written-masked bits (invert (zero_test ys).answer) (division xs ys).answer.0, quotient-value bits xs ys l (nat_eq (written_number bits ys) 0) refl, length-map (division xs ys).answer.0 (λ q. (both (invert (zero_test ys).answer) q).answer), division-bits xs ys) refl
