-- The rows of a product add up to it.
use Rattle.std.proofs.Common.{◌≡◌, ◌≤◌, ◌+◌, ◌-◌, ◌*◌, ◌%◌, ◌^◌, ℕ, Bool, true, false, List, [], ◌∷◌, map, take, drop, replicate, refl, sym, ◌∙◌, ap, length, arith}
use Rattle.std.proofs.lemmas.Grind.{common_steps}
use Rattle.std.proofs.lemmas.List.{length-append, length-map, length-replicate, length-take-le}
use Rattle.std.proofs.lemmas.Nat.{pow-add}
use Rattle.std.proofs.Math.Nat.{mul-add, mul_assoc}
use Rattle.std.specs.List.{enumerate_from}
use Rattle.gate_shape.specs.Edge.{Edge, value, constant}
use Rattle.gate_shape.specs.Row.{◌>>=◌, along, both}
use Rattle.bv_value.specs.Bits.{bit_number}
use Rattle.blast_logic.specs.Words.{written_number}
use Rattle.gate_shape.proofs.Looping.{each_onto-answer}
use Rattle.bv_value.proofs.Bits.{pow_more}
use Rattle.blast_logic.proofs.Numbers.{rest_is, written-masked, written-append, written-below, written-falses, written-cut}
use Rattle.bv_value.specs.Operations as is
use Rattle.blast_arith.specs.Sums.{adder}
use Rattle.blast_logic.specs.Words.{word}
use Rattle.blast_arith.proofs.Adding.{adder-value}
use Rattle.blast_arith.proofs.Adding.{adder-length}
use Rattle.blast_mul.specs.Product.{partial_product, add_partial, product}

pub partial_product-length : (xs : List Edge) (i : ℕ) (y : Edge) → i ≤ length xs → length (partial_product xs (i, y)).answer ≡ length xs
unfolding partial_product
partial_product-length xs i y l =
    rw (each_onto-answer (replicate i (constant false)) (both y) (take (length xs - i) xs), length-append, length-replicate, length-map, length-take-le (length xs - i) xs (omega arith)) (omega arith)

pub add_partial-length : (xs sum : List Edge) (i : ℕ) (y : Edge) → length sum ≡ length xs → i ≤ length xs → length (add_partial xs sum (i, y)).answer ≡ length xs
unfolding add_partial ◌>>=◌
add_partial-length xs sum i y n l = adder-length sum (partial_product xs (i, y)).answer (constant false) (n ∙ sym (partial_product-length xs i y l)) ∙ n

-- a number of which a multiple of p is missing
abbrev pub Without : ℕ → ℕ → ℕ → Type 0
Without p s t = (q : ℕ) × (s + p * q ≡ t)

row-value : (bits : ℕ → ℕ → Bool) (xs : List Edge) (i : ℕ) (y : Edge) → i ≤ length xs → Without (2 ^ length xs) (written_number bits (partial_product xs (i, y)).answer) (bit_number (value bits y) * (2 ^ i * written_number bits xs))
unfolding partial_product
row-value bits xs i y l =
    let n : ℕ = length xs - i in
    let low : List Edge = take n xs in
    let high : List Edge = drop n xs in
    let b : ℕ = bit_number (value bits y) in
    let whole : 2 ^ i * 2 ^ n ≡ 2 ^ length xs = sym (pow-add 2 i n) ∙ ap (λ k. 2 ^ k) (omega arith) in (
      b * written_number bits high,
      rw (each_onto-answer (replicate i (constant false)) (both y) low, written-append bits (replicate i (constant false)) (map (λ x. (both y x).answer) low), written-falses bits i, length-replicate i (constant false), written-masked bits y low)
          (parts (value bits y) (2 ^ i) (2 ^ n) (2 ^ length xs) (written_number bits low) (written_number bits high) (written_number bits xs) whole (written-cut bits n xs (omega arith))),
    )
  where
    parts : (b : Bool) (s h p t d x : ℕ) → s * h ≡ p → x ≡ t + h * d → 0 + s * (bit_number b * t) + p * (bit_number b * d) ≡ bit_number b * (s * x)
    parts true s h p t d x e f =
        let whole : s * x ≡ s * t + s * (h * d) = ap (λ v. s * v) f ∙ mul-add s t (h * d) in
        let high : s * (h * d) ≡ p * d = sym (mul_assoc s h d) ∙ ap (λ v. v * d) e in
        grind (arith, common_steps)
    parts false s h p t d x e f = grind (arith, common_steps)

one_row : (p z s n a r b k q c d : ℕ) → z + p * q ≡ s + 2 * k * n → s + p * c ≡ a + r + 0 → r + p * d ≡ b * k → z + p * (q + c + d) ≡ a + k * (b + 2 * n)
one_row p z s n a r b k q c d e f h = grind (arith, common_steps)

doubled : (i x : ℕ) → 2 ^ (i + 1) * x ≡ 2 * (2 ^ i * x)
doubled i x = grind (arith, common_steps, pow_more i)

rows-value : (bits : ℕ → ℕ → Bool) (xs ys sum : List Edge) (i : ℕ) → length sum ≡ length xs → i + length ys ≤ length xs → Without (2 ^ length xs) (written_number bits (along (add_partial xs) sum (enumerate_from i ys)).answer) (written_number bits sum + 2 ^ i * written_number bits xs * written_number bits ys)
unfolding along add_partial ◌>>=◌ value
rows-value bits xs [] sum i n l = (0, omega arith)
rows-value bits xs (y ∷ ys) sum i n l =
    let row : List Edge = (partial_product xs (i, y)).answer in
    let more : List Edge = (adder sum row (constant false)).answer.0 in
    let lengths : length sum ≡ length row = n ∙ sym (partial_product-length xs i y (omega arith)) in
    let m : length more ≡ length xs = adder-length sum row (constant false) lengths ∙ n in
    let s = adder-value bits sum row (constant false) lengths in
    let s2 = rw n at s in
    let r = row-value bits xs i y (omega arith) in
    let ih = rows-value bits xs ys more (i + 1) m (omega arith) in
    let ih2 = rw (doubled i (written_number bits xs)) at ih.1 in
    (ih.0 + bit_number (value bits (adder sum row (constant false)).answer.1) + r.0, one_row (2 ^ length xs) _ _ _ _ _ _ _ _ _ _ ih2 s2 r.1)

rows-length : (xs ys sum : List Edge) (i : ℕ) → length sum ≡ length xs → i + length ys ≤ length xs → length (along (add_partial xs) sum (enumerate_from i ys)).answer ≡ length xs
unfolding along ◌>>=◌
rows-length xs [] sum i n l = n
rows-length xs (y ∷ ys) sum i n l = rows-length xs ys (add_partial xs sum (i, y)).answer (i + 1) (add_partial-length xs sum i y n (omega arith)) (omega arith)

pub product-length : (xs ys : List Edge) → length xs ≡ length ys → length (product xs ys).answer ≡ length xs
unfolding product
product-length xs ys l = rows-length xs ys (replicate (length xs) (constant false)) 0 (length-replicate (length xs) (constant false)) (omega arith)

pub product-value : (bits : ℕ → ℕ → Bool) (xs ys : List Edge) → length xs ≡ length ys → written_number bits (product xs ys).answer ≡ written_number bits xs * written_number bits ys % 2 ^ length xs
unfolding product
product-value bits xs ys l =
    let v = rows-value bits xs ys (replicate (length xs) (constant false)) 0 (length-replicate (length xs) (constant false)) (omega arith) in
    let e = rw (written-falses bits (length xs)) at v.1 in
    let b = rw (product-length xs ys l) at (written-below bits (product xs ys).answer) in
    rest_is _ (2 ^ length xs) v.0 _ b (e ∙ grind (arith, common_steps))

pub product-word : (bits : ℕ → ℕ → Bool) (xs ys : List Edge) → length xs ≡ length ys → word bits (product xs ys).answer ≡ is.mul (word bits xs) (word bits ys)
product-word bits xs ys l = rw (product-length xs ys l, product-value bits xs ys l) refl
