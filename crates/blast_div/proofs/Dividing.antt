-- The quotient and the remainder that the division's rows write.
use Rattle.std.proofs.Common.{◌≡◌, ◌<◌, ◌≤◌, ◌+◌, ◌-◌, ◌*◌, ◌/◌, ◌%◌, ◌^◌, ℕ, suc, Bool, true, false, List, [], ◌∷◌, ◌++◌, map, take, get_or, replicate, reverse, refl, sym, ◌∙◌, ap, length, arith, if◌then◌else◌}
use Rattle.std.proofs.lemmas.Grind.{common_steps}
use Rattle.std.proofs.lemmas.List.{map-append, get_or-reverse, length-append, length-map, length-replicate, length-reverse, length-take-le, reverse-append, reverse-reverse}
use Rattle.std.proofs.lemmas.Nat.{div-mul-add, mod-mul-add}
use Rattle.std.proofs.Math.Nat.{mod-eq_of_lt}
use Rattle.gate_shape.specs.Literal.{Literal, opposite}
use Rattle.gate_shape.specs.Word.{true_literal}
use Rattle.gate_shape.specs.Builds.{Meaning, AllKnown, StandAll, edge, edges}
use Rattle.gate_shape.specs.Edge.{Edge, value, constant, invert}
use Rattle.gate_shape.specs.Row.{◌>>=◌, along}
use Rattle.bv_value.specs.Bits.{bit_number}
use Rattle.blast_logic.specs.Words.{written_number}
use Rattle.gate_shape.proofs.Building.{stand_take, stand_append, stand_not, stand_self, stand_push, stand_none, stands_true, item_one}
use Rattle.bv_value.proofs.Bits.{pow_more}
use Rattle.blast_logic.proofs.Numbers.{written-append, written-below, written-falses, written-take}
use Rattle.blast_arith.specs.Sums.{adder}
use Rattle.blast_arith.proofs.Adding.{adder-length, adder-below, borrow-value, written-push}
use Rattle.blast_logic.proofs.Picking.{chosen-length, chosen-value}
use Rattle.blast_div.specs.Division.{negated_divisor, divide_step, divide_bit, division}

-- the quotient so far is held with its top bit first
abbrev pub StandReversed : Meaning → List Literal × List Literal → List Edge × List Edge → Type 0
StandReversed m l e = StandAll m (reverse l.0) e.0 × StandAll m l.1 e.1

pub stand_first : {m : Meaning} {ls more : List Literal} {es : List Edge} (n k : ℕ) → n ≡ k → more ≡ ls → StandAll m ls es → StandAll m (take n more) (take k es)
stand_first n k e q s = rw (q, e) (stand_take k s)

divisor : List Edge → List Edge
divisor ys = ys ++ constant false ∷ []

divisor-length : (ys : List Edge) → length (divisor ys) ≡ length ys + 1
unfolding divisor
divisor-length ys = length-append ys (constant false ∷ [])

divisor-value : (bits : ℕ → ℕ → Bool) (ys : List Edge) → written_number bits (divisor ys) ≡ written_number bits ys
unfolding divisor value
divisor-value bits ys = written-append bits ys (constant false ∷ []) ∙ omega arith

-- one step of a division, on numbers: `fits` is the carry, d the difference and t the remainder with a bit below it
one_step : (fits : Bool) (d t y p q l : ℕ) → d + q * bit_number fits + y ≡ t + q → d < q → q ≡ 2 * p → y < p → t < 2 * y → l ≡ (if fits then d % p else t % p) → (l + y * bit_number fits ≡ t) × (l < y)
one_step true d t y p q l e b f g h k =
    let s : d < p = omega arith in
    let m : d % p ≡ d = mod-eq_of_lt s in
    (omega (arith, m, k), omega (arith, m, k))
one_step false d t y p q l e b f g h k =
    let s : t < p = omega arith in
    let m : t % p ≡ t = mod-eq_of_lt s in
    (omega (arith, m, k), omega (arith, m, k))

take-lengths : (ns rest : List Edge) (x : Edge) → length (x ∷ rest) ≡ length ns → length (take (length rest) (adder (x ∷ rest) ns (constant true)).answer.0) ≡ length rest
take-lengths ns rest x l = length-take-le (length rest) (adder (x ∷ rest) ns (constant true)).answer.0 (let n = adder-length (x ∷ rest) ns (constant true) l in omega (arith, n))

pub step-length : (ns rest : List Edge) (x : Edge) → length ns ≡ length rest + 1 → length (divide_step ns rest x).answer.1 ≡ length rest
unfolding divide_step ◌>>=◌
step-length ns rest x l =
    let n : length (x ∷ rest) ≡ length ns = omega arith in
    let t : length (take (length rest) (x ∷ rest)) ≡ length rest = length-take-le (length rest) (x ∷ rest) (omega arith) in
    chosen-length (adder (x ∷ rest) ns (constant true)).answer.1 (take (length rest) (adder (x ∷ rest) ns (constant true)).answer.0) (take (length rest) (x ∷ rest)) (take-lengths ns rest x n ∙ sym t) ∙ take-lengths ns rest x n

step-value : (bits : ℕ → ℕ → Bool) (ys rest : List Edge) (x : Edge) → length ys ≡ length rest → written_number bits rest < written_number bits ys
    → (written_number bits (divide_step (negated_divisor ys) rest x).answer.1 + written_number bits ys * bit_number (value bits (divide_step (negated_divisor ys) rest x).answer.0) ≡ bit_number (value bits x) + 2 * written_number bits rest) × (written_number bits (divide_step (negated_divisor ys) rest x).answer.1 < written_number bits ys)
unfolding divide_step ◌>>=◌ divisor value
step-value bits ys rest x l less =
    let n : length (x ∷ rest) ≡ length (divisor ys) = (let k = divisor-length ys in omega (arith, k)) in
    let n2 : length (x ∷ rest) ≡ length (negated_divisor ys) = n ∙ sym (length-map (divisor ys) invert) in
    let r : List Edge × Edge = (adder (x ∷ rest) (negated_divisor ys) (constant true)).answer in
    let t : length (take (length rest) (x ∷ rest)) ≡ length rest = length-take-le (length rest) (x ∷ rest) (omega arith) in
    let borrow = borrow-value bits (x ∷ rest) (divisor ys) n in
    let borrow2 = rw (divisor-value bits ys) at borrow in
    let below = adder-below bits (x ∷ rest) (negated_divisor ys) (constant true) n2 in
    let small = rw l at (written-below bits ys) in
    let pick = chosen-value bits r.1 (take (length rest) r.0) (take (length rest) (x ∷ rest)) (take-lengths (negated_divisor ys) rest x n2 ∙ sym t) in
    let fits : length rest ≤ length r.0 = (let k = adder-length (x ∷ rest) (negated_divisor ys) (constant true) n2 in omega (arith, k)) in
    let pick2 = rw (written-take bits (length rest) r.0 fits, written-take bits (length rest) (x ∷ rest) (omega arith)) at pick in
    one_step (value bits r.1) (written_number bits r.0) (written_number bits (x ∷ rest)) (written_number bits ys) (2 ^ length rest) (2 ^ length (x ∷ rest)) _ borrow2 below (pow_more (length rest)) small (twice (value bits x) (written_number bits rest) (written_number bits ys) less) pick2
  where
    twice : (b : Bool) (r y : ℕ) → r < y → bit_number b + 2 * r < 2 * y
    twice true r y l = omega arith
    twice false r y l = omega arith

-- what the steps over these bits, the top one first, leave
pub record Divided (p d q r : ℕ) : Type 0 where
  pub whole : q * d + r ≡ p
  pub less : r < d

more_whole : (q b d r l x p : ℕ) → q * d + r ≡ p → l + d * b ≡ x + 2 * r → (b + 2 * q) * d + l ≡ x + 2 * p
more_whole q b d r l x p e f = grind (arith, common_steps)

next_digit : (x p n r w : ℕ) → w ≡ 2 * n → (x + 2 * p) * n + r ≡ p * w + (r + n * x)
next_digit x p n r w e = rw e (grind (arith, common_steps))

reversed : (bits : ℕ → ℕ → Bool) (z : Edge) (zs : List Edge) → written_number bits (reverse (z ∷ zs)) ≡ written_number bits (reverse zs) + 2 ^ length zs * bit_number (value bits z)
reversed bits z zs = ap (written_number bits) (reverse-append (z ∷ []) zs) ∙ (written-push bits (reverse zs) z ∙ ap (λ n. written_number bits (reverse zs) + 2 ^ n * bit_number (value bits z)) (length-reverse zs))

steps-value : (bits : ℕ → ℕ → Bool) (ys zs qs rest : List Edge) (p : ℕ) → length ys ≡ length rest → Divided p (written_number bits ys) (written_number bits qs) (written_number bits rest)
    → Divided (p * 2 ^ length zs + written_number bits (reverse zs)) (written_number bits ys) (written_number bits (along (divide_bit (negated_divisor ys)) (qs, rest) zs).answer.0) (written_number bits (along (divide_bit (negated_divisor ys)) (qs, rest) zs).answer.1)
unfolding along ◌>>=◌ divisor
steps-value bits ys [] qs rest p l d = record { whole = d.whole ∙ grind (arith, common_steps); less = d.less }
steps-value bits ys (z ∷ zs) qs rest p l d =
    let r : Edge × List Edge = (divide_step (negated_divisor ys) rest z).answer in
    let h = step-value bits ys rest z l d.less in
    let x : ℕ = bit_number (value bits z) in
    let n : length (negated_divisor ys) ≡ length rest + 1 = length-map (divisor ys) invert ∙ (let k = divisor-length ys in omega (arith, k)) in
    let more : Divided (x + 2 * p) (written_number bits ys) (written_number bits (r.0 ∷ qs)) (written_number bits r.1) = record { whole = more_whole (written_number bits qs) (bit_number (value bits r.0)) (written_number bits ys) (written_number bits rest) (written_number bits r.1) x p d.whole h.0; less = h.1 } in
    let ih = steps-value bits ys zs (r.0 ∷ qs) r.1 (x + 2 * p) (l ∙ sym (step-length (negated_divisor ys) rest z n)) more in
    record { whole = ih.whole ∙ (next_digit x p (2 ^ length zs) (written_number bits (reverse zs)) (2 ^ suc (length zs)) (pow_more (length zs)) ∙ ap (λ k. p * 2 ^ suc (length zs) + k) (sym (reversed bits z zs))); less = ih.less }

pub division-value : (bits : ℕ → ℕ → Bool) (xs ys : List Edge) → length xs ≡ length ys → 0 < written_number bits ys → (written_number bits (division xs ys).answer.0 ≡ written_number bits xs / written_number bits ys) × (written_number bits (division xs ys).answer.1 ≡ written_number bits xs % written_number bits ys)
unfolding division
division-value bits xs ys l some =
    let start : Divided 0 (written_number bits ys) (written_number bits []) (written_number bits (replicate (length xs) (constant false))) = (let z = written-falses bits (length xs) in record { whole = omega (arith, z); less = omega (arith, z, some) }) in
    let d = steps-value bits ys (reverse xs) [] (replicate (length xs) (constant false)) 0 (sym l ∙ sym (length-replicate (length xs) (constant false))) start in
    let e = rw (reverse-reverse xs) at d.whole ∙ nothing (2 ^ length (reverse xs)) (written_number bits xs) in
    let q = div-mul-add (written_number bits (along (divide_bit (negated_divisor ys)) ([], replicate (length xs) (constant false)) (reverse xs)).answer.0) (written_number bits ys) (written_number bits (along (divide_bit (negated_divisor ys)) ([], replicate (length xs) (constant false)) (reverse xs)).answer.1) d.less in
    let m = mod-mul-add (written_number bits (along (divide_bit (negated_divisor ys)) ([], replicate (length xs) (constant false)) (reverse xs)).answer.0) (written_number bits ys) (written_number bits (along (divide_bit (negated_divisor ys)) ([], replicate (length xs) (constant false)) (reverse xs)).answer.1) d.less in
    (sym q ∙ ap (λ k. k / written_number bits ys) e, sym m ∙ ap (λ k. k % written_number bits ys) e)
  where
    nothing : (w x : ℕ) → 0 * w + x ≡ x
    nothing w x = omega arith

-- the negated divisor, as the code holds it
pub stand_negated : {m : Meaning} (ls : List Literal) {more : List Literal} → more ≡ map opposite ls ++ true_literal ∷ [] → AllKnown m ls → StandAll m more (negated_divisor (edges m ls))
stand_negated {m} ls q h = rw (map-append invert (edges m ls) (constant false ∷ [])) (stand_append q (stand_not refl (stand_self h)) (stand_push refl (stand_none refl) (stands_true refl)))

-- an item of a reversed list
pub item_reversed : (m : Meaning) (xs : List Literal) {i : ℕ} {x : Literal} → i < length xs → x ≡ get_or xs (length xs - 1 - i) x → get_or (reverse (edges m xs)) i (edge m x) ≡ edge m x
item_reversed m xs {i} {x} l e =
    let n : length (edges m xs) ≡ length xs = length-map xs (edge m) in
    let k : length xs - 1 - i < length xs = omega arith in
    get_or-reverse (edges m xs) i (edge m x) (omega arith) ∙ (ap (λ z. get_or (edges m xs) (z - 1 - i) (edge m x)) n ∙ item_one m xs k e)
