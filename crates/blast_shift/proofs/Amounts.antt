-- The numbers that parts of lists of bits write, one behind the other.
use Rattle.std.proofs.Common.{◌≡◌, ◌<◌, ◌≤◌, ◌+◌, ◌-◌, ◌*◌, ◌/◌, ◌%◌, ◌^◌, ℕ, zero, suc, Bool, true, false, not, List, [], ◌∷◌, ◌++◌, map, take, drop, replicate, refl, sym, ◌∙◌, ap, length, min, get_or, arith, inl, inr}
use Rattle.std.specs.Prelude.{◌==◌, nat_le}
use Rattle.std.proofs.lemmas.Grind.{common_steps}
use Rattle.std.proofs.lemmas.Bool.{cases_lt}
use Rattle.std.proofs.lemmas.Nat.{pow-add}
use Rattle.std.proofs.lemmas.List.{length-append, length-take, length-take-le, length-drop, length-map, length-replicate, map-append, take_all, drop_all, drop-map, take-map, get_or_past}
use Rattle.std.proofs.Math.Seq.{drop-cons}
use Rattle.std.proofs.Math.Nat.{mod-eq_of_lt, mod-lt, div-add-mod, add-mul-mod_self_right, mul-lt-mul_of_pos_right}
use Rattle.bv_value.proofs.Powers.{pow-pos, below_later, shifted_out, shifted_up}
use Rattle.bv_value.specs.Bits.{number_of, bit_number}
use Rattle.bv_value.proofs.Bits.{pow_more}
use Rattle.blast_logic.proofs.Numbers.{number-append, number-below, number-not, number-zeros, number-take, number-drop, number-cut}

-- zeros above change nothing
pub number-zeros_above : (bs : List Bool) (r : ℕ) → number_of (bs ++ replicate r false) ≡ number_of bs
number-zeros_above bs r = rw (number-append bs (replicate r false), number-zeros r) (omega arith)

-- what is left behind the first places
pub number-left : (bs : List Bool) (n k : ℕ) → k ≡ min n (length bs) → number_of (drop k bs) ≡ number_of bs / 2 ^ n
number-left bs n k e = number-drop k bs (omega arith) ∙ elim (cases_lt n (length bs)) [
  | inl below ↦ (let s : k ≡ n = omega arith in ap (λ z. number_of bs / 2 ^ z) s)
  | inr over ↦ shifted_out (number_of bs) (length bs) k (number-below bs) (omega arith) ∙ sym (shifted_out (number_of bs) (length bs) n (number-below bs) over)
]

-- the first bits, and zeros where there are fewer
pub number-resized : (bs : List Bool) (width : ℕ) → number_of (take width bs ++ replicate (width - length bs) false) ≡ number_of bs % 2 ^ width
number-resized bs width = number-zeros_above (take width bs) (width - length bs) ∙ elim (cases_lt width (length bs)) [
  | inl below ↦ number-take width bs (omega arith)
  | inr over ↦ ap number_of (take_all width bs over) ∙ sym (mod-eq_of_lt (below_later (number_of bs) (length bs) width over (number-below bs)))
]

-- what a product with a power leaves modulo a greater one
moved : (x j k : ℕ) → x * 2 ^ k % 2 ^ (j + k) ≡ x % 2 ^ j * 2 ^ k
moved x j k =
    let low : x % 2 ^ j < 2 ^ j = mod-lt x (pow-pos j) in
    let room : x % 2 ^ j * 2 ^ k < 2 ^ (j + k) = rw pow-add (mul-lt-mul_of_pos_right low (pow-pos k)) in
    let cut : x * 2 ^ k ≡ x % 2 ^ j * 2 ^ k + x / 2 ^ j * 2 ^ (j + k) = rw pow-add (spread x (2 ^ j) (2 ^ k) (x / 2 ^ j) (x % 2 ^ j) (div-add-mod x (2 ^ j))) in
    rw (cut, add-mul-mod_self_right (x % 2 ^ j * 2 ^ k) (x / 2 ^ j) (2 ^ (j + k))) (mod-eq_of_lt room)
  where
    spread : (x a b q r : ℕ) → a * q + r ≡ x → x * b ≡ r * b + q * (a * b)
    spread x a b q r e = rw (sym e) (omega arith)

-- zeros below, and the bits that are left
pub number-shifted_left : (bs : List Bool) (n k : ℕ) → k ≡ min n (length bs) → number_of (replicate k false ++ take (length bs - k) bs) ≡ number_of bs * 2 ^ n % 2 ^ length bs
number-shifted_left bs n k e =
    rw (number-append (replicate k false) (take (length bs - k) bs), number-zeros k, length-replicate k false, number-take (length bs - k) bs (omega arith))
    (elim (cases_lt n (length bs)) [
      | inl below ↦ within below
      | inr over ↦ beyond over
    ])
  where
    within : n < length bs → 0 + 2 ^ k * (number_of bs % 2 ^ (length bs - k)) ≡ number_of bs * 2 ^ n % 2 ^ length bs
    within below =
        let s : k ≡ n = omega arith in
        let whole : length bs - k + k ≡ length bs = omega arith in
        let m = rw whole at (moved (number_of bs) (length bs - k) k) in
        (let c : 0 + 2 ^ k * (number_of bs % 2 ^ (length bs - k)) ≡ number_of bs % 2 ^ (length bs - k) * 2 ^ k = omega arith in c) ∙ (sym m ∙ ap (λ z. number_of bs * 2 ^ z % 2 ^ length bs) s)

    beyond : length bs ≤ n → 0 + 2 ^ k * (number_of bs % 2 ^ (length bs - k)) ≡ number_of bs * 2 ^ n % 2 ^ length bs
    beyond over =
        let none : length bs - k ≡ 0 = omega arith in
        let one : number_of bs % 1 ≡ 0 = omega arith in
        rw (none, one) ((let z : 0 + 2 ^ k * 0 ≡ 0 = omega arith in z) ∙ sym (shifted_up (number_of bs) (length bs) n over))

-- the bits round, by n modulo the width
pub number-rotated_left : (bs : List Bool) (k : ℕ) → k ≤ length bs → number_of (drop (length bs - k) bs ++ take (length bs - k) bs) ≡ number_of bs * 2 ^ k % 2 ^ length bs + number_of bs / 2 ^ (length bs - k)
number-rotated_left bs k l =
    let whole : length bs - k + k ≡ length bs = omega arith in
    let room : length bs - (length bs - k) ≡ k = omega arith in
    let m = rw whole at (moved (number_of bs) (length bs - k) k) in
    rw (number-append (drop (length bs - k) bs) (take (length bs - k) bs), number-drop (length bs - k) bs (omega arith), length-drop (length bs - k) bs, room, number-take (length bs - k) bs (omega arith), m) (omega arith)

pub number-rotated_right : (bs : List Bool) (k : ℕ) → k ≤ length bs → number_of (drop k bs ++ take k bs) ≡ number_of bs / 2 ^ k + number_of bs % 2 ^ k * 2 ^ (length bs - k)
number-rotated_right bs k l =
    rw (number-append (drop k bs) (take k bs), number-drop k bs l, length-drop k bs, number-take k bs l) (omega arith)

not-trues : (r : ℕ) → map not (replicate r true) ≡ replicate r false
not-trues zero = refl
not-trues (suc r) = ap (λ z. false ∷ z) (not-trues r)

-- ones above: zeros above the bits turned over, turned over
number-ones_above : (bs : List Bool) (r : ℕ) → number_of (bs ++ replicate r true) ≡ 2 ^ (length bs + r) - 1 - number_of (map not bs ++ replicate r false)
number-ones_above bs r =
    let h = rw (map-append not bs (replicate r true), not-trues r, length-append bs (replicate r true), length-replicate r true) at (number-not (bs ++ replicate r true)) in
    omega arith

take-not : (width : ℕ) (bs : List Bool) → map not (take width bs) ≡ take width (map not bs)
take-not width bs = sym (take-map not width bs)

-- the first bits, and ones where there are fewer
pub number-resized_ones : (bs : List Bool) (width : ℕ) → number_of (take width bs ++ replicate (width - length bs) true) ≡ 2 ^ width - 1 - number_of (map not bs) % 2 ^ width
number-resized_ones bs width =
    let whole : length (take width bs) + (width - length bs) ≡ width = rw length-take (omega arith) in
    let turned = rw (length-map bs not) at (number-resized (map not bs) width) in
    rw (number-ones_above (take width bs) (width - length bs), whole, take-not width bs, turned) refl

-- the same of what is left behind the first places
pub number-left_ones : (bs : List Bool) (n k width : ℕ) → k ≡ min n (length bs) → number_of (take width (drop k bs) ++ replicate (width - length (drop k bs)) true) ≡ 2 ^ width - 1 - number_of (map not bs) / 2 ^ n % 2 ^ width
number-left_ones bs n k width e =
    let turned : number_of (map not (drop k bs)) ≡ number_of (map not bs) / 2 ^ n = ap number_of (sym (drop-map not k bs)) ∙ number-left (map not bs) n k (e ∙ ap (min n) (sym (length-map bs not))) in
    rw (number-resized_ones (drop k bs) width, turned) refl

pub number-left_zeros : (bs : List Bool) (n k width : ℕ) → k ≡ min n (length bs) → number_of (take width (drop k bs) ++ replicate (width - length (drop k bs)) false) ≡ number_of bs / 2 ^ n % 2 ^ width
number-left_zeros bs n k width e = rw (number-resized (drop k bs) width, number-left bs n k e) refl

-- the bits turned over
pub number-turned : (bs : List Bool) → number_of (map not bs) ≡ 2 ^ length bs - 1 - number_of bs
number-turned bs = let h = number-not bs in omega arith

lowest : (b : Bool) (r : ℕ) → ((bit_number b + 2 * r) % 2 == 1) ≡ b
lowest true r = let e : (1 + 2 * r) % 2 ≡ 1 = omega arith in rw e refl
lowest false r = let e : (0 + 2 * r) % 2 ≡ 0 = omega arith in rw e refl

-- a bit, read off the number
pub bit-is : (bs : List Bool) (i : ℕ) → get_or bs i false ≡ (number_of bs / 2 ^ i % 2 == 1)
bit-is bs i = elim (cases_lt i (length bs)) [
  | inl below ↦ within below
  | inr over ↦ get_or_past bs i false over ∙ sym (ap (λ z. z % 2 == 1) (shifted_out (number_of bs) (length bs) i (number-below bs) over))
]
  where
    within : i < length bs → get_or bs i false ≡ (number_of bs / 2 ^ i % 2 == 1)
    within below = sym (ap (λ z. z % 2 == 1) (sym (number-drop i bs (omega arith)) ∙ ap number_of (drop-cons bs i false below)) ∙ lowest (get_or bs i false) (number_of (drop (suc i) bs)))

top_test : (b : Bool) (l p : ℕ) → l < p → nat_le (2 * p / 2) (l + p * (bit_number b + 2 * 0)) ≡ b
top_test true l p h = grind (arith, common_steps)
top_test false l p h = grind (arith, common_steps)

-- the top bit says whether the number is in the upper half
pub top-is : (bs : List Bool) → 1 ≤ length bs → nat_le (2 ^ length bs / 2) (number_of bs) ≡ get_or bs (length bs - 1) false
top-is bs one = go (length bs - 1) (omega arith)
  where
    go : (u : ℕ) → length bs ≡ suc u → nat_le (2 ^ length bs / 2) (number_of bs) ≡ get_or bs u false
    go u e =
        let inside : u < length bs = omega arith in
        let none : drop (suc u) bs ≡ [] = drop_all (suc u) bs (omega arith) in
        let cut : number_of bs ≡ number_of (take u bs) + 2 ^ u * (bit_number (get_or bs u false) + 2 * 0) = number-cut u bs (omega arith) ∙ ap (λ z. number_of (take u bs) + 2 ^ u * number_of z) (drop-cons bs u false inside ∙ ap (λ z. get_or bs u false ∷ z) none) in
        let small : number_of (take u bs) < 2 ^ u = rw (length-take-le u bs (omega arith)) at (number-below (take u bs)) in
        rw (cut, e, pow_more u) (top_test (get_or bs u false) (number_of (take u bs)) (2 ^ u) small)
