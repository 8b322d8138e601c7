-- The rows that make no gate, as parts of lists one behind the other.
use Rattle.std.proofs.Common.{◌≡◌, ◌<◌, ◌≤◌, ◌+◌, ◌-◌, ◌*◌, ◌/◌, ◌%◌, ℕ, zero, suc, true, false, List, ◌++◌, refl, sym, ◌∙◌, ap, length, take, drop, replicate, min, nat_lt, if◌then◌else◌, get_or, arith, inl, inr, pos, negsuc}
use Rattle.std.specs.Prelude.{◌-ℤ◌}
use Rattle.std.proofs.lemmas.Grind.{common_steps}
use Rattle.std.proofs.lemmas.Int.{ints}
use Rattle.std.proofs.lemmas.Bool.{cases_lt}
use Rattle.std.proofs.lemmas.List.{length-append, length-take, length-take-le, length-drop, length-replicate, get_or_append_left, get_or-append_right, get_or-take, get_or-drop, get_or-replicate, get_or_past, get_or_default}
use Rattle.std.proofs.lemmas.List.FromFn.{fill_by_all}
use Rattle.std.proofs.Math.Nat.{mod-eq_of_lt, mod-lt, div-add-mod, add-mul-mod_self_right, mul-add-mod_self_right}
use Rattle.gate_shape.specs.Edge.{Edge, constant}
use Rattle.bv_value.specs.BitVector.{residue}
use Rattle.blast_logic.specs.Words.{bit_at, top_bit}
use Rattle.blast_shift.specs.Wires.{bits_by, shifted_left, shifted_right, shifted_right_signed, rotated_left, rotated_right, extracted, with_width, sign_extended}

-- two lists one behind the other, bit by bit
joined-is : (low_part high_part : List Edge) (count n : ℕ) (f : ℕ → Edge) → length low_part ≡ n → n + length high_part ≡ count → ((j : ℕ) → j < n → bit_at low_part j ≡ f j) → ((j : ℕ) → n ≤ j → j < count → bit_at high_part (j - n) ≡ f j) → low_part ++ high_part ≡ bits_by count f
joined-is low_part high_part count n f e l low high = fill_by_all f (low_part ++ high_part) count (constant false) (rw (length-append low_part high_part, e) l) at
  where
    at : (j : ℕ) → j < count → bit_at (low_part ++ high_part) j ≡ f j
    at j h =
        elim (cases_lt j n) [
          | inl below ↦ get_or_append_left low_part high_part (constant false) j (rw e below) ∙ low j below
          | inr over ↦ get_or-append_right low_part high_part n j (constant false) e over ∙ high j over h
        ]

-- the first of a list and copies behind them, bit by bit
resized-is : (ys : List Edge) (fill : Edge) (width : ℕ) (f : ℕ → Edge) → ((j : ℕ) → j < width → get_or ys j fill ≡ f j) → take width ys ++ replicate (width - length ys) fill ≡ bits_by width f
resized-is ys fill width f h = joined-is (take width ys) (replicate (width - length ys) fill) width (min width (length ys)) f (length-take width ys) (rw length-replicate (omega arith)) low high
  where
    low : (j : ℕ) → j < min width (length ys) → bit_at (take width ys) j ≡ f j
    low j l = get_or-take width ys j (constant false) (omega arith) ∙ (get_or_default ys j (constant false) fill (omega arith) ∙ h j (omega arith))

    high : (j : ℕ) → min width (length ys) ≤ j → j < width → bit_at (replicate (width - length ys) fill) (j - min width (length ys)) ≡ f j
    high j l m = get_or-replicate (width - length ys) (j - min width (length ys)) fill (constant false) (omega arith) ∙ (sym (get_or_past ys j fill (omega arith)) ∙ h j m)

pub shifted_left-is : (n k : ℕ) (xs : List Edge) → k ≡ min n (length xs) → replicate k (constant false) ++ take (length xs - k) xs ≡ shifted_left n xs
unfolding shifted_left
shifted_left-is n k xs e = joined-is (replicate k (constant false)) (take (length xs - k) xs) (length xs) k (λ j. if nat_lt j n then constant false else bit_at xs (j - n)) (length-replicate k (constant false)) (rw (length-take-le (length xs - k) xs (omega arith)) (omega arith)) low high
  where
    low : (j : ℕ) → j < k → bit_at (replicate k (constant false)) j ≡ (if nat_lt j n then constant false else bit_at xs (j - n))
    low j l =
        let t : nat_lt j n ≡ true = grind (arith, common_steps) in
        rw t (get_or-replicate k j (constant false) (constant false) l)

    high : (j : ℕ) → k ≤ j → j < length xs → bit_at (take (length xs - k) xs) (j - k) ≡ (if nat_lt j n then constant false else bit_at xs (j - n))
    high j l m =
        let t : nat_lt j n ≡ false = grind (arith, common_steps) in
        let same : k ≡ n = omega arith in
        rw t (get_or-take (length xs - k) xs (j - k) (constant false) (omega arith) ∙ ap (λ z. bit_at xs (j - z)) same)

-- a bit of what is left behind the first places
left_at : (n k : ℕ) (xs : List Edge) (j : ℕ) → k ≡ min n (length xs) → get_or (drop k xs) j (constant false) ≡ bit_at xs (n + j)
left_at n k xs j e = get_or-drop k xs j (constant false) ∙ elim (cases_lt n (length xs)) [
  | inl below ↦ (let same : k ≡ n = omega arith in ap (λ z. bit_at xs (z + j)) same)
  | inr over ↦ get_or_past xs (k + j) (constant false) (omega arith) ∙ sym (get_or_past xs (n + j) (constant false) (omega arith))
]

pub shifted_right-is : (n k : ℕ) (xs : List Edge) → k ≡ min n (length xs) → take (length xs) (drop k xs) ++ replicate (length xs - length (drop k xs)) (constant false) ≡ shifted_right n xs
unfolding shifted_right
shifted_right-is n k xs e = resized-is (drop k xs) (constant false) (length xs) (λ j. bit_at xs (j + n)) (λ j l. left_at n k xs j e ∙ (let swap : n + j ≡ j + n = omega arith in ap (bit_at xs) swap))

-- a bit up to the top one, or the top one
capped_at : (xs : List Edge) (i m : ℕ) → 1 ≤ length xs → m ≡ min i (length xs - 1) → get_or xs i (top_bit xs) ≡ bit_at xs m
capped_at xs i m one e =
    elim (cases_lt i (length xs)) [
      | inl below ↦ (let same : i ≡ m = omega arith in get_or_default xs i (top_bit xs) (constant false) below ∙ ap (bit_at xs) same)
      | inr over ↦ (let top : length xs - 1 ≡ m = omega arith in get_or_past xs i (top_bit xs) over ∙ ap (bit_at xs) top)
    ]

pub shifted_right_signed-is : (n k : ℕ) (xs : List Edge) → 1 ≤ length xs → k ≡ min n (length xs) → take (length xs) (drop k xs) ++ replicate (length xs - length (drop k xs)) (top_bit xs) ≡ shifted_right_signed n xs
unfolding shifted_right_signed
shifted_right_signed-is n k xs one e = resized-is (drop k xs) (top_bit xs) (length xs) (λ j. bit_at xs (min (j + n) (length xs - 1))) (λ j l. get_or-drop k xs j (top_bit xs) ∙ capped_at xs (k + j) (min (j + n) (length xs - 1)) one (omega arith))

pub extracted-is : (n k count : ℕ) (xs : List Edge) → k ≡ min n (length xs) → take count (drop k xs) ++ replicate (count - length (drop k xs)) (constant false) ≡ extracted n count xs
unfolding extracted
extracted-is n k count xs e = resized-is (drop k xs) (constant false) count (λ j. bit_at xs (n + j)) (λ j l. left_at n k xs j e)

pub with_width-is : (width : ℕ) (xs : List Edge) → take width xs ++ replicate (width - length xs) (constant false) ≡ with_width width xs
unfolding with_width
with_width-is width xs = resized-is xs (constant false) width (bit_at xs) (λ j l. refl)

pub sign_extended-is : (width : ℕ) (xs : List Edge) → 1 ≤ length xs → take width xs ++ replicate (width - length xs) (top_bit xs) ≡ sign_extended width xs
unfolding sign_extended
sign_extended-is width xs one = resized-is xs (top_bit xs) width (λ j. bit_at xs (min j (length xs - 1))) (λ j l. capped_at xs j (min j (length xs - 1)) one refl)

-- what a difference leaves modulo the width
difference_left : (w n j r c : ℕ) → j < w → r < w → j + c * w ≡ r + n → residue w (pos j -ℤ pos n) ≡ r
difference_left w n j r zero lj lr e =
    let whole : pos j -ℤ pos n ≡ pos r = omega (arith, ints) in
    rw whole (mod-eq_of_lt lr)
difference_left w n j r (suc c) lj lr e =
    let below : pos j -ℤ pos n ≡ negsuc (c * w + (w - 1 - r)) = omega (arith, ints) in
    let left : w - 1 - r < w = omega arith in
    rw (below, mul-add-mod_self_right c w (w - 1 - r), mod-eq_of_lt left) (omega arith)

-- what a sum leaves modulo the width
sum_left : (w n j r c : ℕ) → r < w → j + n ≡ r + c * w → (j + n) % w ≡ r
sum_left w n j r c lr e = rw (e, add-mul-mod_self_right r c w) (mod-eq_of_lt lr)

pub rotated_left-is : (n k : ℕ) (xs : List Edge) → 1 ≤ length xs → k ≡ n % length xs → drop (length xs - k) xs ++ take (length xs - k) xs ≡ rotated_left n xs
unfolding rotated_left
rotated_left-is n k xs one e = joined-is (drop (length xs - k) xs) (take (length xs - k) xs) (length xs) k (λ j. bit_at xs (residue (length xs) (pos j -ℤ pos n))) (rw length-drop (omega arith)) (rw (length-take-le (length xs - k) xs (omega arith)) (omega arith)) low high
  where
    small : k < length xs
    small = rw e (mod-lt n one)

    whole : length xs * (n / length xs) + k ≡ n
    whole = rw e (div-add-mod n (length xs))

    low : (j : ℕ) → j < k → bit_at (drop (length xs - k) xs) j ≡ bit_at xs (residue (length xs) (pos j -ℤ pos n))
    low j l = get_or-drop (length xs - k) xs j (constant false) ∙ ap (bit_at xs) (sym (difference_left (length xs) n j (length xs - k + j) (suc (n / length xs)) (omega (arith, small)) (omega (arith, small)) (omega (arith, small, whole))))

    high : (j : ℕ) → k ≤ j → j < length xs → bit_at (take (length xs - k) xs) (j - k) ≡ bit_at xs (residue (length xs) (pos j -ℤ pos n))
    high j l m = get_or-take (length xs - k) xs (j - k) (constant false) (omega (arith, small)) ∙ ap (bit_at xs) (sym (difference_left (length xs) n j (j - k) (n / length xs) m (omega arith) (omega (arith, whole))))

pub rotated_right-is : (n k : ℕ) (xs : List Edge) → 1 ≤ length xs → k ≡ n % length xs → drop k xs ++ take k xs ≡ rotated_right n xs
unfolding rotated_right
rotated_right-is n k xs one e = joined-is (drop k xs) (take k xs) (length xs) (length xs - k) (λ j. bit_at xs ((j + n) % length xs)) (length-drop k xs) (rw (length-take-le k xs (omega (arith, small))) (omega (arith, small))) low high
  where
    small : k < length xs
    small = rw e (mod-lt n one)

    whole : length xs * (n / length xs) + k ≡ n
    whole = rw e (div-add-mod n (length xs))

    low : (j : ℕ) → j < length xs - k → bit_at (drop k xs) j ≡ bit_at xs ((j + n) % length xs)
    low j l = get_or-drop k xs j (constant false) ∙ ap (bit_at xs) (sym (sum_left (length xs) n j (k + j) (n / length xs) (omega arith) (omega (arith, whole))))

    high : (j : ℕ) → length xs - k ≤ j → j < length xs → bit_at (take k xs) (j - (length xs - k)) ≡ bit_at xs ((j + n) % length xs)
    high j l m = get_or-take k xs (j - (length xs - k)) (constant false) (omega (arith, small)) ∙ ap (bit_at xs) (sym (sum_left (length xs) n j (j - (length xs - k)) (suc (n / length xs)) (omega arith) (omega (arith, small, whole))))
