-- What the three moves have in common: they keep the length, one move after another is a move by the sum, a move by
-- nothing leaves all bits, and one by the width or more leaves copies of what comes in.
use Rattle.std.proofs.Common.{◌≡◌, ◌<◌, ◌≤◌, ◌+◌, ◌-◌, ℕ, Bool, true, false, List, refl, sym, ◌∙◌, ap, length, replicate, min, nat_lt, if◌then◌else◌, arith, inl, inr}
use Rattle.std.proofs.lemmas.Grind.{common_steps}
use Rattle.std.proofs.lemmas.Bool.{cases_lt}
use Rattle.std.proofs.lemmas.List.{length-replicate, get_or-replicate, get_or_past}
use Rattle.std.proofs.lemmas.List.FromFn.{fill_by_all, get_or-map-range_with_len}
use Rattle.gate_shape.specs.Edge.{Edge, constant}
use Rattle.bv_value.specs.BitVector.{BitVector}
use Rattle.bv_value.specs.Operations as is
use Rattle.blast_logic.specs.Words.{word}
use Rattle.blast_logic.specs.Words.{bit_at, top_bit}
use Rattle.blast_shift.specs.Wires.{shifted_left, shifted_right, shifted_right_signed}
use Rattle.blast_shift.proofs.Values.{shifted_left-length, shifted_right-length, shifted_right_signed-length, shifted_left-value, shifted_right-value, shifted_right_signed-value}

-- a move, the operator that it means where the width fits it, and what comes in
pub record IsMove (move : ℕ → List Edge → List Edge) (op : BitVector → ℕ → BitVector) (Fits : ℕ → Type 0) (fill : List Edge → Edge) : Type 0 where
  pub keeps_length : (n : ℕ) (xs : List Edge) → length (move n xs) ≡ length xs
  pub none : (xs : List Edge) → move 0 xs ≡ xs
  pub again : (a b : ℕ) (xs : List Edge) → move b (move a xs) ≡ move (a + b) xs
  pub out : (n : ℕ) (xs : List Edge) → length xs ≤ n → move n xs ≡ replicate (length xs) (fill xs)
  pub means : (bits : ℕ → ℕ → Bool) (n : ℕ) (xs : List Edge) → Fits (length xs) → word bits (move n xs) ≡ op (word bits xs) n

shifted_left-at : (n : ℕ) (xs : List Edge) (j : ℕ) → j < length xs → bit_at (shifted_left n xs) j ≡ (if nat_lt j n then constant false else bit_at xs (j - n))
unfolding shifted_left
shifted_left-at n xs j l = get_or-map-range_with_len (λ j. if nat_lt j n then constant false else bit_at xs (j - n)) 0 (length xs) j j (constant false) l (omega arith)

shifted_right-at : (n : ℕ) (xs : List Edge) (j : ℕ) → j < length xs → bit_at (shifted_right n xs) j ≡ bit_at xs (j + n)
unfolding shifted_right
shifted_right-at n xs j l = get_or-map-range_with_len (λ j. bit_at xs (j + n)) 0 (length xs) j j (constant false) l (omega arith)

shifted_right_signed-at : (n : ℕ) (xs : List Edge) (j : ℕ) → j < length xs → bit_at (shifted_right_signed n xs) j ≡ bit_at xs (min (j + n) (length xs - 1))
unfolding shifted_right_signed
shifted_right_signed-at n xs j l = get_or-map-range_with_len (λ j. bit_at xs (min (j + n) (length xs - 1))) 0 (length xs) j j (constant false) l (omega arith)

-- a list, bit by bit
shifted_left-is_by : (n : ℕ) (xs ys : List Edge) → length ys ≡ length xs → ((j : ℕ) → j < length xs → bit_at ys j ≡ (if nat_lt j n then constant false else bit_at xs (j - n))) → ys ≡ shifted_left n xs
unfolding shifted_left
shifted_left-is_by n xs ys e h = fill_by_all (λ j. if nat_lt j n then constant false else bit_at xs (j - n)) ys (length xs) (constant false) e h

shifted_right-is_by : (n : ℕ) (xs ys : List Edge) → length ys ≡ length xs → ((j : ℕ) → j < length xs → bit_at ys j ≡ bit_at xs (j + n)) → ys ≡ shifted_right n xs
unfolding shifted_right
shifted_right-is_by n xs ys e h = fill_by_all (λ j. bit_at xs (j + n)) ys (length xs) (constant false) e h

shifted_right_signed-is_by : (n : ℕ) (xs ys : List Edge) → length ys ≡ length xs → ((j : ℕ) → j < length xs → bit_at ys j ≡ bit_at xs (min (j + n) (length xs - 1))) → ys ≡ shifted_right_signed n xs
unfolding shifted_right_signed
shifted_right_signed-is_by n xs ys e h = fill_by_all (λ j. bit_at xs (min (j + n) (length xs - 1))) ys (length xs) (constant false) e h

shifted_left-none : (xs : List Edge) → shifted_left 0 xs ≡ xs
shifted_left-none xs = sym (shifted_left-is_by 0 xs xs refl (λ j l. at j))
  where
    at : (j : ℕ) → bit_at xs j ≡ (if nat_lt j 0 then constant false else bit_at xs (j - 0))
    at j =
        let t : nat_lt j 0 ≡ false = grind (arith, common_steps) in
        let e : j ≡ j - 0 = omega arith in
        rw t (ap (bit_at xs) e)

shifted_left-again : (a b : ℕ) (xs : List Edge) → shifted_left b (shifted_left a xs) ≡ shifted_left (a + b) xs
shifted_left-again a b xs = shifted_left-is_by (a + b) xs (shifted_left b (shifted_left a xs)) (shifted_left-length b (shifted_left a xs) ∙ shifted_left-length a xs) at
  where
    inner : (j : ℕ) → j < length xs → b ≤ j → bit_at (shifted_left a xs) (j - b) ≡ (if nat_lt j (a + b) then constant false else bit_at xs (j - (a + b)))
    inner j l over =
        shifted_left-at a xs (j - b) (omega arith) ∙ (let t : nat_lt (j - b) a ≡ nat_lt j (a + b) = grind (arith, common_steps) in
        let e : j - b - a ≡ j - (a + b) = omega arith in
        rw (t, e) refl)

    at : (j : ℕ) → j < length xs → bit_at (shifted_left b (shifted_left a xs)) j ≡ (if nat_lt j (a + b) then constant false else bit_at xs (j - (a + b)))
    at j l =
        shifted_left-at b (shifted_left a xs) j (rw (shifted_left-length a xs) l) ∙ elim (cases_lt j b) [
          | inl below ↦ (let t : nat_lt j b ≡ true = grind (arith, common_steps) in
              let u : nat_lt j (a + b) ≡ true = grind (arith, common_steps) in
              rw (t, u) refl)
          | inr over ↦ (let t : nat_lt j b ≡ false = grind (arith, common_steps) in
              rw t (inner j l over))
        ]

copies_at : (n j : ℕ) (e : Edge) → j < n → bit_at (replicate n e) j ≡ e
copies_at n j e l = get_or-replicate n j e (constant false) l

shifted_left-out : (n : ℕ) (xs : List Edge) → length xs ≤ n → shifted_left n xs ≡ replicate (length xs) (constant false)
shifted_left-out n xs h = sym (shifted_left-is_by n xs (replicate (length xs) (constant false)) (length-replicate (length xs) (constant false)) at)
  where
    at : (j : ℕ) → j < length xs → bit_at (replicate (length xs) (constant false)) j ≡ (if nat_lt j n then constant false else bit_at xs (j - n))
    at j l =
        let t : nat_lt j n ≡ true = grind (arith, common_steps) in
        rw t (copies_at (length xs) j (constant false) l)

shifted_right-none : (xs : List Edge) → shifted_right 0 xs ≡ xs
shifted_right-none xs = sym (shifted_right-is_by 0 xs xs refl (λ j l. (let e : j ≡ j + 0 = omega arith in ap (bit_at xs) e)))

shifted_right-again : (a b : ℕ) (xs : List Edge) → shifted_right b (shifted_right a xs) ≡ shifted_right (a + b) xs
shifted_right-again a b xs = shifted_right-is_by (a + b) xs (shifted_right b (shifted_right a xs)) (shifted_right-length b (shifted_right a xs) ∙ shifted_right-length a xs) at
  where
    at : (j : ℕ) → j < length xs → bit_at (shifted_right b (shifted_right a xs)) j ≡ bit_at xs (j + (a + b))
    at j l =
        shifted_right-at b (shifted_right a xs) j (rw (shifted_right-length a xs) l) ∙ elim (cases_lt (j + b) (length xs)) [
          | inl below ↦ shifted_right-at a xs (j + b) below ∙ (let e : j + b + a ≡ j + (a + b) = omega arith in ap (bit_at xs) e)
          | inr over ↦ get_or_past (shifted_right a xs) (j + b) (constant false) (rw (shifted_right-length a xs) over) ∙ sym (get_or_past xs (j + (a + b)) (constant false) (omega arith))
        ]

shifted_right-out : (n : ℕ) (xs : List Edge) → length xs ≤ n → shifted_right n xs ≡ replicate (length xs) (constant false)
shifted_right-out n xs h = sym (shifted_right-is_by n xs (replicate (length xs) (constant false)) (length-replicate (length xs) (constant false)) (λ j l. copies_at (length xs) j (constant false) l ∙ sym (get_or_past xs (j + n) (constant false) (omega arith))))

shifted_right_signed-none : (xs : List Edge) → shifted_right_signed 0 xs ≡ xs
shifted_right_signed-none xs = sym (shifted_right_signed-is_by 0 xs xs refl (λ j l. (let e : j ≡ min (j + 0) (length xs - 1) = omega arith in ap (bit_at xs) e)))

shifted_right_signed-again : (a b : ℕ) (xs : List Edge) → shifted_right_signed b (shifted_right_signed a xs) ≡ shifted_right_signed (a + b) xs
shifted_right_signed-again a b xs = shifted_right_signed-is_by (a + b) xs (shifted_right_signed b (shifted_right_signed a xs)) (shifted_right_signed-length b (shifted_right_signed a xs) ∙ shifted_right_signed-length a xs) at
  where
    at : (j : ℕ) → j < length xs → bit_at (shifted_right_signed b (shifted_right_signed a xs)) j ≡ bit_at xs (min (j + (a + b)) (length xs - 1))
    at j l =
        let e : min (min (j + b) (length xs - 1) + a) (length xs - 1) ≡ min (j + (a + b)) (length xs - 1) = omega arith in
        shifted_right_signed-at b (shifted_right_signed a xs) j (rw (shifted_right_signed-length a xs) l)
        ∙ (ap (λ w. bit_at (shifted_right_signed a xs) (min (j + b) (w - 1))) (shifted_right_signed-length a xs)
        ∙ (shifted_right_signed-at a xs (min (j + b) (length xs - 1)) (omega arith) ∙ ap (bit_at xs) e))

shifted_right_signed-out : (n : ℕ) (xs : List Edge) → length xs ≤ n → shifted_right_signed n xs ≡ replicate (length xs) (top_bit xs)
shifted_right_signed-out n xs h = sym (shifted_right_signed-is_by n xs (replicate (length xs) (top_bit xs)) (length-replicate (length xs) (top_bit xs)) (λ j l. copies_at (length xs) j (top_bit xs) l ∙ (let e : length xs - 1 ≡ min (j + n) (length xs - 1) = omega arith in ap (bit_at xs) e)))

pub is_move_up : IsMove shifted_left is.shl_by (λ w. Unit {0}) (λ xs. constant false)
is_move_up = record { keeps_length = shifted_left-length; none = shifted_left-none; again = shifted_left-again; out = shifted_left-out; means = λ bits n xs f. shifted_left-value bits n xs }

pub is_move_down : IsMove shifted_right is.lshr_by (λ w. Unit {0}) (λ xs. constant false)
is_move_down = record { keeps_length = shifted_right-length; none = shifted_right-none; again = shifted_right-again; out = shifted_right-out; means = λ bits n xs f. shifted_right-value bits n xs }

pub is_move_down_signed : IsMove shifted_right_signed is.ashr_by (λ w. 1 ≤ w) top_bit
is_move_down_signed = record { keeps_length = shifted_right_signed-length; none = shifted_right_signed-none; again = shifted_right_signed-again; out = shifted_right_signed-out; means = shifted_right_signed-value }
