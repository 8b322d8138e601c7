-- What shifts by bit vectors write.
use Rattle.std.proofs.Common.{◌≡◌, ◌≤◌, ◌+◌, ◌*◌, ◌^◌, ℕ, suc, Bool, true, false, not, ◌||◌, List, [], ◌∷◌, map, replicate, refl, sym, ◌∙◌, ap, subst, length, nat_lt, if◌then◌else◌, arith}
use Rattle.std.proofs.lemmas.Grind.{common_steps}
use Rattle.std.proofs.lemmas.List.{length-replicate}
use Rattle.std.specs.List.{enumerate_from}
use Rattle.gate_shape.specs.Edge.{Edge, constant, invert, value}
use Rattle.gate_shape.specs.Row.{plain, ◌>>=◌, along, either}
use Rattle.bv_value.specs.Bits.{number_of, bit_number}
use Rattle.blast_logic.specs.Words.{written_number}
use Rattle.bv_value.proofs.Bits.{pow_more}
use Rattle.blast_logic.proofs.Numbers.{written-falses}
use Rattle.gate_shape.proofs.Values.{either-value, value-invert}
use Rattle.bv_value.specs.BitVector.{BitVector}
use Rattle.bv_value.specs.Operations as is
use Rattle.blast_logic.specs.Chosen.{chosen, masked}
use Rattle.blast_logic.proofs.Picking.{chosen-word, chosen-length, masked-value, masked-length}
use Rattle.blast_logic.specs.Words.{word}
use Rattle.blast_logic.specs.Words.{top_bit}
use Rattle.blast_shift.specs.Wires.{shifted_right_signed}
use Rattle.blast_shift.specs.Stages.{stage, stages, or_overflow, overflow, variable_shift, variable_shift_signed}
use Rattle.blast_shift.proofs.Moves.{IsMove, is_move_down_signed}

-- the amount that bits write from place k on, those of them whose weight is below the width
abbrev part_within : ℕ → ℕ → Bool → ℕ
part_within w k b = if nat_lt (2 ^ k) w then bit_number b * 2 ^ k else 0

within : ℕ → ℕ → List Bool → ℕ
within w k [] = 0
within w k (b ∷ bs) = part_within w k b + within w (k + 1) bs

-- whether one of the other bits is true
abbrev part_beyond : ℕ → ℕ → Bool → Bool
part_beyond w k b = if nat_lt (2 ^ k) w then false else b

overflows : ℕ → ℕ → List Bool → Bool
overflows w k [] = false
overflows w k (b ∷ bs) = part_beyond w k b || overflows w (k + 1) bs

sums : (b p q n : ℕ) → q ≡ 2 * p → b * p + q * n ≡ p * (b + 2 * n)
sums b p q n e = rw e (omega arith)

twice : (k : ℕ) → 2 ^ (k + 1) ≡ 2 * 2 ^ k
twice k = (let e : k + 1 ≡ suc k = omega arith in ap (λ z. 2 ^ z) e) ∙ pow_more k

-- the whole amount where none of them is true
within-whole : (w k : ℕ) (bs : List Bool) → overflows w k bs ≡ false → within w k bs ≡ 2 ^ k * number_of bs
unfolding within overflows
within-whole w k [] h = omega arith
within-whole w k (b ∷ bs) h = go (within-whole w (k + 1) bs) (nat_lt (2 ^ k) w) b h
  where
    go : (overflows w (k + 1) bs ≡ false → within w (k + 1) bs ≡ 2 ^ (k + 1) * number_of bs) → (t c : Bool) → (if t then false else c) || overflows w (k + 1) bs ≡ false → (if t then bit_number c * 2 ^ k else 0) + within w (k + 1) bs ≡ 2 ^ k * (bit_number c + 2 * number_of bs)
    go rest true c h = rw (rest h) (sums (bit_number c) (2 ^ k) (2 ^ (k + 1)) (number_of bs) (twice k))
    go rest false true h = absurd (cc)
    go rest false false h = rw (rest h) ((let e : 0 + 2 ^ (k + 1) * number_of bs ≡ 0 * 2 ^ k + 2 ^ (k + 1) * number_of bs = omega arith in e) ∙ sums 0 (2 ^ k) (2 ^ (k + 1)) (number_of bs) (twice k))

more : (w k c n : ℕ) → w ≤ 2 ^ (k + 1) * n → w ≤ 2 ^ k * (c + 2 * n)
more w k c n l = let e = sums c (2 ^ k) (2 ^ (k + 1)) n (twice k) in omega arith

last : (w p n : ℕ) → w ≤ p → w ≤ p * (1 + 2 * n)
last w p n l = let e : p * (1 + 2 * n) ≡ p + p * (2 * n) = omega arith in omega arith

not_less : (p w : ℕ) → nat_lt p w ≡ false → w ≤ p
not_less p w e = grind (arith, common_steps)

-- an amount that has one of them true is at least the width
overflows-over : (w k : ℕ) (bs : List Bool) → overflows w k bs ≡ true → w ≤ 2 ^ k * number_of bs
unfolding overflows
overflows-over w k [] h = absurd (cc)
overflows-over w k (b ∷ bs) h = go (overflows-over w (k + 1) bs) (nat_lt (2 ^ k) w) refl b h
  where
    go : (overflows w (k + 1) bs ≡ true → w ≤ 2 ^ (k + 1) * number_of bs) → (t : Bool) → nat_lt (2 ^ k) w ≡ t → (c : Bool) → (if t then false else c) || overflows w (k + 1) bs ≡ true → w ≤ 2 ^ k * (bit_number c + 2 * number_of bs)
    go rest true e c h = more w k (bit_number c) (number_of bs) (rest h)
    go rest false e true h = last w (2 ^ k) (number_of bs) (not_less (2 ^ k) w e)
    go rest false e false h = more w k 0 (number_of bs) (rest h)

or-false : (a : Bool) → a ≡ a || false
or-false true = refl
or-false false = refl

or-assoc : (a b c : Bool) → (a || b) || c ≡ a || (b || c)
or-assoc true b c = refl
or-assoc false b c = refl

or_overflow-value : (bits : ℕ → ℕ → Bool) (w k : ℕ) (o y : Edge) → value bits (or_overflow w o (k, y)).answer ≡ value bits o || part_beyond w k (value bits y)
unfolding or_overflow
or_overflow-value bits w k o y = go (nat_lt (2 ^ k) w)
  where
    go : (t : Bool) → value bits (if t then plain o else either o y).answer ≡ value bits o || (if t then false else value bits y)
    go true = or-false (value bits o)
    go false = either-value bits o y

overflow_from-value : (bits : ℕ → ℕ → Bool) (w k : ℕ) (o : Edge) (ys : List Edge) → value bits (along (or_overflow w) o (enumerate_from k ys)).answer ≡ value bits o || overflows w k (map (value bits) ys)
unfolding along ◌>>=◌ overflows
overflow_from-value bits w k o [] = or-false (value bits o)
overflow_from-value bits w k o (y ∷ ys) =
    overflow_from-value bits w (k + 1) (or_overflow w o (k, y)).answer ys
    ∙ ap (λ z. z || overflows w (k + 1) (map (value bits) ys)) (or_overflow-value bits w k o y)
    ∙ or-assoc (value bits o) (part_beyond w k (value bits y)) (overflows w (k + 1) (map (value bits) ys))

overflow-value : (bits : ℕ → ℕ → Bool) (w : ℕ) (ys : List Edge) → value bits (overflow w ys).answer ≡ overflows w 0 (map (value bits) ys)
unfolding overflow value
overflow-value bits w ys = overflow_from-value bits w 0 (constant false) ys

one_times : (n : ℕ) → 2 ^ 0 * n ≡ n
one_times n = omega arith

module _ {move : ℕ → List Edge → List Edge} {op : BitVector → ℕ → BitVector} {Fits : ℕ → Type 0} {fill : List Edge → Edge} (law : IsMove move op Fits fill) where
  op-none : (bits : ℕ → ℕ → Bool) (xs : List Edge) → Fits (length xs) → op (word bits xs) 0 ≡ word bits xs
  op-none bits xs f = sym (law.means bits 0 xs f) ∙ ap (word bits) (law.none xs)

  op-again : (bits : ℕ → ℕ → Bool) (a b : ℕ) (xs : List Edge) → Fits (length xs) → op (op (word bits xs) a) b ≡ op (word bits xs) (a + b)
  op-again bits a b xs f =
      ap (λ z. op z b) (sym (law.means bits a xs f)) ∙ sym (law.means bits b (move a xs) (subst Fits (sym (law.keeps_length a xs)) f))
      ∙ ap (word bits) (law.again a b xs) ∙ law.means bits (a + b) xs f

  stage-length : (xs : List Edge) (k : ℕ) (y : Edge) → length (stage move xs (k, y)).answer ≡ length xs
  unfolding stage
  stage-length xs k y = go (nat_lt (2 ^ k) (length xs))
    where
      go : (t : Bool) → length (if t then chosen y (move (2 ^ k) xs) xs else plain xs).answer ≡ length xs
      go true = chosen-length y (move (2 ^ k) xs) xs (law.keeps_length (2 ^ k) xs) ∙ law.keeps_length (2 ^ k) xs
      go false = refl

  stage-word : (bits : ℕ → ℕ → Bool) (xs : List Edge) (k : ℕ) (y : Edge) → Fits (length xs) → word bits (stage move xs (k, y)).answer ≡ op (word bits xs) (part_within (length xs) k (value bits y))
  unfolding stage
  stage-word bits xs k y f = go (nat_lt (2 ^ k) (length xs))
    where
      moved_or : (b : Bool) → (if b then word bits (move (2 ^ k) xs) else word bits xs) ≡ op (word bits xs) (bit_number b * 2 ^ k)
      moved_or true = law.means bits (2 ^ k) xs f ∙ (let e : 2 ^ k ≡ 1 * 2 ^ k = omega arith in ap (op (word bits xs)) e)
      moved_or false = sym (op-none bits xs f) ∙ (let e : 0 ≡ 0 * 2 ^ k = omega arith in ap (op (word bits xs)) e)

      go : (t : Bool) → word bits (if t then chosen y (move (2 ^ k) xs) xs else plain xs).answer ≡ op (word bits xs) (if t then bit_number (value bits y) * 2 ^ k else 0)
      go true = chosen-word bits y (move (2 ^ k) xs) xs (law.keeps_length (2 ^ k) xs) ∙ moved_or (value bits y)
      go false = sym (op-none bits xs f)

  stages_from-length : (xs ys : List Edge) (k : ℕ) → length (along (stage move) xs (enumerate_from k ys)).answer ≡ length xs
  unfolding along ◌>>=◌
  stages_from-length xs [] k = refl
  stages_from-length xs (y ∷ ys) k = stages_from-length (stage move xs (k, y)).answer ys (k + 1) ∙ stage-length xs k y

  stages_from-word : (bits : ℕ → ℕ → Bool) (xs ys : List Edge) (k : ℕ) → Fits (length xs) → word bits (along (stage move) xs (enumerate_from k ys)).answer ≡ op (word bits xs) (within (length xs) k (map (value bits) ys))
  unfolding along ◌>>=◌ within
  stages_from-word bits xs [] k f = sym (op-none bits xs f)
  stages_from-word bits xs (y ∷ ys) k f =
      let next : List Edge = (stage move xs (k, y)).answer in
      let same : length next ≡ length xs = stage-length xs k y in
      stages_from-word bits next ys (k + 1) (subst Fits (sym same) f)
      ∙ (ap (λ w. op (word bits next) (within w (k + 1) (map (value bits) ys))) same
      ∙ (ap (λ z. op z (within (length xs) (k + 1) (map (value bits) ys))) (stage-word bits xs k y f)
      ∙ op-again bits (part_within (length xs) k (value bits y)) (within (length xs) (k + 1) (map (value bits) ys)) xs f))

  pub stages-length : (xs ys : List Edge) → length (stages move xs ys).answer ≡ length xs
  unfolding stages
  stages-length xs ys = stages_from-length xs ys 0

  -- the stages where no bit of the amount is too great, and what is left where one is
  stages-word : (bits : ℕ → ℕ → Bool) (xs ys : List Edge) → Fits (length xs) → overflows (length xs) 0 (map (value bits) ys) ≡ false → word bits (stages move xs ys).answer ≡ op (word bits xs) (written_number bits ys)
  unfolding stages
  stages-word bits xs ys f h = stages_from-word bits xs ys 0 f ∙ ap (op (word bits xs)) (within-whole (length xs) 0 (map (value bits) ys) h ∙ one_times (number_of (map (value bits) ys)))

  out-word : (bits : ℕ → ℕ → Bool) (xs ys : List Edge) → Fits (length xs) → overflows (length xs) 0 (map (value bits) ys) ≡ true → word bits (replicate (length xs) (fill xs)) ≡ op (word bits xs) (written_number bits ys)
  out-word bits xs ys f h =
      let over = rw one_times at (overflows-over (length xs) 0 (map (value bits) ys) h) in
      ap (word bits) (sym (law.out (written_number bits ys) xs over)) ∙ law.means bits (written_number bits ys) xs f

masked-word : (bits : ℕ → ℕ → Bool) (o : Edge) (xs : List Edge) → word bits (masked (invert o) xs).answer ≡ (if value bits o then word bits (replicate (length xs) (constant false)) else word bits xs)
masked-word bits o xs = rw (masked-length (invert o) xs, masked-value bits (invert o) xs, value-invert bits o) (go (value bits o))
  where
    go : (b : Bool) → record { width = length xs; number = bit_number (not b) * written_number bits xs } ≡ (if b then word bits (replicate (length xs) (constant false)) else word bits xs)
    go true = rw (length-replicate (length xs) (constant false), written-falses bits (length xs)) (let e : 0 * written_number bits xs ≡ 0 = omega arith in rw e refl)
    go false = let e : 1 * written_number bits xs ≡ written_number bits xs = omega arith in rw e refl

pub variable_shift-word : {move : ℕ → List Edge → List Edge} {op : BitVector → ℕ → BitVector} {Fits : ℕ → Type 0} → IsMove move op Fits (λ xs. constant false) → (bits : ℕ → ℕ → Bool) (xs ys : List Edge) → Fits (length xs) → word bits (variable_shift move xs ys).answer ≡ op (word bits xs) (written_number bits ys)
unfolding variable_shift ◌>>=◌
variable_shift-word {move} {op} law bits xs ys f =
    masked-word bits (overflow (length xs) ys).answer (stages move xs ys).answer
    ∙ (ap (λ b. if b then word bits (replicate (length (stages move xs ys).answer) (constant false)) else word bits (stages move xs ys).answer) (overflow-value bits (length xs) ys)
    ∙ go (overflows (length xs) 0 (map (value bits) ys)) refl)
  where
    go : (b : Bool) → overflows (length xs) 0 (map (value bits) ys) ≡ b → (if b then word bits (replicate (length (stages move xs ys).answer) (constant false)) else word bits (stages move xs ys).answer) ≡ op (word bits xs) (written_number bits ys)
    go true h = ap (λ w. word bits (replicate w (constant false))) (stages-length law xs ys) ∙ out-word law bits xs ys f h
    go false h = stages-word law bits xs ys f h

pub variable_shift_signed-word : (bits : ℕ → ℕ → Bool) (xs ys : List Edge) → 1 ≤ length xs → word bits (variable_shift_signed xs ys).answer ≡ is.ashr_by (word bits xs) (written_number bits ys)
unfolding variable_shift_signed ◌>>=◌
variable_shift_signed-word bits xs ys f =
    chosen-word bits (overflow (length xs) ys).answer (replicate (length xs) (top_bit xs)) (stages shifted_right_signed xs ys).answer (length-replicate (length xs) (top_bit xs) ∙ sym (stages-length is_move_down_signed xs ys))
    ∙ (ap (λ b. if b then word bits (replicate (length xs) (top_bit xs)) else word bits (stages shifted_right_signed xs ys).answer) (overflow-value bits (length xs) ys)
    ∙ go (overflows (length xs) 0 (map (value bits) ys)) refl)
  where
    go : (b : Bool) → overflows (length xs) 0 (map (value bits) ys) ≡ b → (if b then word bits (replicate (length xs) (top_bit xs)) else word bits (stages shifted_right_signed xs ys).answer) ≡ is.ashr_by (word bits xs) (written_number bits ys)
    go true h = out-word is_move_down_signed bits xs ys f h
    go false h = stages-word is_move_down_signed bits xs ys f h
