-- What the rows of vectors write, and what their literals stand for.
use Rattle.std.proofs.Common.{◌≡◌, ◌<◌, ◌≤◌, ◌+◌, ◌-◌, ◌*◌, ◌/◌, ◌%◌, ◌^◌, ℕ, zero, suc, Bool, true, false, ◌&&◌, ◌||◌, List, [], ◌∷◌, ◌++◌, map, refl, sym, ◌∙◌, ap, length, arith, append_assoc, add-one, zero-add}
use Rattle.std.specs.Prelude.{◌==◌}
use Rattle.std.specs.List.{zip, range_with_len}
use Rattle.std.proofs.lemmas.List.{length-map, map-append}
use Rattle.std.proofs.lemmas.List.FromFn.{length-map-range_with_len}
use Rattle.gate_shape.specs.Literal.{Literal}
use Rattle.gate_shape.specs.Edge.{Edge, constant, input, invert, value}
use Rattle.gate_shape.specs.Row.{Row, both, either, differ}
use Rattle.gate_shape.specs.Builds.{Meaning, StandAll}
use Rattle.gate_shape.proofs.Building.{stand_none, stand_cons, stands_input}
use Rattle.gate_shape.proofs.Looping.{each_onto-answer}
use Rattle.gate_shape.proofs.Values.{both-value, either-value}
use Rattle.bv_value.specs.Bits.{number_of, bits_of, at_each, differ as differ_bits}
use Rattle.bv_value.specs.BitVector.{BitVector}
use Rattle.bv_value.specs.Operations as is
use Rattle.bv_value.proofs.Bits.{number-bits, bits-number, length-bits}
use Rattle.blast_logic.specs.Words.{written_number, word}
use Rattle.blast_logic.specs.Vectors.{constants, inputs, pairwise}
use Rattle.blast_logic.proofs.Meanings.{stands_constant, differ_bits-value}
use Rattle.blast_logic.proofs.Numbers.{written-inverts}

-- the literal of a constant bit, and of an input bit
abbrev pub bit_literal : Bool → Literal
bit_literal b = record { node = 0; sign = b }

abbrev pub input_literal : ℕ → ℕ → Literal
input_literal k j = record { node = 1 + 128 * k + j; sign = false }

-- one more bit of a number, and one more input
pub bits_more : (w j rest : ℕ) (ls : List Literal) {more all : List Literal} {l : Literal} → j < w → more ≡ ls ++ l ∷ [] → l ≡ bit_literal (rest % 2 == 1) → ls ++ map bit_literal (bits_of (w - j) rest) ≡ all → more ++ map bit_literal (bits_of (w - (j + 1)) (rest / 2)) ≡ all
bits_more w j rest ls {more} {all} h q e k =
    let s : w - j ≡ suc (w - (j + 1)) = omega arith in
    rw (q, e) (append_assoc ls (bit_literal (rest % 2 == 1) ∷ []) (map bit_literal (bits_of (w - (j + 1)) (rest / 2))) ∙ (rw s at k))

range_more : (a n : ℕ) → range_with_len a (suc n) ≡ range_with_len a n ++ (a + n) ∷ []
range_more a zero = let e : a ≡ a + 0 = omega arith in ap (λ z. z ∷ []) e
range_more a (suc n) = let e : a + 1 + n ≡ a + suc n = omega arith in ap (λ z. a ∷ z) (range_more (a + 1) n ∙ ap (λ z. range_with_len (a + 1) n ++ z ∷ []) e)

pub inputs_more : (k j : ℕ) {ls more : List Literal} {l : Literal} → more ≡ ls ++ l ∷ [] → l ≡ input_literal k j → ls ≡ map (input_literal k) (range_with_len 0 j) → more ≡ map (input_literal k) (range_with_len 0 (j + 1))
inputs_more k j q e h =
    let r : range_with_len 0 (j + 1) ≡ range_with_len 0 j ++ j ∷ [] = ap (range_with_len 0) (add-one j) ∙ (range_more 0 j ∙ ap (λ z. range_with_len 0 j ++ z ∷ []) (zero-add j)) in
    rw (q, e, h, r) (sym (map-append (input_literal k) (range_with_len 0 j) (j ∷ [])))

stand_bits : (m : Meaning) (bs : List Bool) → StandAll m (map bit_literal bs) (map constant bs)
stand_bits m [] = stand_none refl
stand_bits m (b ∷ bs) = stand_cons refl (stands_constant b refl) (stand_bits m bs)

pub stand_constants : (m : Meaning) (x : BitVector) → StandAll m (map bit_literal (bits_of x.width x.number)) (constants x)
unfolding constants
stand_constants m x = stand_bits m (bits_of x.width x.number)

stand_range : (m : Meaning) (k s w : ℕ) → k < 64 → s + w ≤ 128 → StandAll m (map (input_literal k) (range_with_len s w)) (map (input false k) (range_with_len s w))
stand_range m k s zero h l = stand_none refl
stand_range m k s (suc w) h l = stand_cons refl (stands_input m (input_literal k s) k s h (omega arith) refl) (stand_range m k (s + 1) w h (omega arith))

pub stand_inputs : (m : Meaning) (k w : ℕ) → k < 64 → w ≤ 128 → StandAll m (map (input_literal k) (range_with_len 0 w)) (inputs k w)
unfolding inputs
stand_inputs m k w h l = stand_range m k 0 w h (omega arith)

pub constants-length : (x : BitVector) → length (constants x) ≡ x.width
unfolding constants
constants-length x = length-map (bits_of x.width x.number) constant ∙ length-bits x.width x.number

pub inputs-length : (k w : ℕ) → length (inputs k w) ≡ w
unfolding inputs
inputs-length k w = length-map-range_with_len (input false k) 0 w

pub pairwise-is : (row : Edge → Edge → Row Edge) (xs ys : List Edge) → (pairwise row xs ys).answer ≡ map (λ p. (row p.0 p.1).answer) (zip xs ys)
unfolding pairwise
pairwise-is row xs ys = each_onto-answer [] (λ p. row p.0 p.1) (zip xs ys)

pub pairwise-length : (row : Edge → Edge → Row Edge) (xs ys : List Edge) → length xs ≡ length ys → length (pairwise row xs ys).answer ≡ length xs
pairwise-length row xs ys l = ap length (pairwise-is row xs ys) ∙ go xs ys l
  where
    go : (xs ys : List Edge) → length xs ≡ length ys → length (map (λ p. (row p.0 p.1).answer) (zip xs ys)) ≡ length xs
    go [] ys l = refl
    go (x ∷ xs) [] l = absurd (omega (arith, l))
    go (x ∷ xs) (y ∷ ys) l = ap suc (go xs ys (omega (arith, l)))

module _ (bits : ℕ → ℕ → Bool) where
  values-constants : (bs : List Bool) → map (value bits) (map constant bs) ≡ bs
  unfolding value
  values-constants [] = refl
  values-constants (true ∷ bs) = ap (λ z. true ∷ z) (values-constants bs)
  values-constants (false ∷ bs) = ap (λ z. false ∷ z) (values-constants bs)

  pub constants-word : (x : BitVector) → x.number < 2 ^ x.width → word bits (constants x) ≡ x
  unfolding constants
  constants-word x below = rw (length-map (bits_of x.width x.number) constant, length-bits x.width x.number, values-constants (bits_of x.width x.number), number-bits x.width x.number below) refl

  values-inputs : (k : ℕ) (js : List ℕ) → map (value bits) (map (input false k) js) ≡ map (bits k) js
  unfolding value
  values-inputs k [] = refl
  values-inputs k (j ∷ js) = ap (λ z. bits k j ∷ z) (values-inputs k js)

  pub inputs-word : (k w : ℕ) → word bits (inputs k w) ≡ record { width = w; number = number_of (map (bits k) (range_with_len 0 w)) }
  unfolding inputs
  inputs-word k w = rw (length-map-range_with_len (input false k) 0 w, values-inputs k (range_with_len 0 w)) refl

  pub inverts-word : (xs : List Edge) → word bits (map invert xs) ≡ is.bitwise_not (word bits xs)
  inverts-word xs =
      let h = written-inverts bits xs in
      let n : written_number bits (map invert xs) ≡ 2 ^ length xs - 1 - written_number bits xs = omega (arith, h) in
      rw (length-map xs invert, n) refl

  -- the bits that a list writes are the values of its edges
  pub bits-written : (xs : List Edge) → bits_of (length xs) (written_number bits xs) ≡ map (value bits) xs
  bits-written xs = rw length-map at (bits-number (map (value bits) xs))

  values-pairs : (f : Bool → Bool → Bool) (row : Edge → Edge → Row Edge) → ((a b : Edge) → value bits (row a b).answer ≡ f (value bits a) (value bits b)) → (xs ys : List Edge) → map (value bits) (map (λ p. (row p.0 p.1).answer) (zip xs ys)) ≡ at_each f (map (value bits) xs) (map (value bits) ys)
  values-pairs f row law [] ys = refl
  values-pairs f row law (x ∷ xs) [] = refl
  values-pairs f row law (x ∷ xs) (y ∷ ys) = rw (law x y, values-pairs f row law xs ys) refl

  pub pairwise-word : (f : Bool → Bool → Bool) (row : Edge → Edge → Row Edge) → ((a b : Edge) → value bits (row a b).answer ≡ f (value bits a) (value bits b)) → (xs ys : List Edge) → length xs ≡ length ys → word bits (pairwise row xs ys).answer ≡ is.bitwise f (word bits xs) (word bits ys)
  pairwise-word f row law xs ys l = rw (pairwise-length row xs ys l, pairwise-is row xs ys, values-pairs f row law xs ys, bits-written xs, bits-written ys) refl

  pub and-word : (xs ys : List Edge) → length xs ≡ length ys → word bits (pairwise both xs ys).answer ≡ is.bitwise_and (word bits xs) (word bits ys)
  and-word xs ys l = pairwise-word ◌&&◌ both (both-value bits) xs ys l

  pub or-word : (xs ys : List Edge) → length xs ≡ length ys → word bits (pairwise either xs ys).answer ≡ is.bitwise_or (word bits xs) (word bits ys)
  or-word xs ys l = pairwise-word ◌||◌ either (either-value bits) xs ys l

  pub xor-word : (xs ys : List Edge) → length xs ≡ length ys → word bits (pairwise differ xs ys).answer ≡ is.bitwise_xor (word bits xs) (word bits ys)
  xor-word xs ys l = pairwise-word differ_bits differ (differ_bits-value bits) xs ys l
