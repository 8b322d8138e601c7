-- What the rows that make no gate write: the operators on bit vectors.
use Rattle.std.proofs.Common.{◌≡◌, ◌<◌, ◌≤◌, ◌+◌, ◌-◌, ◌*◌, ◌/◌, ◌%◌, ◌^◌, ℕ, zero, suc, Bool, true, false, not, List, [], ◌∷◌, ◌++◌, map, take, drop, replicate, refl, sym, ◌∙◌, ap, length, min, get_or, arith, pos, negsuc}
use Rattle.std.specs.Prelude.{nat_le}
use Rattle.std.proofs.lemmas.List.{length-append, length-map, map-append, drop-map, take-map, get_or-map}
use Rattle.std.proofs.lemmas.List.FromFn.{length-map-range_with_len}
use Rattle.std.proofs.Math.Nat.{mod-eq_of_lt, mod-lt, div-le_self}
use Rattle.gate_shape.specs.Edge.{Edge, constant, value}
use Rattle.bv_value.specs.Bits.{number_of}
use Rattle.blast_logic.specs.Words.{written_number}
use Rattle.blast_logic.proofs.Numbers.{written-below, written-append}
use Rattle.bv_value.specs.BitVector.{residue, floor_quotient, signed}
use Rattle.bv_value.specs.Operations as is
use Rattle.bv_value.proofs.Signs.{signed_low, signed_high}
use Rattle.blast_logic.specs.Words.{word}
use Rattle.blast_logic.specs.Words.{bit_at, top_bit}
use Rattle.blast_shift.specs.Wires.{appended, shifted_left, shifted_right, shifted_right_signed, rotated_left, rotated_right, extracted, with_width, sign_extended}
use Rattle.blast_shift.proofs.Cuts.{shifted_left-is, shifted_right-is, shifted_right_signed-is, rotated_left-is, rotated_right-is, extracted-is, with_width-is, sign_extended-is}
use Rattle.blast_shift.proofs.Amounts.{number-resized, number-resized_ones, number-left_zeros, number-left_ones, number-shifted_left, number-rotated_left, number-rotated_right, number-turned, bit-is, top-is}

pub shifted_left-length : (n : ℕ) (xs : List Edge) → length (shifted_left n xs) ≡ length xs
unfolding shifted_left
shifted_left-length n xs = length-map-range_with_len _ 0 (length xs)

pub shifted_right-length : (n : ℕ) (xs : List Edge) → length (shifted_right n xs) ≡ length xs
unfolding shifted_right
shifted_right-length n xs = length-map-range_with_len _ 0 (length xs)

pub shifted_right_signed-length : (n : ℕ) (xs : List Edge) → length (shifted_right_signed n xs) ≡ length xs
unfolding shifted_right_signed
shifted_right_signed-length n xs = length-map-range_with_len _ 0 (length xs)

rotated_left-length : (n : ℕ) (xs : List Edge) → length (rotated_left n xs) ≡ length xs
unfolding rotated_left
rotated_left-length n xs = length-map-range_with_len _ 0 (length xs)

rotated_right-length : (n : ℕ) (xs : List Edge) → length (rotated_right n xs) ≡ length xs
unfolding rotated_right
rotated_right-length n xs = length-map-range_with_len _ 0 (length xs)

extracted-length : (n count : ℕ) (xs : List Edge) → length (extracted n count xs) ≡ count
unfolding extracted
extracted-length n count xs = length-map-range_with_len _ 0 count

with_width-length : (width : ℕ) (xs : List Edge) → length (with_width width xs) ≡ width
unfolding with_width
with_width-length width xs = length-map-range_with_len _ 0 width

sign_extended-length : (width : ℕ) (xs : List Edge) → length (sign_extended width xs) ≡ width
unfolding sign_extended
sign_extended-length width xs = length-map-range_with_len _ 0 width

module _ (bits : ℕ → ℕ → Bool) where
  -- the bits that edges have
  abbrev bools : List Edge → List Bool
  bools es = map (value bits) es

  same : (es : List Edge) → length (bools es) ≡ length es
  same es = length-map es (value bits)

  values-copies : (n : ℕ) (e : Edge) → bools (replicate n e) ≡ replicate n (value bits e)
  values-copies zero e = refl
  values-copies (suc n) e = ap (λ z. value bits e ∷ z) (values-copies n e)

  values-resized : (ys : List Edge) (fill : Edge) (width : ℕ) → bools (take width ys ++ replicate (width - length ys) fill) ≡ take width (bools ys) ++ replicate (width - length (bools ys)) (value bits fill)
  values-resized ys fill width = rw (map-append (value bits) (take width ys) (replicate (width - length ys) fill), values-copies (width - length ys) fill, ← take-map (value bits) width ys, same ys) refl

  values-left : (k : ℕ) (xs : List Edge) (fill : Edge) (width : ℕ) → bools (take width (drop k xs) ++ replicate (width - length (drop k xs)) fill) ≡ take width (drop k (bools xs)) ++ replicate (width - length (drop k (bools xs))) (value bits fill)
  values-left k xs fill width = rw (values-resized (drop k xs) fill width, ← drop-map (value bits) k xs) refl

  false-value : value bits (constant false) ≡ false
  unfolding value
  false-value = refl

  -- the bit vector of a list of that many edges that write this number
  word-is : (es : List Edge) (w k : ℕ) → length es ≡ w → written_number bits es ≡ k → word bits es ≡ record { width = w; number = k }
  word-is es w k e f = rw (e, f) refl

  values-shifted_left : (k : ℕ) (xs : List Edge) → bools (replicate k (constant false) ++ take (length xs - k) xs) ≡ replicate k false ++ take (length (bools xs) - k) (bools xs)
  values-shifted_left k xs = rw (map-append (value bits) (replicate k (constant false)) (take (length xs - k) xs), values-copies k (constant false), false-value, ← take-map (value bits) (length xs - k) xs, same xs) refl

  pub shifted_left-value : (n : ℕ) (xs : List Edge) → word bits (shifted_left n xs) ≡ is.shl_by (word bits xs) n
  shifted_left-value n xs =
      let k : ℕ = min n (length xs) in
      let whole = rw (same xs) at (number-shifted_left (bools xs) n k (ap (min n) (sym (same xs)))) in
      word-is (shifted_left n xs) (length xs) _ (shifted_left-length n xs) (ap (written_number bits) (sym (shifted_left-is n k xs refl)) ∙ ap number_of (values-shifted_left k xs) ∙ rw same whole)

  -- what is left behind the first places, with zeros above
  left-written : (n k width : ℕ) (xs : List Edge) → k ≡ min n (length xs) → written_number bits (take width (drop k xs) ++ replicate (width - length (drop k xs)) (constant false)) ≡ written_number bits xs / 2 ^ n % 2 ^ width
  left-written n k width xs e = ap number_of (values-left k xs (constant false) width ∙ ap (λ z. take width (drop k (bools xs)) ++ replicate (width - length (drop k (bools xs))) z) false-value) ∙ number-left_zeros (bools xs) n k width (e ∙ ap (min n) (sym (same xs)))

  pub shifted_right-value : (n : ℕ) (xs : List Edge) → word bits (shifted_right n xs) ≡ is.lshr_by (word bits xs) n
  shifted_right-value n xs =
      let low : written_number bits xs < 2 ^ length xs = written-below bits xs in
      let small : written_number bits xs / 2 ^ n < 2 ^ length xs = omega (arith, div-le_self (written_number bits xs) (2 ^ n)) in
      word-is (shifted_right n xs) (length xs) _ (shifted_right-length n xs) (ap (written_number bits) (sym (shifted_right-is n (min n (length xs)) xs refl)) ∙ left-written n (min n (length xs)) (length xs) xs refl ∙ mod-eq_of_lt small)

  pub extracted-value : (start count : ℕ) (xs : List Edge) → word bits (extracted start count xs) ≡ is.extract (word bits xs) start count
  extracted-value n count xs = word-is (extracted n count xs) count _ (extracted-length n count xs) (ap (written_number bits) (sym (extracted-is n (min n (length xs)) count xs refl)) ∙ left-written n (min n (length xs)) count xs refl)

  pub with_width-value : (width : ℕ) (xs : List Edge) → word bits (with_width width xs) ≡ is.set_width (word bits xs) width
  with_width-value width xs = word-is (with_width width xs) width _ (with_width-length width xs) (ap (written_number bits) (sym (with_width-is width xs)) ∙ ap number_of (values-resized xs (constant false) width ∙ ap (λ z. take width (bools xs) ++ replicate (width - length (bools xs)) z) false-value) ∙ number-resized (bools xs) width)

  bit-bools : (xs : List Edge) (i : ℕ) → get_or (bools xs) i false ≡ value bits (bit_at xs i)
  unfolding value
  bit-bools [] i = refl
  bit-bools (x ∷ xs) zero = refl
  bit-bools (x ∷ xs) (suc i) = bit-bools xs i

  pub bit-value : (i : ℕ) (xs : List Edge) → value bits (bit_at xs i) ≡ is.bit (word bits xs) i
  bit-value i xs = sym (bit-bools xs i) ∙ bit-is (bools xs) i

  -- the sign
  top-value : (xs : List Edge) → 1 ≤ length xs → nat_le (2 ^ length xs / 2) (written_number bits xs) ≡ value bits (top_bit xs)
  top-value xs one =
      let inside : length xs - 1 < length xs = omega arith in
      let t = rw same at (top-is (bools xs) (rw same one)) in
      t ∙ get_or-map (value bits) xs (length xs - 1) (constant false) false inside

  signed_true : (xs : List Edge) → 1 ≤ length xs → value bits (top_bit xs) ≡ true → signed (word bits xs) ≡ negsuc (2 ^ length xs - 1 - written_number bits xs)
  signed_true xs one t = signed_high (word bits xs) (top-value xs one ∙ t) (written-below bits xs)

  signed_false : (xs : List Edge) → 1 ≤ length xs → value bits (top_bit xs) ≡ false → signed (word bits xs) ≡ pos (written_number bits xs)
  signed_false xs one t = signed_low (word bits xs) (top-value xs one ∙ t)

  turned : (xs : List Edge) → number_of (map not (bools xs)) ≡ 2 ^ length xs - 1 - written_number bits xs
  turned xs = number-turned (bools xs) ∙ ap (λ z. 2 ^ z - 1 - number_of (bools xs)) (same xs)

  pub shifted_right_signed-value : (n : ℕ) (xs : List Edge) → 1 ≤ length xs → word bits (shifted_right_signed n xs) ≡ is.ashr_by (word bits xs) n
  shifted_right_signed-value n xs one = word-is (shifted_right_signed n xs) (length xs) _ (shifted_right_signed-length n xs) (ap (written_number bits) (sym (shifted_right_signed-is n (min n (length xs)) xs one refl)) ∙ ap number_of (values-left (min n (length xs)) xs (top_bit xs) (length xs)) ∙ go (value bits (top_bit xs)) refl)
    where
      go : (b : Bool) → value bits (top_bit xs) ≡ b → number_of (take (length xs) (drop (min n (length xs)) (bools xs)) ++ replicate (length xs - length (drop (min n (length xs)) (bools xs))) b) ≡ residue (2 ^ length xs) (floor_quotient (signed (word bits xs)) (2 ^ n))
      go true t = rw (number-left_ones (bools xs) n (min n (length xs)) (length xs) (ap (min n) (sym (same xs))), turned xs, signed_true xs one t) refl
      go false t = rw (number-left_zeros (bools xs) n (min n (length xs)) (length xs) (ap (min n) (sym (same xs))), signed_false xs one t) refl

  pub sign_extended-value : (width : ℕ) (xs : List Edge) → 1 ≤ length xs → word bits (sign_extended width xs) ≡ is.sign_extend (word bits xs) width
  sign_extended-value width xs one = word-is (sign_extended width xs) width _ (sign_extended-length width xs) (ap (written_number bits) (sym (sign_extended-is width xs one)) ∙ ap number_of (values-resized xs (top_bit xs) width) ∙ go (value bits (top_bit xs)) refl)
    where
      go : (b : Bool) → value bits (top_bit xs) ≡ b → number_of (take width (bools xs) ++ replicate (width - length (bools xs)) b) ≡ residue (2 ^ width) (signed (word bits xs))
      go true t = rw (number-resized_ones (bools xs) width, turned xs, signed_true xs one t) refl
      go false t = rw (number-resized (bools xs) width, signed_false xs one t) refl

  values-cut : (k j : ℕ) (xs : List Edge) → bools (drop k xs ++ take j xs) ≡ drop k (bools xs) ++ take j (bools xs)
  values-cut k j xs = rw (map-append (value bits) (drop k xs) (take j xs), ← drop-map (value bits) k xs, ← take-map (value bits) j xs) refl

  pub rotated_left-value : (n : ℕ) (xs : List Edge) → 1 ≤ length xs → word bits (rotated_left n xs) ≡ is.rotl (word bits xs) n
  rotated_left-value n xs one =
      let k : ℕ = n % length xs in
      let small : k < length xs = mod-lt n one in
      let whole = rw (same xs) at (number-rotated_left (bools xs) k (rw same (omega arith))) in
      word-is (rotated_left n xs) (length xs) _ (rotated_left-length n xs) (ap (written_number bits) (sym (rotated_left-is n k xs one refl)) ∙ ap number_of (values-cut (length xs - k) (length xs - k) xs) ∙ whole)

  pub rotated_right-value : (n : ℕ) (xs : List Edge) → 1 ≤ length xs → word bits (rotated_right n xs) ≡ is.rotr (word bits xs) n
  rotated_right-value n xs one =
      let k : ℕ = n % length xs in
      let small : k < length xs = mod-lt n one in
      let whole = rw (same xs) at (number-rotated_right (bools xs) k (rw same (omega arith))) in
      word-is (rotated_right n xs) (length xs) _ (rotated_right-length n xs) (ap (written_number bits) (sym (rotated_right-is n k xs one refl)) ∙ ap number_of (values-cut k k xs) ∙ whole)

  pub appended-value : (xs ys : List Edge) → word bits (appended xs ys) ≡ is.append (word bits xs) (word bits ys)
  appended-value xs ys =
      let e : length ys + length xs ≡ length xs + length ys = omega arith in
      word-is (appended xs ys) (length xs + length ys) _ (length-append ys xs ∙ e) (written-append bits ys xs ∙ (let f : written_number bits ys + 2 ^ length ys * written_number bits xs ≡ written_number bits xs * 2 ^ length ys + written_number bits ys = omega arith in f))
