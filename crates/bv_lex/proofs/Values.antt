-- What numerals read as.
use Rattle.std.proofs.Common.{◌≡◌, Bool, true, false, ◌&&◌, ◌==◌, ℕ, zero, suc, ◌+◌, ◌-◌, ◌<◌, ◌≤◌, ◌^◌, List, [], ◌∷◌, ◌++◌, length, get_or, take, drop, Some, refl, sym, subst, arith, ap, ◌∙◌, length-drop}
use Rattle.std.specs.Prelude.{slice_range, nat_lt, Ok, Err, None, if◌then◌else◌}
use Rattle.std.specs.Option.{ok_or}
use Rattle.std.specs.Char.{digit_value, is_digit}
use Rattle.std.specs.Str.Parse.{digits_value, AllDigits}
use Rattle.std.proofs.lemmas.Grind.{common_steps}
use Rattle.std.proofs.lemmas.List.{drop_more, length-take-le}
use Rattle.std.proofs.lemmas.Option.{slice_get_within}
use Rattle.bvd_text.specs.declared.numbers.NumberStop.{NumberStop}
use Rattle.bvd_text.specs.declared.numbers.NumberStop.TheVariants.{TooBig}
use Rattle.bvd_text.specs.Numbers.{has_prefix, reading, small}
use Rattle.bvd_text.proofs.Digits.{digits_all, not_below, same_length}
use Rattle.bv_lex.specs.Words.{Stands, Each, Digits}
use Rattle.bv_lex.specs.Pieces.{Prefix, hexadecimal, binary}
use Rattle.bv_lex.proofs.Reading.{read, drop_stands}

pub each_end : (p : ℕ → Bool) (bs : List ℕ) (i j : ℕ) → i < j → Each p bs i j → j ≤ length bs
each_end p bs i j h each =
    let x = each (j - 1) (omega arith) (omega arith) in
    let lt : j - 1 < length bs = slice_get_within bs (j - 1) x.0 x.1 in
    omega arith

below : (b base : ℕ) → is_digit b base ≡ true → digit_value b < base
below b base h = lt_from (digit_value b) base h
  where
    lt_from : (m n : ℕ) → nat_lt m n ≡ true → m < n
    lt_from m n h = grind (arith, common_steps)

all_taken : (base : ℕ) (bs : List ℕ) (n i : ℕ) → Each (λ b. is_digit b base) bs i (i + n) → AllDigits base (take n (drop i bs))
all_taken base bs zero i each = tt
all_taken base bs (suc n) i each =
    let x = each i (omega arith) (omega arith) in
    let lt : i < length bs = slice_get_within bs i x.0 x.1 in
    let first : digit_value (get_or bs i 0) < base = subst (λ b. digit_value b < base) (sym (read bs i x.0 x.1)) (below x.0 base x.2) in
    let rest = all_taken base bs n (i + 1) (λ k low high. each k (omega arith) (omega arith)) in
    subst (λ l. AllDigits base (take (suc n) l)) (sym (drop_more bs i 0 lt)) (first, rest)

pub all_digits : (base : ℕ) (bs : List ℕ) (i j : ℕ) → Digits base bs i j → AllDigits base (slice_range bs i j)
all_digits base bs i j d = all_taken base bs (j - i) i (λ k low high. d.each k low (let lt = d.some in omega arith))

pub range_length : (bs : List ℕ) (i j : ℕ) → i ≤ j → j ≤ length bs → length (slice_range bs i j) ≡ j - i
range_length bs i j h w =
    let l : length (drop i bs) ≡ length bs - i = length-drop i bs in
    length-take-le (j - i) (drop i bs) (omega arith)

no_prefix : (letter : ℕ) (ds : List ℕ) → 10 ≤ digit_value letter → AllDigits 10 ds → has_prefix letter ds ≡ false
no_prefix letter [] h d = refl
no_prefix letter (b ∷ []) h d = refl
no_prefix letter (b ∷ c ∷ ds) h d = other letter b c h d.1.0
  where
    other : (letter b c : ℕ) → 10 ≤ digit_value letter → digit_value c < 10 → (b == 48 && c == letter) ≡ false
    other letter b c h d = go (b == 48) (c == letter) refl
      where
        go : (x y : Bool) → (c == letter) ≡ y → (x && y) ≡ false
        go true true e = absurd (let same : c ≡ letter = equal c letter e in let k : digit_value c ≡ digit_value letter = ap digit_value same in omega arith)
          where
            equal : (m n : ℕ) → (m == n) ≡ true → m ≡ n
            equal m n h = grind (arith, common_steps)
        go true false e = refl
        go false y e = refl

decimal_reads : (ds : List ℕ) → AllDigits 10 ds → 0 < length ds → reading ds ≡ ok_or (small (digits_value 10 ds)) TooBig
decimal_reads ds all some =
    let hex : has_prefix 120 ds ≡ false = no_prefix 120 ds (omega arith) all in
    let bin : has_prefix 98 ds ≡ false = no_prefix 98 ds (omega arith) all in
    rw (hex, bin, digits_all 10 ds all, not_below 0 (length ds) some, same_length (length ds)) refl

hexadecimal_reads : (ds : List ℕ) → AllDigits 16 ds → 0 < length ds → reading (48 ∷ 120 ∷ ds) ≡ ok_or (small (digits_value 16 ds)) TooBig
hexadecimal_reads ds all some = rw (digits_all 16 ds all, not_below 0 (length ds) some, same_length (length ds)) refl

binary_reads : (ds : List ℕ) → AllDigits 2 ds → 0 < length ds → reading (48 ∷ 98 ∷ ds) ≡ ok_or (small (digits_value 2 ds)) TooBig
binary_reads ds all some = rw (digits_all 2 ds all, not_below 0 (length ds) some, same_length (length ds)) refl

pub decimal_reading : (bs : List ℕ) (i j : ℕ) → Digits 10 bs i j → reading (slice_range bs i j) ≡ ok_or (small (digits_value 10 (slice_range bs i j))) TooBig
decimal_reading bs i j d =
    let lt = d.some in
    let size = range_length bs i j (omega arith) (each_end (λ b. is_digit b 10) bs i j lt d.each) in
    decimal_reads (slice_range bs i j) (all_digits 10 bs i j d) (omega arith)

two_more : (bs : List ℕ) (i j b c : ℕ) → Stands bs i (b ∷ c ∷ []) → i + 2 ≤ j → slice_range bs i j ≡ b ∷ c ∷ slice_range bs (i + 2) j
two_more bs i j b c s h =
    let rest : drop i bs ≡ (b ∷ c ∷ []) ++ drop (i + 2) bs = drop_stands bs (b ∷ c ∷ []) i s in
    let n : j - i ≡ suc (suc (j - (i + 2))) = omega arith in
    ap (λ m. take m (drop i bs)) n ∙ ap (take (suc (suc (j - (i + 2))))) rest

pub prefixed_reading : (bs : List ℕ) (i j : ℕ) (w : List ℕ) (base : ℕ) → Prefix w base → Stands bs i w → Digits base bs (i + 2) j
    → reading (slice_range bs i j) ≡ ok_or (small (digits_value base (slice_range bs (i + 2) j))) TooBig
prefixed_reading bs i j w base hexadecimal s d =
    let lt = d.some in
    let size = range_length bs (i + 2) j (omega arith) (each_end (λ b. is_digit b 16) bs (i + 2) j lt d.each) in
    ap reading (two_more bs i j 48 120 s (omega arith)) ∙ hexadecimal_reads (slice_range bs (i + 2) j) (all_digits 16 bs (i + 2) j d) (omega arith)
prefixed_reading bs i j w base binary s d =
    let lt = d.some in
    let size = range_length bs (i + 2) j (omega arith) (each_end (λ b. is_digit b 2) bs (i + 2) j lt d.each) in
    ap reading (two_more bs i j 48 98 s (omega arith)) ∙ binary_reads (slice_range bs (i + 2) j) (all_digits 2 bs (i + 2) j d) (omega arith)

-- a value that is read is the numeral's, and below 2^128
pub reads_value : (v n : ℕ) → ok_or (small v) TooBig ≡ Ok n → (n ≡ v) × (n < 2 ^ 128)
reads_value v n h = go (nat_lt v (2 ^ 128)) refl h
  where
    lt_from : (m n : ℕ) → nat_lt m n ≡ true → m < n
    lt_from m n h = grind (arith, common_steps)

    go : (b : Bool) → nat_lt v (2 ^ 128) ≡ b → ok_or (if b then Some v else None) TooBig ≡ Ok n → (n ≡ v) × (n < 2 ^ 128)
    go true e h = let same : v ≡ n = (cc) in (sym same, subst (λ m. m < 2 ^ 128) same (lt_from v (2 ^ 128) e))
    go false e h = absurd (cc)

-- a value that isn't read is 2^128 or more
pub reads_large : (v : ℕ) (x : NumberStop) → ok_or (small v) TooBig ≡ Err x → 2 ^ 128 ≤ v
reads_large v x h = go (nat_lt v (2 ^ 128)) refl h
  where
    ge_from : (m n : ℕ) → nat_lt m n ≡ false → n ≤ m
    ge_from m n h = grind (arith, common_steps)

    go : (b : Bool) → nat_lt v (2 ^ 128) ≡ b → ok_or (if b then Some v else None) TooBig ≡ Err x → 2 ^ 128 ≤ v
    go true e h = absurd (cc)
    go false e h = ge_from v (2 ^ 128) e
