-- Each kind of token of canonical text is the longest piece where it stands, by what stands behind it.
use Rattle.std.proofs.Common.{◌≡◌, ◌≢◌, Bool, true, false, not, ◌||◌, ◌&&◌, ℕ, zero, suc, ◌+◌, ◌<◌, ◌≤◌, ◌^◌, ◌⊎◌, inl, inr, List, [], ◌∷◌, ◌++◌, length, get_or, drop, Option, Some, refl, sym, subst, arith, ap, ◌∙◌, codes, length-append}
use Rattle.std.specs.Prelude.{slice_get, slice_range, decimal, nat_lt, ◌==◌, Ok, Err, if◌then◌else◌}
use Rattle.std.specs.Option.{ok_or}
use Rattle.std.specs.List.{Contains, list_all}
use Rattle.std.specs.Char.{encode_utf8, is_digit, is_ascii_digit, digit_value}
use Rattle.std.specs.Char.{IsScalar}
use Rattle.std.specs.Str.{IsUtf8}
use Rattle.std.specs.List.{All}
use Rattle.std.specs.Str.Parse.{AllDigits, digits_value}
use Rattle.std.proofs.lemmas.List.Elements.{All-nil, All-cons}
use Rattle.std.proofs.lemmas.Str.Ascii.{IsAscii-from_all}
use Rattle.std.proofs.lemmas.Grind.{common_steps}
use Rattle.std.proofs.lemmas.Str.{encode_ascii, IsUtf8-nil, IsUtf8-append, IsUtf8-encode, IsUtf8-from_ascii}
use Rattle.std.proofs.lemmas.Fmt.{decimal_is_IsNumeral_wide, IsAscii-decimal_wide}
use Rattle.bvd_text.specs.declared.numbers.NumberStop.TheVariants.{NoDigit, TooBig}
use Rattle.bvd_text.specs.Numbers.{reading, digits_read, small}
use Rattle.bvd_text.specs.Hexadecimal.{hex_digits, hex_text}
use Rattle.bvd_text.proofs.Digits.{all_digits, not_below, reads_back}
use Rattle.bvd_text.proofs.HexDigits.{length-hex_digits, hex_reads_back}
use Rattle.bv_lex.specs.declared.token.TokenKind.{TokenKind}
use Rattle.bv_lex.specs.declared.token.TokenKind.TheVariants as kinds
use Rattle.bv_lex.specs.Letters.{is_blank, is_in_string, begins_name, goes_on_name}
use Rattle.bv_lex.specs.Words.{Stands, Each, Digits, IsCharacter, Characters, no_more, one_more}
use Rattle.bv_lex.specs.Signs.{kind_of_word, signs}
use Rattle.bv_lex.specs.Pieces.{hexadecimal, Piece, blank, line_comment, nested_comment, name, decimal_numeral, prefixed_numeral, string, sign as piece_sign, IsBad, unclosed, without_digit, stray, IsFront}
use Rattle.bv_lex.specs.Encoded.{is_ascii_letter, is_ascii_mark}
use Rattle.bv_lex.specs.Fronts.{IsCutOff, IsNumeralAt}
use Rattle.bv_lex.proofs.Reading.{same_byte, read, drop_stands}
use Rattle.bv_lex.proofs.Encoding.{encode_two, encode_three, or_cases, and_parts, letter_bounds, greek_bounds, subscript_bounds, letter_ascii, mark_ascii}
use Rattle.bv_lex.proofs.Naming.{step_on, ends_here, characters_ahead}
use Rattle.bv_lex.proofs.Running.{run_longest}
use Rattle.bv_lex.proofs.Shapes.{letter_begins, digit_bounds, digit_class, first_stands, sign_some, sign_passes, one_class, prefix_begins}
use Rattle.bv_lex.proofs.Values.{reads_value, prefixed_reading}
use Rattle.bv_lex.proofs.Longest.{word_cut, string_cut, decimal_at, no_prefixes, one_prefix, short_decimal}
use Rattle.bv_canon.specs.Names.{IsWordText}
use Rattle.bv_canon.proofs.Bytes.{ascii_utf8, front_stands, behind_stands, range_is, end_stands, deep_character, deep_characters}

-- A byte that goes on with no name and no numeral: one before the digits, other than `'`.
pub record EndsWords (c : ℕ) : Type 0 where
  pub low : c < 48
  pub no_mark : c ≢ 39

-- ---- words

-- no character of a name begins with such a byte
no_character : (bs : List ℕ) (j c n : ℕ) → slice_get bs j ≡ Some c → EndsWords c → IsCharacter goes_on_name bs j n → ⊥
no_character bs j c n e ends x = elim (or_cases (begins_name x.code || is_ascii_digit x.code || x.code == 39) _ x.passes) [
  | inl o ↦ elim (or_cases (begins_name x.code || is_ascii_digit x.code) _ o) [
    | inl q ↦ elim (or_cases (begins_name x.code) _ q) [
      | inl r ↦ elim (or_cases (is_ascii_letter x.code) _ r) [
        | inl l ↦ let w = letter_bounds x.code l in ascii x.code (omega arith) (omega arith) x.here
        | inr l ↦ let w = greek_bounds x.code l in
            let t = rw (encode_two x.code (let a = w.0 in omega arith) (let a = w.1 in omega arith)) at x.here in
            let same = same_byte bs j _ c t.0 e in let low = ends.low in omega arith
      ]
      | inr r ↦ let w = digit_low x.code r in ascii x.code (omega arith) (omega arith) x.here
    ]
    | inr q ↦ let is = mark q in absurd (ends.no_mark (let t = rw (encode_ascii x.code (omega arith)) at x.here in let same = same_byte bs j _ c t.0 e in omega arith))
  ]
  | inr o ↦ let w = subscript_bounds x.code o in
      let t = rw (encode_three x.code (let a = w.0 in omega arith) (let a = w.1 in omega arith)) at x.here in
      let same = same_byte bs j _ c t.0 e in let low = ends.low in omega arith
]
  where
    digit_low : (b : ℕ) → is_ascii_digit b ≡ true → (48 ≤ b) × (b ≤ 57)
    digit_low b h = grind (arith, common_steps)

    mark : {b : ℕ} → (b == 39) ≡ true → b ≡ 39
    mark {b} h = grind (arith, common_steps)

    ascii : (b : ℕ) → 48 ≤ b → b < 128 → Stands bs j (encode_utf8 b) → ⊥
    ascii b low high s = let t = rw (encode_ascii b high) at s in let same = same_byte bs j b c t.0 e in let l = ends.low in omega arith

characters_end : {p : ℕ → Bool} (bs : List ℕ) (i j m : ℕ) → ((n : ℕ) → IsCharacter p bs j n → ⊥) → Characters p bs i j → Characters p bs i m → m ≤ j
characters_end bs i j m h no_more q = ends_here h q
characters_end bs i j m h (one_more {n} x r) q = elim (step_on bs i n m x q) [
  | inl le ↦ let a = characters_ahead bs (i + n) j r in omega arith
  | inr more ↦ characters_end bs (i + n) j m h r more
]

-- a word before such a byte
pub word_is_cut : (w : List ℕ) (c : ℕ) (r : List ℕ) (k : TokenKind) → IsWordText w → kind_of_word w ≡ k → EndsWords c → (bs : List ℕ) (i : ℕ) → Stands bs i (w ++ c ∷ r) → IsCutOff bs (Some k) i (i + length w)
word_is_cut w c r k t e ends bs i h =
    let s = front_stands bs i w (c ∷ r) h in
    let b = behind_stands bs i w (c ∷ r) h in
    let first = subst (λ n. IsCharacter begins_name bs n t.first) (zero_more i) (deep_character bs i w 0 t.first s t.begins) in
    let others = deep_characters bs i w t.first (length w) s t.goes_on in
    let cut = word_cut bs i t.first (i + length w) (letter_begins bs i t.first first) first others (λ m q. characters_end bs (i + t.first) (i + length w) m (λ n x. no_character bs (i + length w) c n b.0 ends x) others q) in
    subst (λ k. IsCutOff bs (Some k) i (i + length w)) (ap kind_of_word (range_is bs i w s) ∙ e) cut
  where
    zero_more : (n : ℕ) → n + 0 ≡ n
    zero_more n = omega arith

-- a character of a name
name_scalar : (c : ℕ) → goes_on_name c ≡ true → IsScalar c
name_scalar c h = in_range c (elim (or_cases (begins_name c || is_ascii_digit c || c == 39) _ h) [
  | inl o ↦ elim (or_cases (begins_name c || is_ascii_digit c) _ o) [
    | inl q ↦ elim (or_cases (begins_name c) _ q) [
      | inl r ↦ elim (or_cases (is_ascii_letter c) _ r) [
        | inl l ↦ let w = letter_bounds c l in let a = w.1 in omega arith
        | inr l ↦ let w = greek_bounds c l in let a = w.1 in omega arith
      ]
      | inr r ↦ digit_high c r
    ]
    | inr q ↦ mark_high c q
  ]
  | inr o ↦ let w = subscript_bounds c o in let a = w.1 in omega arith
])
  where
    digit_high : (b : ℕ) → is_ascii_digit b ≡ true → b < 10000
    digit_high b h = grind (arith, common_steps)

    mark_high : (b : ℕ) → (b == 39) ≡ true → b < 10000
    mark_high b h = grind (arith, common_steps)

    in_range : (b : ℕ) → b < 10000 → IsScalar b
    in_range b h = grind (arith, common_steps)

letter_on : (c : ℕ) → begins_name c ≡ true → goes_on_name c ≡ true
letter_on c h = rw h refl

utf8_behind : (w : List ℕ) (k m : ℕ) → m ≡ length w → Characters goes_on_name w k m → IsUtf8 (drop k w)
utf8_behind w k m e no_more = subst IsUtf8 (sym (drop_past w k (omega (arith, e)))) IsUtf8-nil
  where
    drop_past : (w : List ℕ) (k : ℕ) → length w ≤ k → drop k w ≡ []
    drop_past [] zero h = refl
    drop_past [] (suc k) h = refl
    drop_past (b ∷ w) zero h = absurd (omega arith)
    drop_past (b ∷ w) (suc k) h = drop_past w k (omega arith)
utf8_behind w k m e (one_more {n} x r) =
    subst IsUtf8 (sym (drop_stands w (encode_utf8 x.code) k x.here ∙ ap (λ n. encode_utf8 x.code ++ drop (k + n) w) (sym x.bytes)))
    (IsUtf8-append (encode_utf8 x.code) (drop (k + n) w) (IsUtf8-encode x.code (name_scalar x.code x.passes)) (utf8_behind w (k + n) m e r))

-- a word is UTF-8
pub word_utf8 : (w : List ℕ) → IsWordText w → IsUtf8 w
word_utf8 w t =
    let x = t.begins in
    let first : IsCharacter goes_on_name w 0 t.first = record { code = x.code; passes = letter_on x.code x.passes; here = x.here; bytes = x.bytes } in
    utf8_behind w 0 (length w) refl (one_more first (subst (λ n. Characters goes_on_name w n (length w)) (omega arith) t.goes_on))

-- a word of ASCII letters and marks
abbrev pub is_plain : ℕ → Bool
is_plain b = is_ascii_letter b || is_ascii_mark b

plain_on : (w : List ℕ) (k : ℕ) (v : List ℕ) → Stands w k v → list_all is_plain v ≡ true → Characters goes_on_name w k (k + length v)
plain_on w k [] s h = subst (λ n. Characters goes_on_name w k n) (omega arith) no_more
plain_on w k (b ∷ v) s h =
    let parts = and_parts (is_plain b) (list_all is_plain v) h in
    subst (λ n. Characters goes_on_name w k n) (omega arith) (one_more (plain_character b (read w k b s.0) parts.0) (plain_on w (k + 1) v s.1 parts.1))
  where
    plain_character : (b : ℕ) → get_or w k 0 ≡ b → is_plain b ≡ true → IsCharacter goes_on_name w k 1
    plain_character b e h = elim (or_cases (is_ascii_letter b) (is_ascii_mark b) h) [
      | inl l ↦ let x = letter_ascii w k b e l in record { code = x.code; passes = letter_on x.code x.passes; here = x.here; bytes = x.bytes }
      | inr m ↦ mark_ascii w k b e m
    ]

pub plain_word : (b : ℕ) (w : List ℕ) → is_ascii_letter b ≡ true → list_all is_plain w ≡ true → IsWordText (b ∷ w)
plain_word b w l h = record {
  first = 1;
  begins = letter_ascii (b ∷ w) 0 b refl l;
  goes_on = subst (λ n. Characters goes_on_name (b ∷ w) 1 n) (omega arith) (plain_on (b ∷ w) 1 w (end_stands (b ∷ []) w) h);
}

-- ---- numerals

-- digits that stand in a text
each_digit : (base : ℕ) (bs : List ℕ) (i : ℕ) (ds r : List ℕ) → Stands bs i (ds ++ r) → AllDigits base ds → Each (λ b. is_digit b base) bs i (i + length ds)
each_digit base bs i [] r h all k low high = absurd (omega arith)
each_digit base bs i (d ∷ ds) r h all k low high = elim (first_or_later i k low) [
  | inl same ↦ (d, subst (λ n. slice_get bs n ≡ Some d) same h.0, not_below (digit_value d) base all.0)
  | inr later ↦ each_digit base bs (i + 1) ds r h.1 all.1 k later (omega arith)
]
  where
    first_or_later : (i k : ℕ) → i ≤ k → (i ≡ k) ⊎ (i + 1 ≤ k)
    first_or_later i k h = grind arith

no_digit : (c base : ℕ) → c < 48 → base ≤ 16 → is_digit c base ≡ false
no_digit c base h b = grind (arith, common_steps)

-- no digit stands behind them
digits_end : (base : ℕ) (bs : List ℕ) (i j c m : ℕ) → base ≤ 16 → i ≤ j → slice_get bs j ≡ Some c → EndsWords c → Each (λ b. is_digit b base) bs i m → m ≤ j
digits_end base bs i j c m few low e ends each = run_longest (λ b. is_digit b base) bs i j m low (λ lt. ap (λ b. is_digit b base) (read bs j c e) ∙ no_digit c base ends.low few) each

-- the numeral of a number
numeral_is_cut : (bs : List ℕ) (i j n : ℕ) → IsNumeralAt bs i j → reading (slice_range bs i j) ≡ Ok n → IsCutOff bs (Some (kinds.Numeral n)) i j
numeral_is_cut bs i j n x h =
    let v = reads_value x.value n (sym x.reads ∙ h) in
    record { front = subst (λ m. IsFront bs (Some (kinds.Numeral m)) i j) (sym v.0) x.front; within = v.1 }

second_byte : (bs : List ℕ) (i j c b : ℕ) → i < j → Each (λ b. is_digit b 10) bs i j → slice_get bs j ≡ Some c → c < 48 → slice_get bs (i + 1) ≡ Some b → b ≤ 57
second_byte bs i j c b low each e under h = elim (before_or_at i j low) [
  | inl same ↦ let is = same_byte bs j b c (subst (λ n. slice_get bs n ≡ Some b) same h) e in omega arith
  | inr before ↦
      let x = each (i + 1) (omega arith) before in
      let bounds = digit_bounds x.0 x.2 in
      let is = same_byte bs (i + 1) x.0 b x.1 h in
      let high = bounds.1 in
      omega arith
]
  where
    before_or_at : (i j : ℕ) → i < j → (i + 1 ≡ j) ⊎ (i + 1 < j)
    before_or_at i j h = grind arith

pub decimal_is_cut : (n c : ℕ) (r : List ℕ) → n < 2 ^ 128 → EndsWords c → (bs : List ℕ) (i : ℕ) → Stands bs i (decimal n ++ c ∷ r) → IsCutOff bs (Some (kinds.Numeral n)) i (i + length (decimal n))
decimal_is_cut n c r below ends bs i h =
    let numeral = decimal_is_IsNumeral_wide n (omega arith) in
    let s = front_stands bs i (decimal n) (c ∷ r) h in
    let e = (behind_stands bs i (decimal n) (c ∷ r) h).0 in
    let j = i + length (decimal n) in
    let each = each_digit 10 bs i (decimal n) (c ∷ r) h numeral.0.1 in
    let some = numeral.0.0 in
    let first = each i (omega arith) (omega arith) in
    let bounds = digit_bounds first.0 first.2 in
    let low = ends.low in
    let x = decimal_at bs i j (record { byte = first.0; here = first.1; class = digit_class first.0 bounds.0 bounds.1 }) (no_prefixes bs i (λ p. (let le = second_byte bs i j c 120 (omega arith) each e low p.1.0 in omega arith)) (λ p. (let le = second_byte bs i j c 98 (omega arith) each e low p.1.0 in omega arith)))
    (omega arith) each (λ m le q. digits_end 10 bs i j c m (omega arith) (omega arith) e ends q) in
    numeral_is_cut bs i j n x (ap reading (range_is bs i (decimal n) s) ∙ reads_back n below)

-- no sign begins with a digit
no_digit_first : List ℕ → Bool
no_digit_first w = not (get_or w 0 0 == 48)

signs_without : list_all no_digit_first signs ≡ true
unfolding encode_utf8 no_digit_first
signs_without = refl

no_sign : (bs : List ℕ) (i : ℕ) (w : List ℕ) → Contains signs w → Stands bs i w → slice_get bs i ≡ Some 48 → ⊥
unfolding no_digit_first
no_sign bs i w listed s e =
    let first = same_byte bs i (get_or w 0 0) 48 (first_stands bs i w (sign_some w listed) s) e in
    let passes : not (get_or w 0 0 == 48) ≡ true = sign_passes no_digit_first w signs_without listed in
    let fails : not (get_or w 0 0 == 48) ≡ false = ap (λ b. not (b == 48)) first in
    cc

-- behind `0x`, digits that no digit follows are the longest piece
prefixed_longest : (bs : List ℕ) (i j : ℕ) → Stands bs i (codes "0x") → i + 2 < j → ((m : ℕ) → i + 2 ≤ m → Each (λ b. is_digit b 16) bs (i + 2) m → m ≤ j) → (l : Option TokenKind) (m : ℕ) → Piece bs l i m → m ≤ j
prefixed_longest bs i j s low longest l m (blank {b} g t) = let same = same_byte bs i b 48 g s.0 in let no_blank : is_blank b ≡ false = ap is_blank same in absurd (cc)
prefixed_longest bs i j s low longest l m (line_comment t le each) = let same = same_byte bs i 45 48 t.0 s.0 in absurd (omega arith)
prefixed_longest bs i j s low longest l m (nested_comment t c) = let same = same_byte bs i 47 48 t.0 s.0 in absurd (omega arith)
prefixed_longest bs i j s low longest l m (name {n} x r) = let same = one_class bs i _ _ (letter_begins bs i n x) (prefix_begins bs i (codes "0x") 16 hexadecimal s) in absurd (cc)
prefixed_longest bs i j s low longest l m (decimal_numeral d) = let short = short_decimal bs i m (codes "0x") 16 hexadecimal s d in omega arith
prefixed_longest bs i j s low longest l m (prefixed_numeral {base = c} {w = v} p t d) =
    let lt = d.some in
    longest m (omega arith) (subst (λ n. Each (λ b. is_digit b n) bs (i + 2) m) (one_prefix bs i v (codes "0x") c 16 p t hexadecimal s) d.each)
prefixed_longest bs i j s low longest l m (string t le each q) = let same = same_byte bs i 34 48 t.0 s.0 in absurd (omega arith)
prefixed_longest bs i j s low longest l m (piece_sign w listed t) = absurd (no_sign bs i w listed t s.0)

prefixed_at : (bs : List ℕ) (i j : ℕ) → Stands bs i (codes "0x") → i + 2 < j → Each (λ b. is_digit b 16) bs (i + 2) j → ((m : ℕ) → i + 2 ≤ m → Each (λ b. is_digit b 16) bs (i + 2) m → m ≤ j) → IsNumeralAt bs i j
prefixed_at bs i j s low each longest = record {
  value = digits_value 16 (slice_range bs (i + 2) j);
  front = record { sound = sound; piece = prefixed_numeral hexadecimal s d; longest = prefixed_longest bs i j s low longest };
  reads = prefixed_reading bs i j (codes "0x") 16 hexadecimal s d;
}
  where
    d : Digits 16 bs (i + 2) j
    d = record { some = low; each = each }

    sound : IsBad bs i → ⊥
    sound (unclosed t none) = let same = same_byte bs i 47 48 t.0 s.0 in omega arith
    sound (without_digit {base = c} {w = v} r t none) = none j (subst (λ n. Digits n bs (i + 2) j) (one_prefix bs i (codes "0x") v 16 c hexadecimal s r t) d)
    sound (stray none) = none _ j (prefixed_numeral hexadecimal s d)

-- the digits of a numeral that reads as a number
read_digits : (ds : List ℕ) (n : ℕ) → reading (48 ∷ 120 ∷ ds) ≡ Ok n → AllDigits 16 ds
read_digits ds n h = all_digits 16 ds (go (nat_lt 0 (digits_read 16 ds)) (digits_read 16 ds == length ds) refl h)
  where
    go : (a b : Bool) → (digits_read 16 ds == length ds) ≡ b → (if a && b then ok_or (small (digits_value 16 ds)) TooBig else Err (NoDigit (2 + digits_read 16 ds))) ≡ Ok n → digits_read 16 ds ≡ length ds
    go true true e h = equal (digits_read 16 ds) (length ds) e
      where
        equal : (m n : ℕ) → (m == n) ≡ true → m ≡ n
        equal m n h = grind (arith, common_steps)
    go true false e h = absurd (cc)
    go false b e h = absurd (cc)

pub hexadecimal_is_cut : (k n c : ℕ) (r : List ℕ) → n < 2 ^ 128 → n < 16 ^ k → 0 < k → EndsWords c → (bs : List ℕ) (i : ℕ) → Stands bs i (hex_text k n ++ c ∷ r) → IsCutOff bs (Some (kinds.Numeral n)) i (i + length (hex_text k n))
hexadecimal_is_cut k n c r below fits some ends bs i h =
    let ds = hex_digits k n in
    let s = front_stands bs i (hex_text k n) (c ∷ r) h in
    let e = (behind_stands bs i (hex_text k n) (c ∷ r) h).0 in
    let j = i + length (hex_text k n) in
    let reads = hex_reads_back k n below fits some in
    let long = length-hex_digits k n in
    let all = read_digits ds n reads in
    let e2 = i + 1 + 1 + length ds in
    let same : e2 ≡ j = omega arith in
    let each = subst (λ m. Each (λ b. is_digit b 16) bs (i + 2) m) same (subst (λ l. Each (λ b. is_digit b 16) bs l e2) (two i) (each_digit 16 bs (i + 1 + 1) ds (c ∷ r) h.1.1 all)) in
    let x = prefixed_at bs i j (h.0, (h.1.0, tt)) (omega arith) each (λ m le q. digits_end 16 bs (i + 2) j c m (omega arith) (omega arith) e ends q) in
    numeral_is_cut bs i j n x (ap reading (range_is bs i (hex_text k n) s) ∙ reads)
  where
    two : (i : ℕ) → i + 1 + 1 ≡ i + 2
    two i = omega arith

-- digits are ASCII
digits_ascii : (ds : List ℕ) → AllDigits 16 ds → All (λ b. b < 128) ds
digits_ascii [] h = All-nil (λ b. b < 128)
digits_ascii (d ∷ ds) h = All-cons (λ b. b < 128) d ds (low d h.0) (digits_ascii ds h.1)
  where
    low : (d : ℕ) → digit_value d < 16 → d < 128
    low d h = grind (arith, common_steps)

pub hexadecimal_utf8 : (k n : ℕ) → n < 2 ^ 128 → n < 16 ^ k → 0 < k → IsUtf8 (hex_text k n)
hexadecimal_utf8 k n below fits some =
    let all = read_digits (hex_digits k n) n (hex_reads_back k n below fits some) in
    IsUtf8-append (codes "0x") (hex_digits k n) (ascii_utf8 (codes "0x") refl) (IsUtf8-from_ascii (hex_digits k n) (IsAscii-from_all (hex_digits k n) (digits_ascii (hex_digits k n) all)))

pub decimal_utf8 : (n : ℕ) → n < 2 ^ 128 → IsUtf8 (decimal n)
decimal_utf8 n h = IsUtf8-from_ascii (decimal n) (IsAscii-decimal_wide n (omega arith))

-- ---- strings

pub string_is_cut : (w : List ℕ) (r : List ℕ) → ((k b : ℕ) → slice_get w k ≡ Some b → is_in_string b ≡ true) → (bs : List ℕ) (i : ℕ) → Stands bs i ((codes "\"" ++ w ++ codes "\"") ++ r) → IsCutOff bs (Some kinds.Text) i (i + length (codes "\"" ++ w ++ codes "\""))
string_is_cut w r fits bs i h =
    let s = front_stands bs i (codes "\"" ++ w ++ codes "\"") r h in
    let inner = front_stands bs (i + 1) w (codes "\"") s.1 in
    let close = behind_stands bs (i + 1) w (codes "\"") s.1 in
    let e = i + 1 + length w in
    subst (λ n. IsCutOff bs (Some kinds.Text) i n) (omega (arith, length-append w (codes "\"")))
    (string_cut bs i e (record { byte = 34; here = s.0; class = refl }) (omega arith) (each_in bs (i + 1) w inner fits) close.0)
  where
    each_in : (bs : List ℕ) (i : ℕ) (w : List ℕ) → Stands bs i w → ((k b : ℕ) → slice_get w k ≡ Some b → is_in_string b ≡ true) → Each is_in_string bs i (i + length w)
    each_in bs i [] h f k low high = absurd (omega arith)
    each_in bs i (b ∷ w) h f k low high = elim (first_or_later i k low) [
      | inl same ↦ (b, subst (λ n. slice_get bs n ≡ Some b) same h.0, f 0 b refl)
      | inr later ↦ each_in bs (i + 1) w h.1 (λ n c e. f (suc n) c e) k later (omega arith)
    ]
      where
        first_or_later : (i k : ℕ) → i ≤ k → (i ≡ k) ⊎ (i + 1 ≤ k)
        first_or_later i k h = grind arith
