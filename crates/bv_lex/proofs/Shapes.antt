-- What may begin with a byte of a class.
use Rattle.std.proofs.Common.{◌≡◌, Bool, true, false, not, ◌||◌, ◌&&◌, ℕ, zero, suc, ◌+◌, ◌/◌, ◌<◌, ◌≤◌, ◌⊎◌, inl, inr, List, [], ◌∷◌, length, get_or, Some, None, Option, refl, sym, subst, arith, ap, ◌∙◌}
use Rattle.std.specs.Prelude.{slice_get, slice_range, codes, nat_lt, nat_le, ◌==◌}
use Rattle.std.specs.List.{Contains, list_all}
use Rattle.std.specs.Char.{encode_utf8, is_digit, is_ascii_digit}
use Rattle.std.specs.Str.Parse.{digits_value}
use Rattle.std.proofs.lemmas.Grind.{common_steps}
use Rattle.std.proofs.lemmas.Str.{encode_ascii}
use Rattle.bv_lex.specs.declared.token.TokenKind.{TokenKind}
use Rattle.bv_lex.specs.declared.token.TokenKind.TheVariants.{Numeral, Text, Sign}
use Rattle.bv_lex.specs.declared.classes.Class.{Class}
use Rattle.bv_lex.specs.declared.classes.Class.TheVariants.{Blank, Letter, Digit, Quote, Minus, Slash, Other}
use Rattle.bv_lex.specs.Letters.{is_blank, is_in_line, is_in_string, begins_name, goes_on_name}
use Rattle.bv_lex.specs.Words.{Stands, Each, Digits, IsCharacter, Characters}
use Rattle.bv_lex.specs.Signs.{kind_of_word, signs}
use Rattle.bv_lex.specs.Pieces.{Closes, Prefix, hexadecimal, binary, Piece, blank, line_comment, nested_comment, name, decimal_numeral, prefixed_numeral, string, sign}
use Rattle.bv_lex.specs.Encoded.{is_ascii_letter}
use Rattle.bv_lex.specs.Classes.{is_letter_byte, class_of, Begins}
use Rattle.bv_lex.proofs.Reading.{same_byte}
use Rattle.bv_lex.proofs.Encoding.{encode_two, or_cases, and_parts, letter_bounds, greek_bounds}

-- the classes that signs may begin with
abbrev pub IsOfSigns : Class → Type 0
IsOfSigns Minus = Unit {0}
IsOfSigns Slash = Unit {0}
IsOfSigns Other = Unit {0}
IsOfSigns Blank = ⊥
IsOfSigns Letter = ⊥
IsOfSigns Digit = ⊥
IsOfSigns Quote = ⊥

abbrev of_signs : Class → Bool
of_signs Minus = true
of_signs Slash = true
of_signs Other = true
of_signs Blank = false
of_signs Letter = false
of_signs Digit = false
of_signs Quote = false

-- a piece at i, by the class of its first byte
pub data Shape (bs : List ℕ) (i : ℕ) : Class → Option TokenKind → ℕ → Type 0 where
  a_blank : Shape bs i Blank None (i + 1)
  a_word : {j n : ℕ} → IsCharacter begins_name bs i n → Characters goes_on_name bs (i + n) j → Shape bs i Letter (Some (kind_of_word (slice_range bs i j))) j
  a_decimal : {j : ℕ} → Digits 10 bs i j → Shape bs i Digit (Some (Numeral (digits_value 10 (slice_range bs i j)))) j
  a_prefixed : {j base : ℕ} {w : List ℕ} → Prefix w base → Stands bs i w → Digits base bs (i + 2) j → Shape bs i Digit (Some (Numeral (digits_value base (slice_range bs (i + 2) j)))) j
  a_string : {j : ℕ} → i + 1 ≤ j → Each is_in_string bs (i + 1) j → Stands bs j (codes "\"") → Shape bs i Quote (Some Text) (j + 1)
  a_line : {j : ℕ} → Stands bs i (codes "--") → i + 2 ≤ j → Each is_in_line bs (i + 2) j → Shape bs i Minus None j
  a_nested : {j : ℕ} → Stands bs i (codes "/-") → Closes bs 1 (i + 2) j → Shape bs i Slash None j
  a_sign : {x : Class} (w : List ℕ) → IsOfSigns x → Contains signs w → Stands bs i w → Shape bs i x (Some Sign) (i + length w)

blank_class : (b : ℕ) → is_blank b ≡ true → class_of b ≡ Blank
blank_class b h = rw h refl

no_blank : (b : ℕ) → 33 ≤ b → is_blank b ≡ false
no_blank b h = grind (arith, common_steps)

letter_class : (b : ℕ) → 33 ≤ b → is_letter_byte b ≡ true → class_of b ≡ Letter
letter_class b low h = rw (no_blank b low, h) refl

ascii_letter_byte : (b : ℕ) → is_ascii_letter b ≡ true → is_letter_byte b ≡ true
ascii_letter_byte b h = rw h refl

greek_byte : (b : ℕ) → 206 ≤ b → b ≤ 207 → is_letter_byte b ≡ true
greek_byte b low high = grind (arith, common_steps)

pub digit_bounds : (b : ℕ) → is_digit b 10 ≡ true → (48 ≤ b) × (b ≤ 57)
digit_bounds b h = grind (arith, common_steps)

pub digit_class : (b : ℕ) → 48 ≤ b → b ≤ 57 → class_of b ≡ Digit
digit_class b low high = rw (no_blank b (omega arith), no_letter_byte b low high, is_digit_byte b low high) refl
  where
    no_letter_byte : (b : ℕ) → 48 ≤ b → b ≤ 57 → is_letter_byte b ≡ false
    no_letter_byte b low high = grind (arith, common_steps)

    is_digit_byte : (b : ℕ) → 48 ≤ b → b ≤ 57 → is_ascii_digit b ≡ true
    is_digit_byte b low high = grind (arith, common_steps)

-- the first byte of a character that begins a name
pub letter_begins : (bs : List ℕ) (i n : ℕ) → IsCharacter begins_name bs i n → Begins bs i Letter
letter_begins bs i n x = elim (or_cases (is_ascii_letter x.code) _ x.passes) [
  | inl l ↦
      let w = letter_bounds x.code l in
      let t = rw (encode_ascii x.code (omega arith)) at x.here in
      record { byte = x.code; here = t.0; class = letter_class x.code (omega arith) (ascii_letter_byte x.code l) }
  | inr l ↦
      let w = greek_bounds x.code l in
      let low : 945 ≤ x.code = w.0 in
      let high : x.code ≤ 969 = w.1 in
      let t = rw (encode_two x.code (omega arith) (omega arith)) at x.here in
      record { byte = 192 + x.code / 64; here = t.0; class = letter_class (192 + x.code / 64) (omega arith) (greek_byte (192 + x.code / 64) (omega arith) (omega arith)) }
]

-- what every word of a list passes
all_at : (t : List ℕ → Bool) (ws : List (List ℕ)) (k : ℕ) (w : List ℕ) → list_all t ws ≡ true → k < length ws → get_or ws k w ≡ w → t w ≡ true
all_at t [] k w h lt e = absurd (omega arith)
all_at t (v ∷ ws) zero w h lt e = ap t (sym e) ∙ (and_parts (t v) _ h).0
all_at t (v ∷ ws) (suc k) w h lt e = all_at t ws k w (and_parts (t v) _ h).1 (omega arith) e

pub sign_passes : (t : List ℕ → Bool) (w : List ℕ) → list_all t signs ≡ true → Contains signs w → t w ≡ true
sign_passes t w h m = all_at t signs m.0 w h m.1 m.2

-- what a computation shows of all signs
has_bytes : List ℕ → Bool
has_bytes w = nat_lt 0 (length w)

begins_as_sign : List ℕ → Bool
begins_as_sign w = of_signs (class_of (get_or w 0 0))

opens_comment : List ℕ → Bool
opens_comment w = get_or w 1 0 == 45 && (get_or w 0 0 == 45 || get_or w 0 0 == 47)

opens_none : List ℕ → Bool
opens_none w = nat_le (length w) 1 || not (opens_comment w)

signs_some : list_all has_bytes signs ≡ true
unfolding encode_utf8 has_bytes
signs_some = refl

signs_of_class : list_all begins_as_sign signs ≡ true
unfolding encode_utf8 begins_as_sign
signs_of_class = refl

signs_no_comment : list_all opens_none signs ≡ true
unfolding encode_utf8 opens_none opens_comment
signs_no_comment = refl

positive : (n : ℕ) → nat_lt 0 n ≡ true → 0 < n
positive n h = grind (arith, common_steps)

pub sign_some : (w : List ℕ) → Contains signs w → 0 < length w
unfolding has_bytes
sign_some w m = positive (length w) (sign_passes has_bytes w signs_some m)

sign_class : (w : List ℕ) → Contains signs w → of_signs (class_of (get_or w 0 0)) ≡ true
unfolding begins_as_sign
sign_class w m = sign_passes begins_as_sign w signs_of_class m

sign_opens_none : (w : List ℕ) → Contains signs w → (nat_le (length w) 1 || not (opens_comment w)) ≡ true
unfolding opens_none
sign_opens_none w m = sign_passes opens_none w signs_no_comment m

is_of_signs : (x : Class) → of_signs x ≡ true → IsOfSigns x
is_of_signs Minus h = tt
is_of_signs Slash h = tt
is_of_signs Other h = tt
is_of_signs Blank h = (cc)
is_of_signs Letter h = (cc)
is_of_signs Digit h = (cc)
is_of_signs Quote h = (cc)

pub first_stands : (bs : List ℕ) (i : ℕ) (w : List ℕ) → 0 < length w → Stands bs i w → slice_get bs i ≡ Some (get_or w 0 0)
first_stands bs i [] h s = absurd (omega arith)
first_stands bs i (b ∷ w) h s = s.0

second_stands : (bs : List ℕ) (i : ℕ) (w : List ℕ) → 1 < length w → Stands bs i w → slice_get bs (i + 1) ≡ Some (get_or w 1 0)
second_stands bs i [] h s = absurd (omega arith)
second_stands bs i (b ∷ []) h s = absurd (omega arith)
second_stands bs i (b ∷ c ∷ w) h s = s.1.0

one_or_more : (n : ℕ) → (n ≤ 1) ⊎ (1 < n)
one_or_more n = grind arith

longer : (n : ℕ) → 1 < n → nat_le n 1 ≡ false
longer n l = grind (arith, common_steps)

opens : (w : List ℕ) (b : ℕ) → get_or w 0 0 ≡ b → get_or w 1 0 ≡ 45 → (b == 45 || b == 47) ≡ true → opens_comment w ≡ true
unfolding opens_comment
opens w b e f h = rw (f, e, h) refl

not_both : (x y : Bool) → x ≡ false → y ≡ true → (x || not y) ≡ true → ⊥
not_both false true e f h = (cc)
not_both true y e f h = (cc)
not_both false false e f h = (cc)

-- a sign that stands where a comment is opened is one byte long
pub short_sign : (bs : List ℕ) (i : ℕ) (w : List ℕ) → Contains signs w → Stands bs i w → (b : ℕ) → (b == 45 || b == 47) ≡ true → slice_get bs i ≡ Some b → slice_get bs (i + 1) ≡ Some 45 → length w ≤ 1
short_sign bs i w m s b h e f = elim (one_or_more (length w)) [
  | inl l ↦ l
  | inr l ↦
      let one : get_or w 0 0 ≡ b = same_byte bs i (get_or w 0 0) b (first_stands bs i w (omega arith) s) e in
      let two : get_or w 1 0 ≡ 45 = same_byte bs (i + 1) (get_or w 1 0) 45 (second_stands bs i w l s) f in
      absurd (not_both (nat_le (length w) 1) (opens_comment w) (longer (length w) l) (opens w b one two h) (sign_opens_none w m))
]

same_class : (bs : List ℕ) (i a b : ℕ) (x y : Class) → slice_get bs i ≡ Some a → slice_get bs i ≡ Some b → class_of b ≡ x → class_of a ≡ y → y ≡ x
same_class bs i a b x y e f h k = sym k ∙ (ap class_of (same_byte bs i a b e f) ∙ h)

pub one_class : (bs : List ℕ) (i : ℕ) (x y : Class) → Begins bs i x → Begins bs i y → x ≡ y
one_class bs i x y a b = same_class bs i a.byte b.byte y x a.here b.here b.class a.class

-- the two prefixes begin with a digit
pub prefix_begins : (bs : List ℕ) (i : ℕ) (w : List ℕ) (base : ℕ) → Prefix w base → Stands bs i w → Begins bs i Digit
prefix_begins bs i w base hexadecimal s = record { byte = 48; here = s.0; class = refl }
prefix_begins bs i w base binary s = record { byte = 48; here = s.0; class = refl }

pub shape : (bs : List ℕ) (i j : ℕ) (k : Option TokenKind) (x : Class) → Piece bs k i j → Begins bs i x → Shape bs i x k j
shape bs i j k x (blank {b} g t) a =
    subst (λ y. Shape bs i y None (i + 1)) (one_class bs i Blank x (record { byte = b; here = g; class = blank_class b t }) a) a_blank
shape bs i j k x (line_comment s le e) a =
    subst (λ y. Shape bs i y None j) (one_class bs i Minus x (record { byte = 45; here = s.0; class = refl }) a) (a_line s le e)
shape bs i j k x (nested_comment s c) a =
    subst (λ y. Shape bs i y None j) (one_class bs i Slash x (record { byte = 47; here = s.0; class = refl }) a) (a_nested s c)
shape bs i j k x (name {n} l r) a =
    subst (λ y. Shape bs i y (Some (kind_of_word (slice_range bs i j))) j) (one_class bs i Letter x (letter_begins bs i n l) a) (a_word l r)
shape bs i j k x (decimal_numeral d) a =
    let first = d.each i (omega arith) d.some in
    let bounds = digit_bounds first.0 first.2 in
    subst (λ y. Shape bs i y (Some (Numeral (digits_value 10 (slice_range bs i j)))) j) (one_class bs i Digit x (record { byte = first.0; here = first.1; class = digit_class first.0 bounds.0 bounds.1 }) a) (a_decimal d)
shape bs i j k x (prefixed_numeral {base} {w} p s d) a =
    subst (λ y. Shape bs i y (Some (Numeral (digits_value base (slice_range bs (i + 2) j)))) j) (one_class bs i Digit x (prefix_begins bs i w base p s) a) (a_prefixed p s d)
shape bs i j k x (string {j = e} s le r q) a =
    subst (λ y. Shape bs i y (Some Text) (e + 1)) (one_class bs i Quote x (record { byte = 34; here = s.0; class = refl }) a) (a_string le r q)
shape bs i j k x (sign w m s) a =
    let first = first_stands bs i w (sign_some w m) s in
    let same : class_of (get_or w 0 0) ≡ x = one_class bs i (class_of (get_or w 0 0)) x (record { byte = get_or w 0 0; here = first; class = refl }) a in
    a_sign w (subst IsOfSigns same (is_of_signs (class_of (get_or w 0 0)) (sign_class w m))) m s
