-- Pieces of a text begin and end where characters do.
use Rattle.std.proofs.Common.{◌≡◌, Bool, true, false, ◌||◌, ℕ, zero, suc, ◌+◌, ◌-◌, ◌<◌, ◌≤◌, ◌⊎◌, inl, inr, List, [], ◌∷◌, ◌++◌, length, get_or, drop, Option, Some, None, refl, sym, subst, ap, arith, ◌∙◌, append_assoc}
use Rattle.std.specs.Prelude.{IsUtf8, slice_get, IsTrue, nat_lt, bytes_eq}
use Rattle.std.specs.List.{Contains, list_all, list_any}
use Rattle.std.specs.Char.{IsScalar, encode_utf8, is_digit}
use Rattle.std.specs.Str.{IsCharBoundary, IsAscii, encode_utf8_all}
use Rattle.std.proofs.lemmas.Grind.{common_steps}
use Rattle.std.proofs.lemmas.Option.{slice_get_within, slice_get-get_or, get_or_from_slice_get}
use Rattle.std.proofs.lemmas.Slice.Eq.{bytes_eq-Decides}
use Rattle.std.proofs.Math.Utf8.{low_scalar}
use Rattle.std.proofs.lemmas.Str.{IsCharBoundary-end, IsCharBoundary-before_ascii, IsCharBoundary-after_ascii, IsCharBoundary-from_drop, IsUtf8-drop, IsUtf8-past_char, IsUtf8-encode, IsUtf8-from_ascii}
use Rattle.bv_lex.specs.declared.token.TokenKind.{TokenKind}
use Rattle.bv_lex.specs.Letters.{is_blank, is_in_line}
use Rattle.bv_lex.specs.Words.{Stands, Each, Digits, IsCharacter, Characters, no_more, one_more}
use Rattle.bv_lex.specs.Signs.{signs}
use Rattle.bv_lex.specs.Pieces.{Closes, closed, opens, closes, other, Prefix, hexadecimal, binary, Piece, blank, line_comment, nested_comment, name, decimal_numeral, prefixed_numeral, string, sign}
use Rattle.bv_lex.proofs.Encoding.{and_parts, or_cases}
use Rattle.bv_lex.proofs.Reading.{drop_stands, stands_within}
use Rattle.bv_lex.proofs.Shapes.{sign_passes}
use Rattle.bv_lex.proofs.Bounds.{within}

-- ---- beside ASCII

low : (bs : List ℕ) (i b : ℕ) → slice_get bs i ≡ Some b → b < 128 → get_or bs i 0 < 128
low bs i b e h = omega (arith, get_or_from_slice_get bs i b 0 e, h)

pub before : (bs : List ℕ) (i b : ℕ) → slice_get bs i ≡ Some b → b < 128 → IsCharBoundary bs i
before bs i b e h = IsCharBoundary-before_ascii bs i (slice_get_within bs i b e) (low bs i b e h)

pub behind : (bs : List ℕ) → IsUtf8 bs → (i b : ℕ) → slice_get bs i ≡ Some b → b < 128 → IsCharBoundary bs (i + 1)
behind bs u i b e h = IsCharBoundary-after_ascii bs i u (slice_get_within bs i b e) (low bs i b e h)

-- behind the last of bytes that are ASCII
behind_last : (bs : List ℕ) → IsUtf8 bs → (i j b : ℕ) → j ≡ i + 1 → slice_get bs i ≡ Some b → b < 128 → IsCharBoundary bs j
behind_last bs u i j b e g h = subst (IsCharBoundary bs) (sym e) (behind bs u i b g h)

-- ---- behind whole characters

past_text : (cs bs rest : List ℕ) → IsUtf8 bs → bs ≡ encode_utf8_all cs ++ rest → IsUtf8 rest
past_text [] bs rest u e = subst IsUtf8 e u
past_text (c ∷ cs) bs rest u e =
    past_text cs (encode_utf8_all cs ++ rest) rest (IsUtf8-past_char bs (encode_utf8_all cs ++ rest) c u (e ∙ append_assoc (encode_utf8 c) (encode_utf8_all cs) rest)) refl

-- behind a word that stands there
behind_word : (bs : List ℕ) → IsUtf8 bs → (i : ℕ) → IsCharBoundary bs i → (cs w : List ℕ) → encode_utf8_all cs ≡ w → Stands bs i w → IsCharBoundary bs (i + length w)
behind_word bs u i b cs w e s =
    let rest = drop (i + length w) bs in
    let is_text : IsUtf8 rest = past_text cs (drop i bs) rest (IsUtf8-drop bs i u b) (drop_stands bs w i s ∙ ap (λ v. v ++ rest) (sym e)) in
    IsCharBoundary-from_drop bs (i + length w) (stands_within bs w i b.0 s) is_text

one_alone : (c : ℕ) → encode_utf8_all (c ∷ []) ≡ encode_utf8 c
one_alone c = append_nothing (encode_utf8 c)
  where
    append_nothing : (xs : List ℕ) → xs ++ [] ≡ xs
    append_nothing [] = refl
    append_nothing (x ∷ xs) = ap (λ v. x ∷ v) (append_nothing xs)

behind_character : {p : ℕ → Bool} (bs : List ℕ) → IsUtf8 bs → (i n : ℕ) → IsCharBoundary bs i → IsCharacter p bs i n → IsCharBoundary bs (i + n)
behind_character bs u i n b x =
    subst (λ m. IsCharBoundary bs (i + m)) (sym x.bytes) (behind_word bs u i b (x.code ∷ []) (encode_utf8 x.code) (one_alone x.code) x.here)

behind_characters : {p : ℕ → Bool} (bs : List ℕ) → IsUtf8 bs → (i j : ℕ) → IsCharBoundary bs i → Characters p bs i j → IsCharBoundary bs j
behind_characters bs u i j b no_more = b
behind_characters bs u i j b (one_more {n} x r) = behind_characters bs u (i + n) j (behind_character bs u i n b x) r

-- ---- behind pieces

digit_ascii : (b base : ℕ) → base ≤ 16 → IsTrue (is_digit b base) → b < 128
digit_ascii b base h t = grind (arith, common_steps)

behind_digits : (bs : List ℕ) → IsUtf8 bs → (base i j : ℕ) → base ≤ 16 → Digits base bs i j → IsCharBoundary bs j
behind_digits bs u base i j h d =
    let some = d.some in
    let x = d.each (j - 1) (omega arith) (omega arith) in
    behind_last bs u (j - 1) j x.0 (omega arith) x.1 (digit_ascii x.0 base h x.2)

-- a comment closes behind a slash
closing : {bs : List ℕ} {d i j : ℕ} → Closes bs (suc d) i j → (k : ℕ) × (j ≡ k + 1) × (slice_get bs k ≡ Some 47)
closing (opens s r) = closing r
closing {d = zero} {i} (closes s closed) = (i + 1, omega arith, s.1.0)
closing {d = suc d} (closes s r) = closing r
closing (other w a b r) = closing r

-- a comment from `--` on ends at the end of its line
line_end : (bs : List ℕ) → IsUtf8 bs → (i j : ℕ) → j ≤ length bs → Stands bs i (45 ∷ 45 ∷ []) → i + 2 ≤ j → Each is_in_line bs (i + 2) j
    → ((l : Option TokenKind) (m : ℕ) → Piece bs l i m → m ≤ j) → IsCharBoundary bs j
line_end bs u i j h s le each longest = elim (inside_or_end j (length bs) h) [
  | inl lt ↦ by_byte (is_in_line (get_or bs j 0)) refl lt
  | inr e ↦ subst (IsCharBoundary bs) (sym e) (IsCharBoundary-end bs)
]
  where
    inside_or_end : (j n : ℕ) → j ≤ n → (j < n) ⊎ (j ≡ n)
    inside_or_end j n h = grind arith

    old_or_last : (k j : ℕ) → k < j + 1 → (k < j) ⊎ (k ≡ j)
    old_or_last k j h = grind arith

    ends_line : (b : ℕ) → is_in_line b ≡ false → b < 128
    ends_line b e = grind (arith, common_steps)

    longer : j < length bs → is_in_line (get_or bs j 0) ≡ true → Each is_in_line bs (i + 2) (j + 1)
    longer lt e k from to = elim (old_or_last k j to) [
      | inl before ↦ each k from before
      | inr same ↦ (get_or bs j 0, subst (λ n. slice_get bs n ≡ Some (get_or bs j 0)) (sym same) (slice_get-get_or bs j 0 lt), e)
    ]

    by_byte : (t : Bool) → is_in_line (get_or bs j 0) ≡ t → j < length bs → IsCharBoundary bs j
    by_byte true e lt = let more : j + 1 ≤ j = longest None (j + 1) (line_comment s (omega arith) (longer lt e)) in absurd (omega arith)
    by_byte false e lt = before bs j (get_or bs j 0) (slice_get-get_or bs j 0 lt) (ends_line (get_or bs j 0) e)

blank_ascii : (b : ℕ) → IsTrue (is_blank b) → b < 128
blank_ascii b t = grind (arith, common_steps)

prefix_base : {w : List ℕ} {base : ℕ} → Prefix w base → base ≤ 16
prefix_base hexadecimal = omega arith
prefix_base binary = omega arith

-- the signs that are no ASCII: ≠ ≤ ≥ ¬ ∧ ∨ → ↔
wide_signs : List ℕ
wide_signs = 0x2260 ∷ 0x2264 ∷ 0x2265 ∷ 0xAC ∷ 0x2227 ∷ 0x2228 ∷ 0x2192 ∷ 0x2194 ∷ []

is_narrow : List ℕ → Bool
is_narrow w = list_all (λ b. nat_lt b 128) w

is_wide : ℕ → Bool
is_wide c = nat_lt c 0xD800

is_spelled : List ℕ → Bool
is_spelled w = is_narrow w || list_any (λ c. bytes_eq (encode_utf8 c) w) wide_signs

signs_spelled : list_all is_spelled signs ≡ true
unfolding is_spelled is_narrow wide_signs encode_utf8
signs_spelled = refl

narrow_ascii : (w : List ℕ) → is_narrow w ≡ true → IsAscii w
unfolding is_narrow
narrow_ascii [] h i = omega arith
narrow_ascii (b ∷ w) h zero = let e = (and_parts (nat_lt b 128) (is_narrow w) h).0 in below b e
  where
    below : (b : ℕ) → nat_lt b 128 ≡ true → b < 128
    below b e = grind (arith, common_steps)
narrow_ascii (b ∷ w) h (suc i) = narrow_ascii w (and_parts (nat_lt b 128) (is_narrow w) h).1 i

spelled_wide : (cs w : List ℕ) → list_all is_wide cs ≡ true → list_any (λ c. bytes_eq (encode_utf8 c) w) cs ≡ true → IsUtf8 w
unfolding is_wide
spelled_wide [] w a h = cc
spelled_wide (c ∷ cs) w a h = elim (or_cases (bytes_eq (encode_utf8 c) w) (list_any (λ d. bytes_eq (encode_utf8 d) w) cs) h) [
  | inl e ↦ subst IsUtf8 ((bytes_eq-Decides (encode_utf8 c) w).0 e) (IsUtf8-encode c (wide_scalar c (and_parts (is_wide c) (list_all is_wide cs) a).0))
  | inr e ↦ spelled_wide cs w (and_parts (is_wide c) (list_all is_wide cs) a).1 e
]
  where
    below : (c : ℕ) → nat_lt c 55296 ≡ true → c < 55296
    below c e = grind (arith, common_steps)

    wide_scalar : (c : ℕ) → is_wide c ≡ true → IsScalar c
    wide_scalar c e = low_scalar c (below c e)

all_wide : list_all is_wide wide_signs ≡ true
unfolding is_wide wide_signs
all_wide = refl

sign_text : (w : List ℕ) → Contains signs w → IsUtf8 w
unfolding is_spelled
sign_text w m = elim (or_cases (is_narrow w) (list_any (λ c. bytes_eq (encode_utf8 c) w) wide_signs) (sign_passes is_spelled w signs_spelled m)) [
  | inl e ↦ IsUtf8-from_ascii w (narrow_ascii w e)
  | inr e ↦ spelled_wide wide_signs w all_wide e
]

-- a piece that is cut off where a character begins ends where one does
pub behind_piece : (bs : List ℕ) → IsUtf8 bs → (k : Option TokenKind) (i j : ℕ) → IsCharBoundary bs i → ((l : Option TokenKind) (m : ℕ) → Piece bs l i m → m ≤ j) → Piece bs k i j → IsCharBoundary bs j
behind_piece bs u k i j b longest (blank {b = c} g t) = behind bs u i c g (blank_ascii c t)
behind_piece bs u k i j b longest (line_comment s le each) = line_end bs u i j (within bs i j None (line_comment s le each)) s le each longest
behind_piece bs u k i j b longest (nested_comment s c) = let e = closing c in behind_last bs u e.0 j 47 e.1 e.2 (omega arith)
behind_piece bs u k i j b longest (name {n} x r) = behind_characters bs u (i + n) j (behind_character bs u i n b x) r
behind_piece bs u k i j b longest (decimal_numeral d) = behind_digits bs u 10 i j (omega arith) d
behind_piece bs u k i j b longest (prefixed_numeral {base} p s d) = behind_digits bs u base (i + 2) j (prefix_base p) d
behind_piece bs u k i j b longest (string {j = e} s le each q) = behind bs u e 34 q.0 (omega arith)
behind_piece bs u k i j b longest (sign w m s) = let t = sign_text w m in behind_word bs u i b t.0 w t.1.1 s
