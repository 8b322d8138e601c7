-- The longest piece at a place, by the class of its first byte.
use Rattle.std.proofs.Common.{◌≡◌, ◌≢◌, Bool, true, false, ℕ, ◌+◌, ◌<◌, ◌≤◌, ◌⊎◌, inl, inr, List, [], length, Some, None, Option, refl, sym, subst, arith, ap, ◌∙◌}
use Rattle.std.specs.Prelude.{slice_get, slice_range, codes, ◌==◌, if◌then◌else◌, Err}
use Rattle.std.specs.List.{Contains, list_any}
use Rattle.std.specs.Str.{bytes_eq}
use Rattle.std.specs.Char.{is_digit, is_ascii_digit}
use Rattle.std.specs.Str.Parse.{digits_value}
use Rattle.std.proofs.lemmas.Grind.{common_steps}
use Rattle.bvd_text.specs.declared.numbers.NumberStop.{NumberStop}
use Rattle.bvd_text.specs.Numbers.{reading}
use Rattle.bv_lex.specs.declared.token.TokenKind.{TokenKind}
use Rattle.bv_lex.specs.declared.token.TokenKind.TheVariants.{Numeral, Text, Sign, Name, Reserved}
use Rattle.bv_lex.specs.declared.classes.Class.{Class}
use Rattle.bv_lex.specs.declared.classes.Class.TheVariants.{Blank, Letter, Digit, Quote, Minus, Slash, Other}
use Rattle.bv_lex.specs.declared.fault.FaultKind.TheVariants.{Lex, Limit}
use Rattle.bv_lex.specs.declared.fault.What.TheVariants as what
use Rattle.bv_lex.specs.declared.runs.Run.{Run}
use Rattle.bv_lex.specs.declared.runs.Run.TheVariants.{Line, String, Decimal, Hexadecimal, Binary}
use Rattle.bv_lex.specs.Letters.{is_blank, is_in_line, is_in_string, begins_name, goes_on_name}
use Rattle.bv_lex.specs.Words.{Stands, Each, Digits, IsCharacter, Characters}
use Rattle.bv_lex.specs.Signs.{kind_of_word, reserved_words, signs}
use Rattle.bv_lex.specs.Pieces.{Closes, Prefix, hexadecimal, binary, Piece, blank, line_comment, nested_comment, name, decimal_numeral, prefixed_numeral, string, sign, IsBad, unclosed, without_digit, stray, IsFront}
use Rattle.bv_lex.specs.Cut.{IsWithin, Stops, bad, large}
use Rattle.bv_lex.specs.Runs.{belongs, prefix_of, base_of}
use Rattle.bv_lex.specs.Classes.{is_letter_byte, class_of, Begins}
use Rattle.bv_lex.specs.Fronts.{IsCutOff, IsNumeralAt, IsSignAt, OnlySigns}
use Rattle.bv_lex.proofs.Nesting.{closes_ahead, one_closing}
use Rattle.bv_lex.proofs.Reading.{same_byte, one_character}
use Rattle.bv_lex.proofs.Shapes.{Shape, a_blank, a_word, a_decimal, a_prefixed, a_string, a_line, a_nested, a_sign, shape, one_class, prefix_begins, short_sign, sign_some, digit_bounds}
use Rattle.bv_lex.proofs.Values.{decimal_reading, prefixed_reading, reads_large}

opens_slash : (bs : List ℕ) (i : ℕ) → Stands bs i (codes "/-") → Begins bs i Slash
opens_slash bs i s = record { byte = 47; here = s.0; class = refl }

-- a piece is no fault where its first byte is that of no comment and of no numeral
plain : (bs : List ℕ) (i j : ℕ) (k : Option TokenKind) (x : Class) → Begins bs i x → x ≢ Slash → x ≢ Digit → Piece bs k i j → ((l : Option TokenKind) (m : ℕ) → Shape bs i x l m → m ≤ j) → IsFront bs k i j
plain bs i j k x a no_slash no_digit p longest = record { sound = sound; piece = p; longest = λ l m q. longest l m (shape bs i m l x q a) }
  where
    sound : IsBad bs i → ⊥
    sound (unclosed s none) = no_slash (one_class bs i x Slash a (opens_slash bs i s))
    sound (without_digit {base} {w} q s none) = no_digit (one_class bs i x Digit a (prefix_begins bs i w base q s))
    sound (stray none) = none k j p

-- a blank

blank_byte : (b : ℕ) → class_of b ≡ Blank → is_blank b ≡ true
blank_byte b h = go (is_blank b) (is_letter_byte b) (is_ascii_digit b) (b == 34) (b == 45) (b == 47) h
  where
    go : (v l d q m s : Bool) → (if v then Blank else (if l then Letter else (if d then Digit else (if q then Quote else (if m then Minus else (if s then Slash else Other)))))) ≡ Blank → v ≡ true
    go true l d q m s h = refl
    go false true d q m s h = (cc)
    go false false true q m s h = (cc)
    go false false false true m s h = (cc)
    go false false false false true s h = (cc)
    go false false false false false true h = (cc)
    go false false false false false false h = (cc)

blank_longest : (bs : List ℕ) (i : ℕ) (l : Option TokenKind) (m : ℕ) → Shape bs i Blank l m → m ≤ i + 1
blank_longest bs i l m a_blank = omega arith
blank_longest bs i l m (a_sign w without c s) = absurd without

pub blank_cut : (bs : List ℕ) (i : ℕ) → Begins bs i Blank → IsCutOff bs None i (i + 1)
blank_cut bs i a = record { front = plain bs i (i + 1) None Blank a (λ e. (cc)) (λ e. (cc)) (blank a.here (blank_byte a.byte a.class)) (blank_longest bs i); within = tt }

-- a name or a reserved word

word_within : (w : List ℕ) → IsWithin (kind_of_word w)
word_within w = go (list_any (λ v. bytes_eq v w) reserved_words)
  where
    go : (b : Bool) → IsWithin (if b then Reserved else Name)
    go true = tt
    go false = tt

word_longest : (bs : List ℕ) (i n j : ℕ) → IsCharacter begins_name bs i n → ((m : ℕ) → Characters goes_on_name bs (i + n) m → m ≤ j) → (l : Option TokenKind) (m : ℕ) → Shape bs i Letter l m → m ≤ j
word_longest bs i n j x longest l m (a_word {n = k} y r) = longest m (subst (λ h. Characters goes_on_name bs (i + h) m) (one_character bs i k n y x) r)
word_longest bs i n j x longest l m (a_sign w without c s) = absurd without

pub word_cut : (bs : List ℕ) (i n j : ℕ) → Begins bs i Letter → IsCharacter begins_name bs i n → Characters goes_on_name bs (i + n) j → ((m : ℕ) → Characters goes_on_name bs (i + n) m → m ≤ j)
    → IsCutOff bs (Some (kind_of_word (slice_range bs i j))) i j
word_cut bs i n j a x r longest = record {
  front = plain bs i j (Some (kind_of_word (slice_range bs i j))) Letter a (λ e. (cc)) (λ e. (cc)) (name x r) (word_longest bs i n j x longest);
  within = word_within (slice_range bs i j);
}

no_word : (bs : List ℕ) (i : ℕ) → ((n : ℕ) → IsCharacter begins_name bs i n → ⊥) → (l : Option TokenKind) (m : ℕ) → Shape bs i Letter l m → ⊥
no_word bs i none l m (a_word {n} y r) = none n y
no_word bs i none l m (a_sign w without c s) = without

pub word_stops : (bs : List ℕ) (i : ℕ) → Begins bs i Letter → ((n : ℕ) → IsCharacter begins_name bs i n → ⊥) → Stops bs i Lex
word_stops bs i a none = bad (stray (λ l m p. no_word bs i none l m (shape bs i m l Letter p a)))

-- a string

up_to_or_beyond : (m j : ℕ) → (m ≤ j) ⊎ (j < m)
up_to_or_beyond m j = grind arith

quote_ends : (bs : List ℕ) (i e j : ℕ) → i ≤ e → slice_get bs e ≡ Some 34 → Each is_in_string bs i j → j ≤ e
quote_ends bs i e j low q each = elim (up_to_or_beyond j e) [
  | inl le ↦ le
  | inr gt ↦
      let x = each e low gt in
      let same : x.0 ≡ 34 = same_byte bs e x.0 34 x.1 q in
      let outside : is_in_string x.0 ≡ false = ap is_in_string same in
      let inside : is_in_string x.0 ≡ true = x.2 in
      (cc)
]

string_longest : (bs : List ℕ) (i e : ℕ) → i + 1 ≤ e → slice_get bs e ≡ Some 34 → (l : Option TokenKind) (m : ℕ) → Shape bs i Quote l m → m ≤ e + 1
string_longest bs i e low q l m (a_string {j} le each s) = let below = quote_ends bs (i + 1) e j low q each in omega arith
string_longest bs i e low q l m (a_sign w without c s) = absurd without

quote_byte : (b : ℕ) → class_of b ≡ Quote → b ≡ 34
quote_byte b h = go (is_blank b) (is_letter_byte b) (is_ascii_digit b) (b == 34) (b == 45) (b == 47) refl h
  where
    equal : (m n : ℕ) → (m == n) ≡ true → m ≡ n
    equal m n h = grind (arith, common_steps)

    go : (v l d q m s : Bool) → (b == 34) ≡ q → (if v then Blank else (if l then Letter else (if d then Digit else (if q then Quote else (if m then Minus else (if s then Slash else Other)))))) ≡ Quote → b ≡ 34
    go true l d q m s e h = absurd (cc)
    go false true d q m s e h = absurd (cc)
    go false false true q m s e h = absurd (cc)
    go false false false true m s e h = equal b 34 e
    go false false false false true s e h = absurd (cc)
    go false false false false false true e h = absurd (cc)
    go false false false false false false e h = absurd (cc)

pub string_cut : (bs : List ℕ) (i e : ℕ) → Begins bs i Quote → i + 1 ≤ e → Each is_in_string bs (i + 1) e → slice_get bs e ≡ Some 34 → IsCutOff bs (Some Text) i (e + 1)
string_cut bs i e a low each q =
    let first : slice_get bs i ≡ Some 34 = a.here ∙ ap Some (quote_byte a.byte a.class) in
    record { front = plain bs i (e + 1) (Some Text) Quote a (λ e. (cc)) (λ e. (cc)) (string (first, tt) low each (q, tt)) (string_longest bs i e low q); within = tt }

no_string : (bs : List ℕ) (i e : ℕ) → ((m : ℕ) → i + 1 ≤ m → Each is_in_string bs (i + 1) m → m ≤ e) → Each is_in_string bs (i + 1) e → (slice_get bs e ≡ Some 34 → ⊥) → (l : Option TokenKind) (m : ℕ) → Shape bs i Quote l m → ⊥
no_string bs i e longest each without l m (a_string {j} le r s) =
    let below : j ≤ e = longest j le r in
    elim (up_to_or_beyond e j) [
      | inl ge ↦ let same : j ≡ e = omega arith in without (subst (λ n. slice_get bs n ≡ Some 34) same s.0)
      | inr gt ↦
          let x = each j le gt in
          let same : x.0 ≡ 34 = same_byte bs j x.0 34 x.1 s.0 in
          let not_in : is_in_string x.0 ≡ false = ap is_in_string same in
          let inside : is_in_string x.0 ≡ true = x.2 in
          (cc)
    ]
no_string bs i e longest each without l m (a_sign w out c s) = out

pub string_stops : (bs : List ℕ) (i e : ℕ) → Begins bs i Quote → ((m : ℕ) → i + 1 ≤ m → Each is_in_string bs (i + 1) m → m ≤ e) → Each is_in_string bs (i + 1) e → (slice_get bs e ≡ Some 34 → ⊥) → Stops bs i Lex
string_stops bs i e a longest each without = bad (stray (λ l m p. no_string bs i e longest each without l m (shape bs i m l Quote p a)))

-- comments

line_longest : (bs : List ℕ) (i j : ℕ) → Stands bs i (codes "--") → i + 2 ≤ j → ((m : ℕ) → i + 2 ≤ m → Each is_in_line bs (i + 2) m → m ≤ j) → (l : Option TokenKind) (m : ℕ) → Shape bs i Minus l m → m ≤ j
line_longest bs i j s low longest l m (a_line t le each) = longest m le each
line_longest bs i j s low longest l m (a_sign w of_sign c t) = let short = short_sign bs i w c t 45 refl s.0 s.1.0 in omega arith

pub line_cut : (bs : List ℕ) (i j : ℕ) → Stands bs i (codes "--") → i + 2 ≤ j → Each is_in_line bs (i + 2) j → ((m : ℕ) → i + 2 ≤ m → Each is_in_line bs (i + 2) m → m ≤ j) → IsCutOff bs None i j
line_cut bs i j s low each longest =
    let a : Begins bs i Minus = record { byte = 45; here = s.0; class = refl } in
    record { front = plain bs i j None Minus a (λ e. (cc)) (λ e. (cc)) (line_comment s low each) (line_longest bs i j s low longest); within = tt }

nested_longest : (bs : List ℕ) (i j : ℕ) → Stands bs i (codes "/-") → Closes bs 1 (i + 2) j → (l : Option TokenKind) (m : ℕ) → Shape bs i Slash l m → m ≤ j
nested_longest bs i j s c l m (a_nested t d) = let same = one_closing d c in omega arith
nested_longest bs i j s c l m (a_sign w of_sign d t) = let short = short_sign bs i w d t 47 refl s.0 s.1.0 in let ahead = closes_ahead c in omega arith

pub nested_cut : (bs : List ℕ) (i j : ℕ) → Stands bs i (codes "/-") → Closes bs 1 (i + 2) j → IsCutOff bs None i j
nested_cut bs i j s c = record {
  front = record { sound = sound; piece = nested_comment s c; longest = λ l m p. nested_longest bs i j s c l m (shape bs i m l Slash p (opens_slash bs i s)) };
  within = tt;
}
  where
    sound : IsBad bs i → ⊥
    sound (unclosed t none) = none j c
    sound (without_digit {base} {w} q t none) = let e = one_class bs i Slash Digit (opens_slash bs i s) (prefix_begins bs i w base q t) in (cc)
    sound (stray none) = none None j (nested_comment s c)

pub nested_stops : (bs : List ℕ) (i : ℕ) → Stands bs i (codes "/-") → ((j : ℕ) → Closes bs 1 (i + 2) j → ⊥) → Stops bs i Lex
nested_stops bs i s none = bad (unclosed s none)

-- signs

pub sign_cut : (bs : List ℕ) (i n : ℕ) (w : List ℕ) → OnlySigns bs i → Contains signs w → Stands bs i w → length w ≡ n → ((v : List ℕ) → Contains signs v → Stands bs i v → length v ≤ n) → IsCutOff bs (Some Sign) i (i + n)
sign_cut bs i n w only c s e longest = record { front = record { sound = sound; piece = p; longest = most }; within = tt }
  where
    p : Piece bs (Some Sign) i (i + n)
    p = subst (λ k. Piece bs (Some Sign) i (i + k)) e (sign w c s)

    sound : IsBad bs i → ⊥
    sound (unclosed t none) = only.no_comment t
    sound (without_digit {base} {w = v} q t none) = only.no_prefix v base q t
    sound (stray none) = none (Some Sign) (i + n) p

    most : (l : Option TokenKind) (m : ℕ) → Piece bs l i m → m ≤ i + n
    most l m q = let x = only.pieces l m q in let le = longest x.word x.listed x.here in omega (arith, x.ends)

pub sign_stops : (bs : List ℕ) (i : ℕ) → OnlySigns bs i → ((v : List ℕ) → Contains signs v → Stands bs i v → length v ≤ 0) → Stops bs i Lex
sign_stops bs i only none = bad (stray (λ l m p. let x = only.pieces l m p in let some = sign_some x.word x.listed in let le = none x.word x.listed x.here in omega arith))

no_prefix : (bs : List ℕ) (i : ℕ) (x : Class) → Begins bs i x → x ≢ Digit → (w : List ℕ) (base : ℕ) → Prefix w base → Stands bs i w → ⊥
no_prefix bs i x a without w base q s = without (one_class bs i x Digit a (prefix_begins bs i w base q s))

minus_signs : (bs : List ℕ) (i : ℕ) → (Stands bs i (codes "--") → ⊥) → (l : Option TokenKind) (m : ℕ) → Shape bs i Minus l m → IsSignAt bs l i m
minus_signs bs i without l m (a_line s le each) = absurd (without s)
minus_signs bs i without l m (a_sign w of_sign c s) = record { word = w; listed = c; here = s; kind = refl; ends = refl }

slash_signs : (bs : List ℕ) (i : ℕ) → (Stands bs i (codes "/-") → ⊥) → (l : Option TokenKind) (m : ℕ) → Shape bs i Slash l m → IsSignAt bs l i m
slash_signs bs i without l m (a_nested s c) = absurd (without s)
slash_signs bs i without l m (a_sign w of_sign c s) = record { word = w; listed = c; here = s; kind = refl; ends = refl }

other_signs : (bs : List ℕ) (i : ℕ) (l : Option TokenKind) (m : ℕ) → Shape bs i Other l m → IsSignAt bs l i m
other_signs bs i l m (a_sign w of_sign c s) = record { word = w; listed = c; here = s; kind = refl; ends = refl }

pub only_minus : (bs : List ℕ) (i : ℕ) → Begins bs i Minus → (Stands bs i (codes "--") → ⊥) → OnlySigns bs i
only_minus bs i a without = record {
  pieces = λ l m p. minus_signs bs i without l m (shape bs i m l Minus p a);
  no_comment = λ s. let e = one_class bs i Minus Slash a (opens_slash bs i s) in (cc);
  no_prefix = no_prefix bs i Minus a (λ e. (cc));
}

pub only_slash : (bs : List ℕ) (i : ℕ) → Begins bs i Slash → (Stands bs i (codes "/-") → ⊥) → OnlySigns bs i
only_slash bs i a without = record {
  pieces = λ l m p. slash_signs bs i without l m (shape bs i m l Slash p a);
  no_comment = without;
  no_prefix = no_prefix bs i Slash a (λ e. (cc));
}

pub only_other : (bs : List ℕ) (i : ℕ) → Begins bs i Other → OnlySigns bs i
only_other bs i a = record {
  pieces = λ l m p. other_signs bs i l m (shape bs i m l Other p a);
  no_comment = λ s. let e = one_class bs i Other Slash a (opens_slash bs i s) in (cc);
  no_prefix = no_prefix bs i Other a (λ e. (cc));
}

-- numerals

pub one_prefix : (bs : List ℕ) (i : ℕ) (v w : List ℕ) (b c : ℕ) → Prefix v b → Stands bs i v → Prefix w c → Stands bs i w → b ≡ c
one_prefix bs i v w b c hexadecimal s hexadecimal t = refl
one_prefix bs i v w b c binary s binary t = refl
one_prefix bs i v w b c hexadecimal s binary t = absurd (let e : 120 ≡ 98 = same_byte bs (i + 1) 120 98 s.1.0 t.1.0 in omega arith)
one_prefix bs i v w b c binary s hexadecimal t = absurd (let e : 98 ≡ 120 = same_byte bs (i + 1) 98 120 s.1.0 t.1.0 in omega arith)

-- no decimal digit stands behind the 0 of a prefix
second_letter : (bs : List ℕ) (i b : ℕ) (w : List ℕ) (base : ℕ) → Prefix w base → Stands bs i w → slice_get bs (i + 1) ≡ Some b → b ≤ 57 → ⊥
second_letter bs i b w base hexadecimal s e h = let same : b ≡ 120 = same_byte bs (i + 1) b 120 e s.1.0 in omega arith
second_letter bs i b w base binary s e h = let same : b ≡ 98 = same_byte bs (i + 1) b 98 e s.1.0 in omega arith

pub short_decimal : (bs : List ℕ) (i m : ℕ) (w : List ℕ) (base : ℕ) → Prefix w base → Stands bs i w → Digits 10 bs i m → m ≤ i + 1
short_decimal bs i m w base q s d = elim (up_to_or_beyond m (i + 1)) [
  | inl le ↦ le
  | inr gt ↦ let x = d.each (i + 1) (omega arith) gt in let bounds = digit_bounds x.0 x.2 in absurd (second_letter bs i x.0 w base q s x.1 bounds.1)
]

prefixed_longest : (bs : List ℕ) (i j : ℕ) (w : List ℕ) (base : ℕ) → Prefix w base → Stands bs i w → i + 2 < j → ((m : ℕ) → i + 2 ≤ m → Each (λ b. is_digit b base) bs (i + 2) m → m ≤ j) → (l : Option TokenKind) (m : ℕ) → Shape bs i Digit l m → m ≤ j
prefixed_longest bs i j w base q s low longest l m (a_decimal d) = let short = short_decimal bs i m w base q s d in omega arith
prefixed_longest bs i j w base q s low longest l m (a_prefixed {base = c} {w = v} p t d) =
    let lt = d.some in
    longest m (omega arith) (subst (λ n. Each (λ b. is_digit b n) bs (i + 2) m) (one_prefix bs i v w c base p t q s) d.each)
prefixed_longest bs i j w base q s low longest l m (a_sign v without c t) = absurd without

prefixed_at : (bs : List ℕ) (i j : ℕ) (w : List ℕ) (base : ℕ) → Prefix w base → Stands bs i w → i + 2 < j → Each (λ b. is_digit b base) bs (i + 2) j → ((m : ℕ) → i + 2 ≤ m → Each (λ b. is_digit b base) bs (i + 2) m → m ≤ j)
    → IsNumeralAt bs i j
prefixed_at bs i j w base q s low each longest = record {
  value = digits_value base (slice_range bs (i + 2) j);
  front = record { sound = sound; piece = p; longest = λ l m r. prefixed_longest bs i j w base q s low longest l m (shape bs i m l Digit r a) };
  reads = prefixed_reading bs i j w base q s d;
}
  where
    a : Begins bs i Digit
    a = prefix_begins bs i w base q s

    d : Digits base bs (i + 2) j
    d = record { some = low; each = each }

    p : Piece bs (Some (Numeral (digits_value base (slice_range bs (i + 2) j)))) i j
    p = prefixed_numeral q s d

    sound : IsBad bs i → ⊥
    sound (unclosed t none) = let e = one_class bs i Digit Slash a (opens_slash bs i t) in (cc)
    sound (without_digit {base = c} {w = v} r t none) = none j (subst (λ n. Digits n bs (i + 2) j) (one_prefix bs i w v base c q s r t) d)
    sound (stray none) = none (Some (Numeral (digits_value base (slice_range bs (i + 2) j)))) j p

prefixed_stops : (bs : List ℕ) (i : ℕ) (w : List ℕ) (base : ℕ) → Prefix w base → Stands bs i w → ((m : ℕ) → i + 2 ≤ m → Each (λ b. is_digit b base) bs (i + 2) m → m ≤ i + 2) → Stops bs i Lex
prefixed_stops bs i w base q s longest = bad (without_digit q s (λ j d. let lt = d.some in let le = longest j (omega arith) d.each in omega arith))

-- the same of a run of digits

no_prefix_of : (w : List ℕ) (base : ℕ) → Prefix w base → 0 < length w
no_prefix_of w base hexadecimal = omega arith
no_prefix_of w base binary = omega arith

pub run_at : (bs : List ℕ) (i j : ℕ) (r : Run) → Prefix (prefix_of r) (base_of r) → Stands bs i (prefix_of r) → i + 2 < j → Each (belongs r) bs (i + 2) j → ((m : ℕ) → i + 2 ≤ m → Each (belongs r) bs (i + 2) m → m ≤ j) → IsNumeralAt bs i j
run_at bs i j Hexadecimal q s low each longest = prefixed_at bs i j (codes "0x") 16 q s low each longest
run_at bs i j Binary q s low each longest = prefixed_at bs i j (codes "0b") 2 q s low each longest
run_at bs i j Decimal q s low each longest = absurd (let h = no_prefix_of [] 10 q in omega arith)
run_at bs i j Line q s low each longest = absurd (let h = no_prefix_of [] 0 q in omega arith)
run_at bs i j String q s low each longest = absurd (let h = no_prefix_of [] 0 q in omega arith)

pub run_stops : (bs : List ℕ) (i : ℕ) (r : Run) → Prefix (prefix_of r) (base_of r) → Stands bs i (prefix_of r) → ((m : ℕ) → i + 2 ≤ m → Each (belongs r) bs (i + 2) m → m ≤ i + 2) → Stops bs i Lex
run_stops bs i Hexadecimal q s longest = prefixed_stops bs i (codes "0x") 16 q s longest
run_stops bs i Binary q s longest = prefixed_stops bs i (codes "0b") 2 q s longest
run_stops bs i Decimal q s longest = absurd (let h = no_prefix_of [] 10 q in omega arith)
run_stops bs i Line q s longest = absurd (let h = no_prefix_of [] 0 q in omega arith)
run_stops bs i String q s longest = absurd (let h = no_prefix_of [] 0 q in omega arith)

decimal_longest : (bs : List ℕ) (i j : ℕ) → ((w : List ℕ) (base : ℕ) → Prefix w base → Stands bs i w → ⊥) → ((m : ℕ) → i ≤ m → Each (λ b. is_digit b 10) bs i m → m ≤ j) → (l : Option TokenKind) (m : ℕ) → Shape bs i Digit l m → m ≤ j
decimal_longest bs i j without longest l m (a_decimal d) = let lt = d.some in longest m (omega arith) d.each
decimal_longest bs i j without longest l m (a_prefixed {base} {w} p t d) = absurd (without w base p t)
decimal_longest bs i j without longest l m (a_sign v out c t) = absurd out

pub decimal_at : (bs : List ℕ) (i j : ℕ) → Begins bs i Digit → ((w : List ℕ) (base : ℕ) → Prefix w base → Stands bs i w → ⊥) → i < j → Each (λ b. is_digit b 10) bs i j → ((m : ℕ) → i ≤ m → Each (λ b. is_digit b 10) bs i m → m ≤ j) → IsNumeralAt bs i j
decimal_at bs i j a without low each longest = record {
  value = digits_value 10 (slice_range bs i j);
  front = record { sound = sound; piece = p; longest = λ l m r. decimal_longest bs i j without longest l m (shape bs i m l Digit r a) };
  reads = decimal_reading bs i j d;
}
  where
    d : Digits 10 bs i j
    d = record { some = low; each = each }

    p : Piece bs (Some (Numeral (digits_value 10 (slice_range bs i j)))) i j
    p = decimal_numeral d

    sound : IsBad bs i → ⊥
    sound (unclosed t none) = let e = one_class bs i Digit Slash a (opens_slash bs i t) in (cc)
    sound (without_digit {base = c} {w = v} r t none) = without v c r t
    sound (stray none) = none (Some (Numeral (digits_value 10 (slice_range bs i j)))) j p

pub no_prefixes : (bs : List ℕ) (i : ℕ) → (Stands bs i (codes "0x") → ⊥) → (Stands bs i (codes "0b") → ⊥) → (w : List ℕ) (base : ℕ) → Prefix w base → Stands bs i w → ⊥
no_prefixes bs i x b w base hexadecimal s = x s
no_prefixes bs i x b w base binary s = b s

digit_byte : (b : ℕ) → class_of b ≡ Digit → is_ascii_digit b ≡ true
digit_byte b h = go (is_blank b) (is_letter_byte b) (is_ascii_digit b) (b == 34) (b == 45) (b == 47) h
  where
    go : (v l d q m s : Bool) → (if v then Blank else (if l then Letter else (if d then Digit else (if q then Quote else (if m then Minus else (if s then Slash else Other)))))) ≡ Digit → d ≡ true
    go true l d q m s h = absurd (cc)
    go false true d q m s h = absurd (cc)
    go false false true q m s h = refl
    go false false false true m s h = absurd (cc)
    go false false false false true s h = absurd (cc)
    go false false false false false true h = absurd (cc)
    go false false false false false false h = absurd (cc)

a_digit : (b : ℕ) → is_ascii_digit b ≡ true → is_digit b 10 ≡ true
a_digit b h = grind (arith, common_steps)

-- the first digit is one of the run
pub digit_ahead : (bs : List ℕ) (i j : ℕ) → Begins bs i Digit → ((m : ℕ) → i ≤ m → Each (λ b. is_digit b 10) bs i m → m ≤ j) → i < j
digit_ahead bs i j a longest = let le = longest (i + 1) (omega arith) one in omega arith
  where
    one : Each (λ b. is_digit b 10) bs i (i + 1)
    one k low high = let same : i ≡ k = omega arith in (a.byte, subst (λ n. slice_get bs n ≡ Some a.byte) same a.here, a_digit a.byte (digit_byte a.byte a.class))

pub numeral_stops : (bs : List ℕ) (i j : ℕ) (s : NumberStop) → IsNumeralAt bs i j → reading (slice_range bs i j) ≡ Err s → Stops bs i (Limit what.Number)
numeral_stops bs i j s x h = large x.front (reads_large x.value s (sym x.reads ∙ h))
