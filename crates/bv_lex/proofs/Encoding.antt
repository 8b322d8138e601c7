-- The bytes of the characters of names.
use Rattle.std.proofs.Common.{◌≡◌, ◌≢◌, Bool, true, false, not, ◌||◌, ◌&&◌, ℕ, ◌+◌, ◌/◌, ◌%◌, ◌<◌, ◌≤◌, ◌⊎◌, ◌∷◌, inl, inr, List, [], get_or, Some, refl, sym, arith, ap, ◌∙◌}
use Rattle.std.specs.Prelude.{slice_get, nat_lt, ◌==◌}
use Rattle.std.specs.Int.{is_in_range}
use Rattle.std.specs.Char.{encode_utf8, is_ascii_digit}
use Rattle.std.proofs.lemmas.Grind.{common_steps}
use Rattle.std.proofs.lemmas.Bool.{eqb-true}
use Rattle.std.proofs.lemmas.Str.{encode_ascii}
use Rattle.bv_lex.specs.Letters.{is_greek_letter, is_subscript, begins_name, goes_on_name}
use Rattle.bv_lex.specs.Words.{Stands, IsCharacter}
use Rattle.bv_lex.specs.Encoded.{is_ascii_letter, is_ascii_mark, spell_greek_letter, spell_subscript}
use Rattle.bv_lex.proofs.Reading.{here, read}

lt : (a b : ℕ) → a < b → nat_lt a b ≡ true
lt a b h = grind (arith, common_steps)

not_lt : (a b : ℕ) → b ≤ a → nat_lt a b ≡ false
not_lt a b h = grind (arith, common_steps)

pub encode_two : (c : ℕ) → 128 ≤ c → c < 2048 → encode_utf8 c ≡ (192 + c / 64) ∷ (128 + c % 64) ∷ []
unfolding encode_utf8
encode_two c low high = rw (not_lt c 128 low, lt c 2048 high) refl

pub encode_three : (c : ℕ) → 2048 ≤ c → c < 65536 → encode_utf8 c ≡ (224 + c / 4096) ∷ (128 + c / 64 % 64) ∷ (128 + c % 64) ∷ []
unfolding encode_utf8
encode_three c low high = let big : 128 ≤ c = omega arith in rw (not_lt c 128 big, not_lt c 2048 low, lt c 65536 high) refl

pub or_cases : (x y : Bool) → (x || y) ≡ true → (x ≡ true) ⊎ (y ≡ true)
or_cases true y h = inl refl
or_cases false y h = inr h

pub and_parts : (x y : Bool) → (x && y) ≡ true → (x ≡ true) × (y ≡ true)
and_parts true y h = (refl, h)
and_parts false y h = (cc)

pub or_left : (x y : Bool) → x ≡ true → (x || y) ≡ true
or_left true y h = refl
or_left false y h = (cc)

pub or_right : (x y : Bool) → y ≡ true → (x || y) ≡ true
or_right true y h = refl
or_right false y h = h

pub range_parts : (lo hi c : ℕ) → is_in_range lo hi c ≡ true → (lo ≤ c) × (c ≤ hi)
range_parts lo hi c h = grind (arith, common_steps)

pub in_range : (lo hi c : ℕ) → lo ≤ c → c ≤ hi → is_in_range lo hi c ≡ true
in_range lo hi c h k = grind (arith, common_steps)

pub not_true : (x : Bool) → not x ≡ true → x ≡ false
not_true true h = (cc)
not_true false h = refl

pub differ : (a b : ℕ) → (a == b) ≡ false → a ≢ b
differ a b h = grind (arith, common_steps)

pub letter_bounds : (b : ℕ) → is_ascii_letter b ≡ true → (65 ≤ b) × (b ≤ 122)
letter_bounds b h = grind (arith, common_steps)

pub mark_bounds : (b : ℕ) → is_ascii_mark b ≡ true → (39 ≤ b) × (b ≤ 57)
mark_bounds b h = grind (arith, common_steps)

pub greek_bounds : (c : ℕ) → is_greek_letter c ≡ true → (945 ≤ c) × (c ≤ 969) × (c ≢ 955)
greek_bounds c h = grind (arith, common_steps)

pub subscript_bounds : (c : ℕ) → is_subscript c ≡ true → (8320 ≤ c) × (c ≤ 8329)
subscript_bounds c h = grind (arith, common_steps)

pub greek_spelled : (c : ℕ) → is_greek_letter c ≡ true → spell_greek_letter (192 + c / 64) (128 + c % 64) ≡ true
greek_spelled c h = let w = greek_bounds c h in go (within c)
  where
    within : (c : ℕ) → (c < 960) ⊎ (960 ≤ c)
    within c = grind arith

    go : (c < 960) ⊎ (960 ≤ c) → spell_greek_letter (192 + c / 64) (128 + c % 64) ≡ true
    go (inl l) = let w = greek_bounds c h in let a : 192 + c / 64 ≡ 206 = omega arith in let d : 128 + c % 64 ≢ 187 = omega arith in grind (arith, common_steps)
    go (inr l) = let w = greek_bounds c h in let a : 192 + c / 64 ≡ 207 = omega arith in grind (arith, common_steps)

greek_bytes : (b d : ℕ) → spell_greek_letter b d ≡ true → ((b ≡ 206) × (177 ≤ d) × (d ≤ 191) × (d ≢ 187)) ⊎ ((b ≡ 207) × (128 ≤ d) × (d ≤ 137))
greek_bytes b d h = elim (or_cases _ _ h) [
  | inl l ↦ inl (let p = and_parts _ _ l in let q = and_parts _ _ p.0 in let r = range_parts _ _ _ q.1 in (eqb-true _ _ q.0, r.0, r.1, differ _ _ (not_true _ p.1)))
  | inr l ↦ inr (let p = and_parts _ _ l in let r = range_parts _ _ _ p.1 in (eqb-true _ _ p.0, r.0, r.1))
]

is_greek : (c : ℕ) → 945 ≤ c → c ≤ 969 → c ≢ 955 → is_greek_letter c ≡ true
is_greek c low high other = grind (arith, common_steps)

-- the Greek letter that two bytes spell
pub greek_code : (b d : ℕ) → spell_greek_letter b d ≡ true → (c : ℕ) × (is_greek_letter c ≡ true) × (192 + c / 64 ≡ b) × (128 + c % 64 ≡ d)
greek_code b d h = elim (greek_bytes b d h) [
  | inl l ↦ let first : b ≡ 206 = l.0 in let low : 177 ≤ d = l.1 in let high : d ≤ 191 = l.2 in let other : d ≢ 187 = l.3 in
      (768 + d, is_greek (768 + d) (omega arith) (omega arith) (omega arith), omega arith, omega arith)
  | inr l ↦ let first : b ≡ 207 = l.0 in let low : 128 ≤ d = l.1 in let high : d ≤ 137 = l.2 in
      (832 + d, is_greek (832 + d) (omega arith) (omega arith) (omega arith), omega arith, omega arith)
]

is_sub : (c : ℕ) → 8320 ≤ c → c ≤ 8329 → is_subscript c ≡ true
is_sub c low high = grind (arith, common_steps)

-- the subscript digit that three bytes spell
pub subscript_code : (b d e : ℕ) → spell_subscript b d e ≡ true → (c : ℕ) × (is_subscript c ≡ true) × (224 + c / 4096 ≡ b) × (128 + c / 64 % 64 ≡ d) × (128 + c % 64 ≡ e)
subscript_code b d e h =
    let p = and_parts _ _ h in
    let q = and_parts _ _ p.0 in
    let first : b ≡ 226 = eqb-true _ _ q.0 in
    let second : d ≡ 130 = eqb-true _ _ q.1 in
    let low : 128 ≤ e = (range_parts 128 137 e p.1).0 in
    let high : e ≤ 137 = (range_parts 128 137 e p.1).1 in
    (8192 + e, is_sub (8192 + e) (omega arith) (omega arith), omega arith, omega arith, omega arith)

pub subscript_spelled : (c : ℕ) → is_subscript c ≡ true → spell_subscript (224 + c / 4096) (128 + c / 64 % 64) (128 + c % 64) ≡ true
subscript_spelled c h =
    let w = subscript_bounds c h in
    let a : 224 + c / 4096 ≡ 226 = omega arith in
    let b : 128 + c / 64 % 64 ≡ 130 = omega arith in
    let low : 128 ≤ 128 + c % 64 = omega arith in
    let high : 128 + c % 64 ≤ 137 = omega arith in
    rw (a, b, in_range 128 137 (128 + c % 64) low high) refl

ascii_stands : (p : ℕ → Bool) (bs : List ℕ) (i b : ℕ) → get_or bs i 0 ≡ b → 0 < b → b < 128 → p b ≡ true → IsCharacter p bs i 1
ascii_stands p bs i b e low high h = let s : encode_utf8 b ≡ b ∷ [] = encode_ascii b high in record {
  code = b;
  passes = h;
  here = rw s (here bs i b e low, tt);
  bytes = rw s refl;
}

greek_stands : (p : ℕ → Bool) (bs : List ℕ) (i b d : ℕ) → get_or bs i 0 ≡ b → get_or bs (i + 1) 0 ≡ d → ((c : ℕ) → is_greek_letter c ≡ true → p c ≡ true) → spell_greek_letter b d ≡ true → IsCharacter p bs i 2
greek_stands p bs i b d e f all h =
    let g = greek_code b d h in
    let w = greek_bounds g.0 g.1 in
    let low : 945 ≤ g.0 = w.0 in
    let high : g.0 ≤ 969 = w.1 in
    let s : encode_utf8 g.0 ≡ (192 + g.0 / 64) ∷ (128 + g.0 % 64) ∷ [] = encode_two g.0 (omega arith) (omega arith) in
    record {
      code = g.0;
      passes = all g.0 g.1;
      here = rw s (here bs i (192 + g.0 / 64) (e ∙ sym g.2) (omega arith), (here bs (i + 1) (128 + g.0 % 64) (f ∙ sym g.3) (omega arith), tt));
      bytes = rw s refl;
    }

begins_ascii : (b : ℕ) → is_ascii_letter b ≡ true → begins_name b ≡ true
begins_ascii b h = or_left _ _ h

begins_greek : (c : ℕ) → is_greek_letter c ≡ true → begins_name c ≡ true
begins_greek c h = or_right (is_ascii_letter c) _ h

goes_on : (c : ℕ) → begins_name c ≡ true → goes_on_name c ≡ true
goes_on c h = rw h refl

mark_goes_on : (c : ℕ) → is_ascii_mark c ≡ true → goes_on_name c ≡ true
mark_goes_on c h = elim (or_cases _ _ h) [
  | inl l ↦ or_left _ _ (or_left _ _ (or_right (begins_name c) _ l))
  | inr l ↦ or_left _ _ (or_right (begins_name c || is_ascii_digit c) _ l)
]

subscript_goes_on : (c : ℕ) → is_subscript c ≡ true → goes_on_name c ≡ true
subscript_goes_on c h = or_right (begins_name c || is_ascii_digit c || c == 39) _ h

pub letter_ascii : (bs : List ℕ) (i b : ℕ) → get_or bs i 0 ≡ b → is_ascii_letter b ≡ true → IsCharacter begins_name bs i 1
letter_ascii bs i b e h = let w = letter_bounds b h in ascii_stands begins_name bs i b e (omega arith) (omega arith) (begins_ascii b h)

pub letter_greek : (bs : List ℕ) (i b d : ℕ) → get_or bs i 0 ≡ b → get_or bs (i + 1) 0 ≡ d → spell_greek_letter b d ≡ true → IsCharacter begins_name bs i 2
letter_greek bs i b d e f h = greek_stands begins_name bs i b d e f begins_greek h

pub mark_ascii : (bs : List ℕ) (i b : ℕ) → get_or bs i 0 ≡ b → is_ascii_mark b ≡ true → IsCharacter goes_on_name bs i 1
mark_ascii bs i b e h = let w = mark_bounds b h in ascii_stands goes_on_name bs i b e (omega arith) (omega arith) (mark_goes_on b h)

pub mark_subscript : (bs : List ℕ) (i b d k : ℕ) → get_or bs i 0 ≡ b → get_or bs (i + 1) 0 ≡ d → get_or bs (i + 2) 0 ≡ k → spell_subscript b d k ≡ true → IsCharacter goes_on_name bs i 3
mark_subscript bs i b d k e f l h =
    let g = subscript_code b d k h in
    let w = subscript_bounds g.0 g.1 in
    let low : 8320 ≤ g.0 = w.0 in
    let high : g.0 ≤ 8329 = w.1 in
    let s : encode_utf8 g.0 ≡ (224 + g.0 / 4096) ∷ (128 + g.0 / 64 % 64) ∷ (128 + g.0 % 64) ∷ [] = encode_three g.0 (omega arith) (omega arith) in
    let third : slice_get bs (i + 1 + 1) ≡ Some (128 + g.0 % 64) = here bs (i + 1 + 1) (128 + g.0 % 64) (ap (λ n. get_or bs n 0) (omega arith) ∙ (l ∙ sym g.4)) (omega arith) in
    record {
      code = g.0;
      passes = subscript_goes_on g.0 g.1;
      here = rw s (here bs i (224 + g.0 / 4096) (e ∙ sym g.2) (omega arith), (here bs (i + 1) (128 + g.0 / 64 % 64) (f ∙ sym g.3) (omega arith), (third, tt)));
      bytes = rw s refl;
    }

-- the first byte of a letter that is one byte, and the bytes of a Greek letter
ascii_first : (bs : List ℕ) (i b c : ℕ) → get_or bs i 0 ≡ b → c < 128 → Stands bs i (encode_utf8 c) → c ≡ b
ascii_first bs i b c e h s = let t = rw (encode_ascii c h) at s in sym (read bs i c t.0) ∙ e

greek_first : (bs : List ℕ) (i b d c : ℕ) → get_or bs i 0 ≡ b → get_or bs (i + 1) 0 ≡ d → is_greek_letter c ≡ true → Stands bs i (encode_utf8 c) → spell_greek_letter b d ≡ true
greek_first bs i b d c e f h s =
    let w = greek_bounds c h in
    let low : 945 ≤ c = w.0 in
    let high : c ≤ 969 = w.1 in
    let t = rw (encode_two c (omega arith) (omega arith)) at s in
    let one : 192 + c / 64 ≡ b = sym (read bs i (192 + c / 64) t.0) ∙ e in
    let two : 128 + c % 64 ≡ d = sym (read bs (i + 1) (128 + c % 64) t.1.0) ∙ f in
    ap (λ x. spell_greek_letter x d) (sym one) ∙ (ap (λ y. spell_greek_letter (192 + c / 64) y) (sym two) ∙ greek_spelled c h)

subscript_first : (bs : List ℕ) (i b d k c : ℕ) → get_or bs i 0 ≡ b → get_or bs (i + 1) 0 ≡ d → get_or bs (i + 2) 0 ≡ k → is_subscript c ≡ true → Stands bs i (encode_utf8 c) → spell_subscript b d k ≡ true
subscript_first bs i b d k c e f l h s =
    let w = subscript_bounds c h in
    let low : 8320 ≤ c = w.0 in
    let high : c ≤ 8329 = w.1 in
    let t = rw (encode_three c (omega arith) (omega arith)) at s in
    let one : 224 + c / 4096 ≡ b = sym (read bs i (224 + c / 4096) t.0) ∙ e in
    let two : 128 + c / 64 % 64 ≡ d = sym (read bs (i + 1) (128 + c / 64 % 64) t.1.0) ∙ f in
    let three : 128 + c % 64 ≡ k = sym (read bs (i + 1 + 1) (128 + c % 64) t.1.1.0) ∙ (ap (λ n. get_or bs n 0) (omega arith) ∙ l) in
    ap (λ x. spell_subscript x d k) (sym one) ∙ (ap (λ y. spell_subscript (224 + c / 4096) y k) (sym two) ∙ (ap (λ z. spell_subscript (224 + c / 4096) (128 + c / 64 % 64) z) (sym three) ∙ subscript_spelled c h))

pub no_letter : (bs : List ℕ) (i b d n : ℕ) → get_or bs i 0 ≡ b → get_or bs (i + 1) 0 ≡ d → is_ascii_letter b ≡ false → spell_greek_letter b d ≡ false → IsCharacter begins_name bs i n → ⊥
no_letter bs i b d n e f h g x = elim (or_cases (is_ascii_letter x.code) _ x.passes) [
  | inl l ↦ let w = letter_bounds x.code l in let same : x.code ≡ b = ascii_first bs i b x.code e (omega arith) x.here in let t = ap is_ascii_letter same in (cc)
  | inr l ↦ let t = greek_first bs i b d x.code e f l x.here in (cc)
]

pub no_mark : (bs : List ℕ) (i b d k n : ℕ) → get_or bs i 0 ≡ b → get_or bs (i + 1) 0 ≡ d → get_or bs (i + 2) 0 ≡ k → ((m : ℕ) → IsCharacter begins_name bs i m → ⊥) → is_ascii_mark b ≡ false → spell_subscript b d k ≡ false
    → IsCharacter goes_on_name bs i n → ⊥
no_mark bs i b d k n e f l none h g x = elim (or_cases (begins_name x.code || is_ascii_digit x.code || x.code == 39) _ x.passes) [
  | inl o ↦ elim (or_cases (begins_name x.code || is_ascii_digit x.code) _ o) [
    | inl q ↦ elim (or_cases (begins_name x.code) _ q) [
      | inl r ↦ none n (record { code = x.code; passes = r; here = x.here; bytes = x.bytes })
      | inr r ↦ mark (or_left _ _ r)
    ]
    | inr q ↦ mark (or_right (is_ascii_digit x.code) _ q)
  ]
  | inr o ↦ let t = subscript_first bs i b d k x.code e f l o x.here in (cc)
]
  where
    mark : is_ascii_mark x.code ≡ true → ⊥
    mark r = let w = mark_bounds x.code r in let same : x.code ≡ b = ascii_first bs i b x.code e (omega arith) x.here in let t = ap is_ascii_mark same in (cc)
