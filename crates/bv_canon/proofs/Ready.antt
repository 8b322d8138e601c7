-- Each token of canonical text is the longest piece where it stands.
use Rattle.std.proofs.Common.{◌≡◌, ◌≢◌, Bool, true, false, ℕ, ◌+◌, ◌<◌, ◌≤◌, ◌^◌, inl, inr, List, [], ◌∷◌, ◌++◌, length, Some, refl, sym, subst, arith, ap, ◌∙◌, codes, append-nil, append_assoc}
use Rattle.std.specs.Prelude.{All, slice_get, decimal}
use Rattle.std.proofs.Math.Nat.{pow-le-pow_right}
use Rattle.std.specs.List.{list_all}
use Rattle.std.specs.Str.{IsUtf8}
use Rattle.std.proofs.lemmas.Str.{encode_ascii}
use Rattle.std.proofs.lemmas.List.Elements.{All-head, All-tail, All-nil, All-cons}
use Rattle.bv_value.specs.BitVector.{BitVector, IsBitVector}
use Rattle.bv_lex.specs.declared.token.TokenKind.TheVariants as kinds
use Rattle.bv_lex.specs.Words.{Stands}
use Rattle.bv_lex.specs.Signs.{kind_of_word}
use Rattle.bv_lex.specs.Encoded.{is_ascii_letter}
use Rattle.bv_lex.specs.Fronts.{IsCutOff}
use Rattle.bv_lex.proofs.Encoding.{encode_two, or_cases, letter_bounds, greek_bounds}
use Rattle.bv_expr.specs.declared.ops.Sort.{Sort}
use Rattle.bv_expr.specs.declared.ops.Sort.TheVariants.{Truth, Vector}
use Rattle.bv_expr.specs.declared.ops.Unary.{Unary}
use Rattle.bv_expr.specs.declared.ops.Unary.TheVariants as of
use Rattle.bv_expr.specs.declared.ops.Binary.{Binary}
use Rattle.bv_expr.specs.declared.ops.Binary.TheVariants as on
use Rattle.bv_expr.specs.Goal.{Binders, variables}
use Rattle.bv_expr.specs.Term.{Term, constant, variable, truth, truth_variable, unary, binary, choice, truth_choice}
use Rattle.bv_expr.specs.Sorts.{LeavesFit}
use Rattle.bv_print.specs.Spelling.{Form, Prefix, Infix, Method, unary_form, binary_form, kept_numbers}
use Rattle.bv_print.specs.Values.{hex_width}
use Rattle.bv_print.specs.Canonical.{is_constant, name_at, term_text}
use Rattle.bv_print.proofs.Digits.{digits_hold}
use Rattle.bv_canon.specs.Written.{Written, text, sign, word, name, numeral, digits, left, right, receiver, operation, numbers, chosen, term_tokens}
use Rattle.bv_canon.specs.Names.{IsWordText, IsName}
use Rattle.bv_canon.specs.Reading.{NumbersFit}
use Rattle.bv_canon.proofs.Spelling.{EndsWords, word_is_cut, word_utf8, is_plain, plain_word, decimal_is_cut, decimal_utf8, hexadecimal_is_cut, hexadecimal_utf8}
use Rattle.bv_canon.proofs.Signs.{IsSign, sign_is_cut, left_sign, right_sign, point_sign, hash_sign, BeginsOperand, SignsOf, unary_signs, binary_signs}
use Rattle.bv_canon.proofs.Texts.{text-append, term_text_is}

-- the token is UTF-8, and before these bytes it is the longest piece where it stands
abbrev pub Ready : Written → List ℕ → Type 0
Ready w r = IsUtf8 w.text × ((bs : List ℕ) (i : ℕ) → Stands bs i (w.text ++ r) → IsCutOff bs (Some w.kind) i (i + length w.text))

-- and so is each of these
abbrev pub AreReady : List Written → List ℕ → Type 0
AreReady [] r = Unit {0}
AreReady (w ∷ ws) r = Ready w (text ws ++ r) × AreReady ws r

-- what begins with this byte
abbrev pub Begins : ℕ → List ℕ → Type 0
Begins c r = (more : List ℕ) × (r ≡ c ∷ more)

-- what has a first byte
pub record HasByte (r : List ℕ) : Type 0 where
  pub byte : ℕ
  pub begins : Begins byte r

-- what ends words before it
pub record Follows (r : List ℕ) : Type 0 where
  pub byte : ℕ
  pub ends : EndsWords byte
  pub begins : Begins byte r

pub ready_before : (w : Written) (c : ℕ) (r : List ℕ) → Begins c r → ((more : List ℕ) → Ready w (c ∷ more)) → Ready w r
ready_before w c r b f = subst (Ready w) (sym b.1) (f b.0)

pub both_ready : (u v : List Written) (r : List ℕ) → AreReady u (text v ++ r) → AreReady v r → AreReady (u ++ v) r
both_ready [] v r h g = g
both_ready (w ∷ u) v r h g = (subst (Ready w) (sym (append_assoc (text u) (text v) r) ∙ ap (λ t. t ++ r) (sym (text-append u v))) h.0, both_ready u v r h.1 g)

has_byte : (r : List ℕ) → Follows r → HasByte r
has_byte r f = record { byte = f.byte; begins = f.begins }

pub some_behind : (u r : List ℕ) → HasByte r → HasByte (u ++ r)
some_behind [] r s = s
some_behind (c ∷ u) r s = record { byte = c; begins = (u ++ r, refl) }

blank_ends : EndsWords 32
blank_ends = record { low = omega arith; no_mark = λ e. (absurd (omega arith)) }

right_ends : EndsWords 41
right_ends = record { low = omega arith; no_mark = λ e. (absurd (omega arith)) }

pub point_ends : EndsWords 46
point_ends = record { low = omega arith; no_mark = λ e. (absurd (omega arith)) }

hash_ends : EndsWords 35
hash_ends = record { low = omega arith; no_mark = λ e. (absurd (omega arith)) }

pub line_ends : EndsWords 10
line_ends = record { low = omega arith; no_mark = λ e. (absurd (omega arith)) }

pub blank_follows : (r more : List ℕ) → r ≡ 32 ∷ more → Follows r
blank_follows r more e = record { byte = 32; ends = blank_ends; begins = (more, e) }

pub right_follows : (r more : List ℕ) → r ≡ 41 ∷ more → Follows r
right_follows r more e = record { byte = 41; ends = right_ends; begins = (more, e) }

-- ---- tokens

pub left_ready : (b : Bool) (r : List ℕ) → HasByte r → Ready (left b) r
left_ready b r s = ready_before (left b) s.byte r s.begins (λ more. ((left_sign s.byte).utf8, sign_is_cut (codes "(") s.byte more (left_sign s.byte)))

pub right_ready : (r : List ℕ) → HasByte r → Ready right r
right_ready r s = ready_before right s.byte r s.begins (λ more. ((right_sign s.byte).utf8, sign_is_cut (codes ")") s.byte more (right_sign s.byte)))

pub point_ready : (r : List ℕ) → HasByte r → Ready (sign false (codes ".")) r
point_ready r s = ready_before (sign false (codes ".")) s.byte r s.begins (λ more. ((point_sign s.byte).utf8, sign_is_cut (codes ".") s.byte more (point_sign s.byte)))

hash_ready : (r : List ℕ) → HasByte r → Ready (sign false (codes "#")) r
hash_ready r s = ready_before (sign false (codes "#")) s.byte r s.begins (λ more. ((hash_sign s.byte).utf8, sign_is_cut (codes "#") s.byte more (hash_sign s.byte)))

pub sign_ready : (b : Bool) (w : List ℕ) (c : ℕ) (r : List ℕ) → Begins c r → IsSign w c → Ready (sign b w) r
sign_ready b w c r s f = ready_before (sign b w) c r s (λ more. (f.utf8, sign_is_cut w c more f))

pub word_ready : (b : Bool) (w r : List ℕ) → IsWordText w → kind_of_word w ≡ kinds.Reserved → Follows r → Ready (word b w) r
word_ready b w r t k f = ready_before (word b w) f.byte r f.begins (λ more. (word_utf8 w t, word_is_cut w f.byte more kinds.Reserved t k f.ends))

pub name_ready : (b : Bool) (w r : List ℕ) → IsName w → Follows r → Ready (name b w) r
name_ready b w r n f = ready_before (name b w) f.byte r f.begins (λ more. (word_utf8 w n.spelled, word_is_cut w f.byte more kinds.Name n.spelled n.free f.ends))

pub numeral_ready : (b : Bool) (n : ℕ) (r : List ℕ) → n < 2 ^ 128 → Follows r → Ready (numeral b n) r
numeral_ready b n r h f = ready_before (numeral b n) f.byte r f.begins (λ more. (decimal_utf8 n h, decimal_is_cut n f.byte more h f.ends))

digits_ready : (b : Bool) (v : BitVector) (r : List ℕ) → IsBitVector v → Begins 35 r → Ready (digits b v) r
digits_ready b v r h s =
    let wide : 2 ^ v.width ≤ 2 ^ 128 = pow-le-pow_right {n = 2} (omega arith) {i = v.width} {j = 128} h.at_most_128 in
    let below = h.below in
    let one = h.positive in
    ready_before (digits b v) 35 r s (λ more. (hexadecimal_utf8 (hex_width v.width) v.number (omega arith) (digits_hold v.width v.number h.below) (omega arith), hexadecimal_is_cut (hex_width v.width) v.number 35 more (omega arith) (digits_hold v.width v.number h.below) (omega arith) hash_ends))

-- ---- what a term begins with

-- the bytes that an operand of a prefix operator may begin with
pub record StartsOperand (r : List ℕ) : Type 0 where
  pub byte : ℕ
  pub operand : BeginsOperand byte
  pub begins : Begins byte r

operand_byte : (c : ℕ) → (c ≡ 62 → ⊥) → (c ≡ 45 → ⊥) → (c ≡ 61 → ⊥) → BeginsOperand c
operand_byte c a b d = record { no_greater = a; no_minus = b; no_equal = d }

left_starts : (r : List ℕ) → StartsOperand (40 ∷ r)
left_starts r = record { byte = 40; operand = operand_byte 40 (λ e. (absurd (omega arith))) (λ e. (absurd (omega arith))) (λ e. (absurd (omega arith))); begins = (r, refl) }

-- the names of a term's variables are names
abbrev pub NamesFit : Binders → Term → Type 0
NamesFit binders x = All (λ v. IsName (name_at binders v.0)) (variables x)

from_letters : (c : ℕ) → 48 ≤ c → c ≢ 61 → c ≢ 62 → BeginsOperand c
from_letters c low a b = record { no_greater = b; no_minus = λ e. (absurd (omega arith)); no_equal = a }

-- the first byte of a name
name_first : (w : List ℕ) → IsWordText w → (c : ℕ) × (65 ≤ c) × (slice_get w 0 ≡ Some c)
name_first w t = elim (or_cases (is_ascii_letter t.begins.code) _ t.begins.passes) [
  | inl l ↦
      let b = letter_bounds t.begins.code l in
      let e = rw (encode_ascii t.begins.code (let a = b.1 in omega arith)) at t.begins.here in
      (t.begins.code, b.0, e.0)
  | inr l ↦
      let b = greek_bounds t.begins.code l in
      let e = rw (encode_two t.begins.code (let a = b.0 in omega arith) (let a = b.1 in omega arith)) at t.begins.here in
      (_, (omega arith), e.0)
]

pub name_starts : (w r : List ℕ) → IsWordText w → StartsOperand (w ++ r)
name_starts w r t = let f = name_first w t in go w f.0 f.1 f.2
  where
    go : (w : List ℕ) (c : ℕ) → 65 ≤ c → slice_get w 0 ≡ Some c → StartsOperand (w ++ r)
    go [] c low e = absurd (cc)
    go (b ∷ w) c low e =
        let same : b ≡ c = cc in
        record { byte = b; operand = from_letters b (omega arith) (λ h. (absurd (omega arith))) (λ h. (absurd (omega arith))); begins = (w ++ r, refl) }

term_starts : (binders : Binders) (x : Term) (r : List ℕ) → NamesFit binders x → StartsOperand (text (term_tokens false binders x) ++ r)
term_starts binders (constant v) r n = record { byte = 48; operand = from_letters 48 (omega arith) (λ h. (absurd (omega arith))) (λ h. (absurd (omega arith))); begins = (_, refl) }
term_starts binders (variable k w) r n =
    subst (λ t. StartsOperand (t ++ r)) (sym (append-nil (name_at binders k))) (name_starts (name_at binders k) r (All-head (λ v. IsName (name_at binders v.0)) (k, Vector w) [] n).spelled)
term_starts binders (truth true) r n = record { byte = 116; operand = from_letters 116 (omega arith) (λ h. (absurd (omega arith))) (λ h. (absurd (omega arith))); begins = (_, refl) }
term_starts binders (truth false) r n = record { byte = 102; operand = from_letters 102 (omega arith) (λ h. (absurd (omega arith))) (λ h. (absurd (omega arith))); begins = (_, refl) }
term_starts binders (truth_variable k) r n =
    subst (λ t. StartsOperand (t ++ r)) (sym (append-nil (name_at binders k))) (name_starts (name_at binders k) r (All-head (λ v. IsName (name_at binders v.0)) (k, Truth) [] n).spelled)
term_starts binders (unary op x) r n = left_starts _
term_starts binders (binary op x y) r n = left_starts _
term_starts binders (choice c x y) r n = left_starts _
term_starts binders (truth_choice c x y) r n = left_starts _

-- ---- operations

-- what stands behind an operator: a blank behind a sign between parts, else what ends words
abbrev Leads : Form → List ℕ → Type 0
Leads (Prefix w) r = Follows r
Leads (Infix w) r = Begins 32 r
Leads (Method w) r = Follows r

-- a method's name is a name
abbrev MethodOf : Form → Type 0
MethodOf (Prefix w) = Unit {0}
MethodOf (Infix w) = Unit {0}
MethodOf (Method w) = IsName w

-- a term's tokens are ready before whatever ends words, and it begins an operand
record IsReady (part : List Written) : Type 0 where
  ready : (r : List ℕ) → Follows r → AreReady part r
  starts : (r : List ℕ) → StartsOperand (text part ++ r)

receiver_ready : (k : Bool) (part : List Written) (r : List ℕ) → IsReady part → Begins 46 r → AreReady (receiver k part) r
receiver_ready false part r p b = p.ready r (record { byte = 46; ends = point_ends; begins = b })
receiver_ready true part r p b =
    let behind = right ∷ [] in
    let some : HasByte r = record { byte = 46; begins = b } in
    (left_ready false (text (part ++ behind) ++ r) (some_behind (text (part ++ behind)) r some), both_ready part behind r (p.ready (41 ∷ r) (right_follows (41 ∷ r) r refl)) (right_ready r some, tt))

operation_ready : (f : Form) (k : Bool) (part others : List Written) (r : List ℕ) → SignsOf f → MethodOf f → IsReady part → Leads f (text others ++ r) → AreReady others r → AreReady (operation f k part others) r
operation_ready (Prefix w) k part others r signs method p leads o =
    let s = p.starts (text others ++ r) in (
      sign_ready false w s.byte (text (part ++ others) ++ r) (s.begins.0, ap (λ t. t ++ r) (text-append part others) ∙ append_assoc (text part) (text others) r ∙ s.begins.1) (signs s.byte s.operand),
      both_ready part others r (p.ready (text others ++ r) leads) o,
    )
operation_ready (Infix w) k part others r signs method p leads o =
    both_ready part (sign true w ∷ others) r (p.ready (text (sign true w ∷ others) ++ r) (blank_follows _ _ refl)) (sign_ready true w 32 (text others ++ r) leads signs, o)
operation_ready (Method w) k part others r signs method p leads o =
    let name_first = name_starts w (text others ++ r) method.spelled in
    let behind = sign false (codes ".") ∷ name false w ∷ others in
    both_ready (receiver k part) behind r (receiver_ready k part (text behind ++ r) p (_, refl))
    (point_ready (text (name false w ∷ others) ++ r) (record { byte = name_first.byte; begins = (name_first.begins.0, append_assoc w (text others) r ∙ name_first.begins.1) }), (name_ready false w (text others ++ r) method leads, o))

-- an operation in brackets
bracket_ready : (b : Bool) (f : Form) (k : Bool) (part others : List Written) (r : List ℕ) → HasByte r → SignsOf f → MethodOf f → IsReady part → Leads f (text others ++ 41 ∷ r) → AreReady others (41 ∷ r)
    → AreReady (left b ∷ (operation f k part others ++ right ∷ [])) r
bracket_ready b f k part others r some signs method p leads o =
    let inner = operation f k part others in
    (left_ready b (text (inner ++ right ∷ []) ++ r) (some_behind (text (inner ++ right ∷ [])) r some), both_ready inner (right ∷ []) r (operation_ready f k part others (41 ∷ r) signs method p leads o) (right_ready r some, tt))

-- ---- methods

method_name : (b : ℕ) (w : List ℕ) → is_ascii_letter b ≡ true → list_all is_plain w ≡ true → kind_of_word (b ∷ w) ≡ kinds.Name → IsName (b ∷ w)
method_name b w l h k = record { spelled = plain_word b w l h; free = k }

unary_methods : (op : Unary) → MethodOf (unary_form op)
unary_methods of.Msb = method_name 109 (codes "sb") refl refl refl
unary_methods (of.AshrBy n) = method_name 115 (codes "shiftRight") refl refl refl
unary_methods (of.RotL n) = method_name 114 (codes "otateLeft") refl refl refl
unary_methods (of.RotR n) = method_name 114 (codes "otateRight") refl refl refl
unary_methods (of.Bit i) = method_name 103 (codes "etLsbD") refl refl refl
unary_methods (of.Extract s l) = method_name 101 (codes "xtractLsb'") refl refl refl
unary_methods (of.SetWidth w) = method_name 115 (codes "etWidth") refl refl refl
unary_methods (of.SignExtend w) = method_name 115 (codes "ignExtend") refl refl refl
unary_methods _ = tt

binary_methods : (op : Binary) → MethodOf (binary_form op)
binary_methods on.Sdiv = method_name 115 (codes "div") refl refl refl
binary_methods on.Srem = method_name 115 (codes "rem") refl refl refl
binary_methods on.Smod = method_name 115 (codes "mod") refl refl refl
binary_methods on.Ashr = method_name 115 (codes "shiftRight'") refl refl refl
binary_methods on.Slt = method_name 115 (codes "lt") refl refl refl
binary_methods on.Sle = method_name 115 (codes "le") refl refl refl
binary_methods _ = tt

-- ---- what stands behind operators

unary_leads : (op : Unary) (r : List ℕ) → Leads (unary_form op) (text (numbers (kept_numbers op)) ++ 41 ∷ r)
unary_leads of.Not r = right_follows _ _ refl
unary_leads of.Neg r = right_follows _ _ refl
unary_leads of.TNot r = right_follows _ _ refl
unary_leads of.Msb r = right_follows _ _ refl
unary_leads (of.ShlBy n) r = (_, refl)
unary_leads (of.LshrBy n) r = (_, refl)
unary_leads (of.AshrBy n) r = blank_follows _ _ refl
unary_leads (of.RotL n) r = blank_follows _ _ refl
unary_leads (of.RotR n) r = blank_follows _ _ refl
unary_leads (of.Bit n) r = blank_follows _ _ refl
unary_leads (of.Extract s l) r = blank_follows _ _ refl
unary_leads (of.SetWidth w) r = blank_follows _ _ refl
unary_leads (of.SignExtend w) r = blank_follows _ _ refl

binary_leads : (f : Form) (r : List ℕ) → Begins 32 r → Leads f r
binary_leads (Prefix w) r b = blank_follows r b.0 b.1
binary_leads (Infix w) r b = b
binary_leads (Method w) r b = blank_follows r b.0 b.1

numbers_ready : (ns : List ℕ) (r : List ℕ) → All (λ n. n < 2 ^ 128) ns → Begins 41 r → AreReady (numbers ns) r
numbers_ready [] r h b = tt
numbers_ready (n ∷ ns) r h b = (numeral_ready true n (text (numbers ns) ++ r) (All-head (λ n. n < 2 ^ 128) n ns h) (behind ns), numbers_ready ns r (All-tail (λ n. n < 2 ^ 128) n ns h) b)
  where
    behind : (ns : List ℕ) → Follows (text (numbers ns) ++ r)
    behind [] = right_follows r b.0 b.1
    behind (m ∷ ns) = blank_follows _ _ refl

-- a term behind a space
pub spaced : (binders : Binders) (x : Term) (r : List ℕ) → Begins 32 (text (term_tokens true binders x) ++ r)
spaced binders x r = (term_text binders x ++ r, ap (λ t. t ++ r) (term_text_is binders x true))

chosen_ready : (b : Bool) (binders : Binders) (c x y : Term) (r : List ℕ) → HasByte r → ((r : List ℕ) → Follows r → AreReady (term_tokens true binders c) r) → ((r : List ℕ) → Follows r → AreReady (term_tokens true binders x) r)
    → ((r : List ℕ) → Follows r → AreReady (term_tokens true binders y) r) → AreReady (chosen b (term_tokens true binders c) (term_tokens true binders x) (term_tokens true binders y)) r
chosen_ready b binders c x y r some test part others =
    let u = term_tokens true binders c in
    let v = term_tokens true binders x in
    let w = term_tokens true binders y in
    let last = w ++ right ∷ [] in
    let third = word true (codes "else") ∷ last in
    let second = word true (codes "then") ∷ (v ++ third) in
    let c_spaced = spaced binders c (text second ++ r) in
    let x_spaced = spaced binders x (text third ++ r) in
    let y_spaced = spaced binders y (41 ∷ r) in (
      left_ready b (codes "if" ++ text (u ++ second) ++ r) (record { byte = 105; begins = (_, refl) }),
      (
        word_ready false (codes "if") (text (u ++ second) ++ r) (plain_word 105 (codes "f") refl refl) refl (blank_follows _ c_spaced.0 (joined u second r ∙ c_spaced.1)),
        both_ready u second r (test (text second ++ r) (blank_follows _ _ refl)) (
          word_ready true (codes "then") (text (v ++ third) ++ r) (plain_word 116 (codes "hen") refl refl) refl (blank_follows _ x_spaced.0 (joined v third r ∙ x_spaced.1)),
          both_ready v third r (part (text third ++ r) (blank_follows _ _ refl)) (
            word_ready true (codes "else") (text last ++ r) (plain_word 101 (codes "lse") refl refl) refl (blank_follows _ y_spaced.0 (joined w (right ∷ []) r ∙ y_spaced.1)),
            both_ready w (right ∷ []) r (others (41 ∷ r) (right_follows (41 ∷ r) r refl)) (right_ready r some, tt),
          ),
        ),
      ),
    )
  where
    joined : (u v : List Written) (r : List ℕ) → text (u ++ v) ++ r ≡ text u ++ (text v ++ r)
    joined u v r = ap (λ t. t ++ r) (text-append u v) ∙ append_assoc (text u) (text v) r

-- ---- terms

all_left : {A : Type 0} (P : A → Type 0) (xs ys : List A) → All P (xs ++ ys) → All P xs
all_left P [] ys h = All-nil P
all_left P (x ∷ xs) ys h = All-cons P x xs (All-head P x (xs ++ ys) h) (all_left P xs ys (All-tail P x (xs ++ ys) h))

all_right : {A : Type 0} (P : A → Type 0) (xs ys : List A) → All P (xs ++ ys) → All P ys
all_right P [] ys h = h
all_right P (x ∷ xs) ys h = all_right P xs ys (All-tail P x (xs ++ ys) h)

constant_ready : (b : Bool) (binders : Binders) (v : BitVector) (r : List ℕ) → IsBitVector v → Follows r → AreReady (term_tokens b binders (constant v)) r
constant_ready b binders v r h f =
    let most = h.at_most_128 in
    (digits_ready b v _ h (_, refl), (hash_ready _ (some_behind (decimal v.width ++ []) r (has_byte r f)), (numeral_ready false v.width r (omega arith) f, tt)))

truth_ready : (b c : Bool) (binders : Binders) (r : List ℕ) → Follows r → AreReady (term_tokens b binders (truth c)) r
truth_ready b true binders r f = (word_ready b (codes "true") r (plain_word 116 (codes "rue") refl refl) refl f, tt)
truth_ready b false binders r f = (word_ready b (codes "false") r (plain_word 102 (codes "alse") refl refl) refl f, tt)

abbrev IsNamed : Binders → ℕ × Sort → Type 0
IsNamed binders v = IsName (name_at binders v.0)

pub term_ready : (binders : Binders) (x : Term) (b : Bool) (r : List ℕ) → LeavesFit x → NumbersFit x → NamesFit binders x → Follows r → AreReady (term_tokens b binders x) r
term_ready binders (constant v) b r l m n f = constant_ready b binders v r l f
term_ready binders (variable k w) b r l m n f = (name_ready b (name_at binders k) r (All-head (IsNamed binders) (k, Vector w) [] n) f, tt)
term_ready binders (truth c) b r l m n f = truth_ready b c binders r f
term_ready binders (truth_variable k) b r l m n f = (name_ready b (name_at binders k) r (All-head (IsNamed binders) (k, Truth) [] n) f, tt)
term_ready binders (unary op x) b r l m n f =
    bracket_ready b (unary_form op) (is_constant x) (term_tokens false binders x) (numbers (kept_numbers op)) r (has_byte r f) (unary_signs op) (unary_methods op)
    (record { ready = λ r f. term_ready binders x false r l m.1 n f; starts = λ r. term_starts binders x r n }) (unary_leads op r) (numbers_ready (kept_numbers op) (41 ∷ r) m.0 (r, refl))
term_ready binders (binary op x y) b r l m n f =
    let left_named = all_left (IsNamed binders) (variables x) (variables y) n in
    let right_named = all_right (IsNamed binders) (variables x) (variables y) n in
    bracket_ready b (binary_form op) (is_constant x) (term_tokens false binders x) (term_tokens true binders y) r (has_byte r f) (binary_signs op) (binary_methods op)
    (record { ready = λ r f. term_ready binders x false r l.0 m.0 left_named f; starts = λ r. term_starts binders x r left_named })
    (binary_leads (binary_form op) (text (term_tokens true binders y) ++ 41 ∷ r) (spaced binders y (41 ∷ r))) (term_ready binders y true (41 ∷ r) l.1 m.1 right_named (right_follows (41 ∷ r) r refl))
term_ready binders (choice c x y) b r l m n f =
    let rest = all_right (IsNamed binders) (variables c) (variables x ++ variables y) n in
    chosen_ready b binders c x y r (has_byte r f) (λ r f. term_ready binders c true r l.0 m.0 (all_left (IsNamed binders) (variables c) (variables x ++ variables y) n) f)
    (λ r f. term_ready binders x true r l.1 m.1 (all_left (IsNamed binders) (variables x) (variables y) rest) f) (λ r f. term_ready binders y true r l.2 m.2 (all_right (IsNamed binders) (variables x) (variables y) rest) f)
term_ready binders (truth_choice c x y) b r l m n f =
    let rest = all_right (IsNamed binders) (variables c) (variables x ++ variables y) n in
    chosen_ready b binders c x y r (has_byte r f) (λ r f. term_ready binders c true r l.0 m.0 (all_left (IsNamed binders) (variables c) (variables x ++ variables y) n) f)
    (λ r f. term_ready binders x true r l.1 m.1 (all_left (IsNamed binders) (variables x) (variables y) rest) f) (λ r f. term_ready binders y true r l.2 m.2 (all_right (IsNamed binders) (variables x) (variables y) rest) f)
