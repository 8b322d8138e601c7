-- Where pieces begin and end.
use Rattle.std.proofs.Common.{◌≡◌, Bool, ℕ, ◌+◌, ◌<◌, ◌≤◌, ◌⊎◌, inl, inr, List, length, get_or, Option, Some, arith}
use Rattle.std.specs.Prelude.{slice_get}
use Rattle.std.specs.Char.{is_digit}
use Rattle.std.proofs.lemmas.Option.{slice_get_within}
use Rattle.bv_lex.specs.declared.token.TokenKind.{TokenKind}
use Rattle.bv_lex.specs.Letters.{is_in_line}
use Rattle.bv_lex.specs.Words.{Each, Characters, no_more, one_more}
use Rattle.bv_lex.specs.Pieces.{Piece, blank, line_comment, nested_comment, name, decimal_numeral, prefixed_numeral, string, sign}
use Rattle.bv_lex.proofs.Nesting.{closes_ahead, closes_within}
use Rattle.bv_lex.proofs.Reading.{stands_within}
use Rattle.bv_lex.proofs.Naming.{character_within, characters_ahead, some_bytes}
use Rattle.bv_lex.proofs.Shapes.{sign_some, first_stands, letter_begins}
use Rattle.bv_lex.proofs.Values.{each_end}

pub ahead : (bs : List ℕ) (i j : ℕ) (k : Option TokenKind) → Piece bs k i j → i < j
ahead bs i j k (blank g t) = omega arith
ahead bs i j k (line_comment s le e) = omega arith
ahead bs i j k (nested_comment s c) = let le = closes_ahead c in omega arith
ahead bs i j k (name {n} x r) = let some = some_bytes bs i n x in let le = characters_ahead bs (i + n) j r in omega arith
ahead bs i j k (decimal_numeral d) = d.some
ahead bs i j k (prefixed_numeral p s d) = let lt = d.some in omega arith
ahead bs i j k (string s le e q) = omega arith
ahead bs i j k (sign w m s) = let some = sign_some w m in omega arith

characters_within : {p : ℕ → Bool} (bs : List ℕ) (i m : ℕ) → i ≤ length bs → Characters p bs i m → m ≤ length bs
characters_within bs i m h no_more = h
characters_within bs i m h (one_more {n} x r) = characters_within bs (i + n) m (character_within bs i n h x) r

each_within : (p : ℕ → Bool) (bs : List ℕ) (i j : ℕ) → i ≤ length bs → Each p bs i j → j ≤ length bs
each_within p bs i j h each = elim (up_to_or_beyond j i) [
  | inl le ↦ omega arith
  | inr gt ↦ each_end p bs i j gt each
]
  where
    up_to_or_beyond : (m j : ℕ) → (m ≤ j) ⊎ (j < m)
    up_to_or_beyond m j = grind arith

two_within : (bs : List ℕ) (i b c : ℕ) → slice_get bs i ≡ Some b → slice_get bs (i + 1) ≡ Some c → i + 2 ≤ length bs
two_within bs i b c e f = let lt = slice_get_within bs (i + 1) c f in omega arith

pub within : (bs : List ℕ) (i j : ℕ) (k : Option TokenKind) → Piece bs k i j → j ≤ length bs
within bs i j k (blank {b} g t) = let lt = slice_get_within bs i b g in omega arith
within bs i j k (line_comment s le e) = each_within is_in_line bs (i + 2) j (two_within bs i 45 45 s.0 s.1.0) e
within bs i j k (nested_comment s c) = closes_within bs 1 (i + 2) j (two_within bs i 47 45 s.0 s.1.0) c
within bs i j k (name {n} x r) =
    let a = letter_begins bs i n x in
    let lt = slice_get_within bs i a.byte a.here in
    characters_within bs (i + n) j (character_within bs i n (omega arith) x) r
within bs i j k (decimal_numeral d) = each_end (λ b. is_digit b 10) bs i j d.some d.each
within bs i j k (prefixed_numeral {base} p s d) = each_end (λ b. is_digit b base) bs (i + 2) j d.some d.each
within bs i j k (string {j = e} s le r q) = let lt = slice_get_within bs e 34 q.0 in omega arith
within bs i j k (sign w m s) =
    let lt = slice_get_within bs i (get_or w 0 0) (first_stands bs i w (sign_some w m) s) in
    stands_within bs w i (omega arith) s

pub starts : (bs : List ℕ) (i j : ℕ) (k : Option TokenKind) → Piece bs k i j → i < length bs
starts bs i j k p = let lt = ahead bs i j k p in let le = within bs i j k p in omega arith
