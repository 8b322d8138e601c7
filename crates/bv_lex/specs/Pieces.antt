-- The pieces of a text: blanks, comments and tokens. A piece is said by its kind and the places at which it begins and
-- ends; its kind is that of a token, or none for what stands between tokens.
use Rattle.std.specs.Prelude.{◌≡◌, ℕ, suc, ◌+◌, ◌<◌, ◌≤◌, List, length, Option, Some, None, slice_get, slice_range, IsTrue, codes}
use Rattle.std.specs.List.{Contains}
use Rattle.std.specs.Str.Parse.{digits_value}
use Rattle.bv_lex.specs.declared.token.TokenKind.{TokenKind}
use Rattle.bv_lex.specs.declared.token.TokenKind.TheVariants.{Numeral, Text, Sign}
use Rattle.bv_lex.specs.Letters.{is_blank, is_in_line, is_in_string, begins_name, goes_on_name}
use Rattle.bv_lex.specs.Words.{Stands, Each, Digits, IsCharacter, Characters}
use Rattle.bv_lex.specs.Signs.{kind_of_word, signs}

-- Closes bs d i j: from i on, inside d comments, the last of them ends at j
pub data Closes (bs : List ℕ) : ℕ → ℕ → ℕ → Type 0 where
  closed : {j : ℕ} → Closes bs 0 j j
  opens : {d i j : ℕ} → Stands bs i (codes "/-") → Closes bs (suc (suc d)) (i + 2) j → Closes bs (suc d) i j
  closes : {d i j : ℕ} → Stands bs i (codes "-/") → Closes bs d (i + 2) j → Closes bs (suc d) i j
  other : {d i j : ℕ} → i < length bs → (Stands bs i (codes "/-") → ⊥) → (Stands bs i (codes "-/") → ⊥) → Closes bs (suc d) (i + 1) j → Closes bs (suc d) i j

-- the beginnings of numerals that aren't decimal, and their bases
pub data Prefix : List ℕ → ℕ → Type 0 where
  hexadecimal : Prefix (codes "0x") 16
  binary : Prefix (codes "0b") 2

-- Piece bs k i j: the bytes from i up to j are a piece of the kind k
pub data Piece (bs : List ℕ) : Option TokenKind → ℕ → ℕ → Type 0 where
  blank : {i b : ℕ} → slice_get bs i ≡ Some b → IsTrue (is_blank b) → Piece bs None i (i + 1)
  line_comment : {i j : ℕ} → Stands bs i (codes "--") → i + 2 ≤ j → Each is_in_line bs (i + 2) j → Piece bs None i j
  nested_comment : {i j : ℕ} → Stands bs i (codes "/-") → Closes bs 1 (i + 2) j → Piece bs None i j
  name : {i j n : ℕ} → IsCharacter begins_name bs i n → Characters goes_on_name bs (i + n) j → Piece bs (Some (kind_of_word (slice_range bs i j))) i j
  decimal_numeral : {i j : ℕ} → Digits 10 bs i j → Piece bs (Some (Numeral (digits_value 10 (slice_range bs i j)))) i j
  prefixed_numeral : {i j base : ℕ} {w : List ℕ} → Prefix w base → Stands bs i w → Digits base bs (i + 2) j
      → Piece bs (Some (Numeral (digits_value base (slice_range bs (i + 2) j)))) i j
  string : {i j : ℕ} → Stands bs i (codes "\"") → i + 1 ≤ j → Each is_in_string bs (i + 1) j → Stands bs j (codes "\"") → Piece bs (Some Text) i (j + 1)
  sign : {i : ℕ} (w : List ℕ) → Contains signs w → Stands bs i w → Piece bs (Some Sign) i (i + length w)

-- What begins at i is no piece, or not the whole of one: a comment that is opened there isn't closed, `0x` or `0b` stands
-- there without a digit behind it, or no piece begins there, as at a string that isn't closed. Shorter pieces, `/` or `0`,
-- aren't taken instead.
pub data IsBad (bs : List ℕ) (i : ℕ) : Type 0 where
  unclosed : Stands bs i (codes "/-") → ((j : ℕ) → Closes bs 1 (i + 2) j → ⊥) → IsBad bs i
  without_digit : {base : ℕ} {w : List ℕ} → Prefix w base → Stands bs i w → ((j : ℕ) → Digits base bs (i + 2) j → ⊥) → IsBad bs i
  stray : ((k : Option TokenKind) (j : ℕ) → Piece bs k i j → ⊥) → IsBad bs i

-- the piece that is cut off at i: the longest that begins there
pub record IsFront (bs : List ℕ) (k : Option TokenKind) (i j : ℕ) : Type 0 where
  pub sound : IsBad bs i → ⊥
  pub piece : Piece bs k i j
  pub longest : (l : Option TokenKind) (m : ℕ) → Piece bs l i m → m ≤ j
