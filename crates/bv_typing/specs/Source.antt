-- A file as its tokens, and what they spell. A place is a number of tokens before it.
use Rattle.std.specs.Prelude.{ℕ, ◌+◌, ◌-◌, List, [], Option, Some, None, slice_get, slice_range}
use Rattle.bv_lex.specs.declared.token.Token.{Token}
use Rattle.bv_lex.specs.declared.token.TokenKind.{TokenKind}
use Rattle.bv_lex.specs.declared.token.TokenKind.TheVariants as kinds

-- the bytes of a file, and its tokens
pub record Source : Type 0 where
  pub bytes : List ℕ
  pub tokens : List Token

abbrev pub source : List ℕ → List Token → Source
source bytes tokens = record { bytes = bytes; tokens = tokens }

abbrev pub text_of : List ℕ → Option Token → List ℕ
text_of bytes None = []
text_of bytes (Some t) = slice_range bytes t.from t.to

-- what the token there spells
abbrev pub text_at : Source → ℕ → List ℕ
text_at s i = text_of s.bytes (slice_get s.tokens i)

abbrev pub number_of_kind : TokenKind → ℕ
number_of_kind (kinds.Numeral n) = n
number_of_kind _ = 0

abbrev pub number_of : Option Token → ℕ
number_of None = 0
number_of (Some t) = number_of_kind t.kind

-- the number of the numeral there
abbrev pub number_at : Source → ℕ → ℕ
number_at s i = number_of (slice_get s.tokens i)

abbrev pub quoted_in : TokenKind → List ℕ → List ℕ
quoted_in kinds.Text inside = inside
quoted_in _ inside = []

abbrev pub quoted_of : List ℕ → Option Token → List ℕ
quoted_of bytes None = []
quoted_of bytes (Some t) = quoted_in t.kind (slice_range bytes (t.from + 1) (t.to - 1))

-- what stands between the quotes of the string there
abbrev pub quoted_at : Source → ℕ → List ℕ
quoted_at s i = quoted_of s.bytes (slice_get s.tokens i)
