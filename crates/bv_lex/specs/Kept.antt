-- Pieces that are tokens.
use Rattle.std.specs.Prelude.{ℕ, List, [], ◌∷◌, Option, Some, None}
use Rattle.bvd_text.specs.declared.cursor.Place.{Place}
use Rattle.bv_lex.specs.declared.token.Token.{Token}
use Rattle.bv_lex.specs.declared.token.TokenKind.{TokenKind}

-- the token of a piece, if it is one
abbrev pub tokens_of : Option TokenKind → ℕ → ℕ → Place → List Token
tokens_of None i j p = []
tokens_of (Some k) i j p = record { kind = k; from = i; to = j; place = p } ∷ []
