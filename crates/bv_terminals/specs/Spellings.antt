-- The words of the grammar as tokens spell them.
use Rattle.std.specs.Prelude.{ℕ, List, [], ◌∷◌, Option, Some, None, codes, bytes_eq, slice_range, if◌then◌else◌}
use Rattle.std.specs.Char.{encode_utf8}
use Rattle.bv_lex.specs.declared.token.Token.{Token}
use Rattle.bv_lex.specs.declared.token.TokenKind.{TokenKind}
use Rattle.bv_lex.specs.declared.token.TokenKind.TheVariants as kinds
use Rattle.bv_grammar.specs.declared.words.Word.{Word}
use Rattle.bv_grammar.specs.declared.words.Word.TheVariants as words
use Rattle.bv_grammar.specs.declared.words.Terminal.{Terminal}
use Rattle.bv_grammar.specs.declared.words.Terminal.TheVariants as terminals

abbrev pub Table : Type 0
Table = List (List ℕ × Word)

-- the reserved words
abbrev pub reserved : Table
reserved =
    (codes "theorem", words.Theorem) ∷ (codes "example", words.Example) ∷ (codes "import", words.Import) ∷ (codes "open", words.Open)
    ∷ (codes "by", words.By) ∷ (codes "if", words.If) ∷ (codes "then", words.Then) ∷ (codes "else", words.Else)
    ∷ (codes "true", words.True) ∷ (codes "false", words.False) ∷ (codes "True", words.TrueProposition) ∷ (codes "False", words.FalseProposition)
    ∷ (codes "Bool", words.Bool) ∷ (codes "BitVec", words.BitVec) ∷ (codes "intros", words.Intros)
    ∷ (codes "bv_decide", words.Decide) ∷ (codes "bv_check", words.Check) ∷ []

-- The signs: the ASCII and the mathematical spelling of an operator are one word. They are ≠ ≤ ≥ ¬ ∧ ∨ → ↔ where a number
-- stands.
abbrev pub signs : Table
signs =
    (codes "(", words.LeftRound) ∷ (codes ")", words.RightRound) ∷ (codes "{", words.LeftBrace) ∷ (codes "}", words.RightBrace)
    ∷ (codes ":", words.Colon) ∷ (codes ":=", words.Assign) ∷ (codes ".", words.Dot) ∷ (codes ",", words.Comma)
    ∷ (codes ";", words.Semicolon) ∷ (codes "#", words.Hash)
    ∷ (codes "~~~", words.Complement) ∷ (codes "<<<", words.ShiftLeft) ∷ (codes ">>>", words.ShiftRight)
    ∷ (codes "-", words.Minus) ∷ (codes "*", words.Times) ∷ (codes "/", words.Divide) ∷ (codes "%", words.Modulo)
    ∷ (codes "+", words.Plus) ∷ (codes "++", words.Append)
    ∷ (codes "&&&", words.BitAnd) ∷ (codes "^^^", words.BitXor) ∷ (codes "|||", words.BitOr)
    ∷ (codes "=", words.Equal) ∷ (encode_utf8 0x2260, words.NotEqual) ∷ (codes "==", words.BoolEqual) ∷ (codes "!=", words.BoolNotEqual)
    ∷ (codes "<", words.Less) ∷ (encode_utf8 0x2264, words.AtMost) ∷ (codes "<=", words.AtMost)
    ∷ (codes ">", words.Greater) ∷ (encode_utf8 0x2265, words.AtLeast) ∷ (codes ">=", words.AtLeast)
    ∷ (encode_utf8 0xAC, words.Not) ∷ (codes "!", words.BoolNot)
    ∷ (encode_utf8 0x2227, words.And) ∷ (codes "/\\", words.And) ∷ (codes "&&", words.BoolAnd) ∷ (codes "^^", words.BoolXor)
    ∷ (encode_utf8 0x2228, words.Or) ∷ (codes "\\/", words.Or) ∷ (codes "||", words.BoolOr)
    ∷ (encode_utf8 0x2192, words.Implies) ∷ (codes "->", words.Implies) ∷ (encode_utf8 0x2194, words.Iff) ∷ (codes "<->", words.Iff) ∷ []

-- the word that is spelled so
abbrev pub look_up : Table → List ℕ → Option Word
look_up [] text = None
look_up (entry ∷ table) text = if bytes_eq entry.0 text then Some entry.1 else look_up table text

-- What is spelled as no word, which no token of a file is, stands as a comma, which no rule takes.
abbrev pub or_comma : Option Word → Word
or_comma None = words.Comma
or_comma (Some w) = w

-- the terminal of a token of this kind and spelling
abbrev pub terminal_of_kind : TokenKind → List ℕ → Terminal
terminal_of_kind kinds.Name text = terminals.Name
terminal_of_kind (kinds.Numeral n) text = terminals.Numeral
terminal_of_kind kinds.Text text = terminals.Text
terminal_of_kind kinds.Reserved text = terminals.Word (or_comma (look_up reserved text))
terminal_of_kind kinds.Sign text = terminals.Word (or_comma (look_up signs text))

-- the terminal of a token of a file
abbrev pub terminal_of : List ℕ → Token → Terminal
terminal_of bytes t = terminal_of_kind t.kind (slice_range bytes t.from t.to)
