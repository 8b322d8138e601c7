-- The reserved words, and the signs.
use Rattle.std.specs.Prelude.{ℕ, List, [], ◌∷◌, codes, bytes_eq, if◌then◌else◌}
use Rattle.std.specs.List.{list_any}
use Rattle.std.specs.Char.{encode_utf8}
use Rattle.bv_lex.specs.declared.token.TokenKind.{TokenKind}
use Rattle.bv_lex.specs.declared.token.TokenKind.TheVariants.{Name, Reserved}

-- the words that are no names
abbrev pub reserved_words : List (List ℕ)
reserved_words =
    codes "theorem" ∷ codes "example" ∷ codes "import" ∷ codes "open" ∷ codes "by" ∷ codes "if" ∷ codes "then" ∷ codes "else"
    ∷ codes "true" ∷ codes "false" ∷ codes "True" ∷ codes "False" ∷ codes "Bool" ∷ codes "BitVec" ∷ codes "intros"
    ∷ codes "bv_decide" ∷ codes "bv_check" ∷ []

-- the kind of a token that is spelled like a name
abbrev pub kind_of_word : List ℕ → TokenKind
kind_of_word word = if list_any (λ w. bytes_eq w word) reserved_words then Reserved else Name

-- the signs: ( ) { } : := . , ; # and the operators
-- ~~~ <<< >>> - * / % + ++ &&& ^^^ ||| = ≠ == != < ≤ <= > ≥ >= ¬ ! ∧ /\ && ^^ ∨ \/ || → -> ↔ <->
abbrev pub signs : List (List ℕ)
signs =
    codes "(" ∷ codes ")" ∷ codes "{" ∷ codes "}" ∷ codes ":" ∷ codes ":=" ∷ codes "." ∷ codes "," ∷ codes ";" ∷ codes "#"
    ∷ codes "~~~" ∷ codes "<<<" ∷ codes ">>>" ∷ codes "-" ∷ codes "*" ∷ codes "/" ∷ codes "%" ∷ codes "+" ∷ codes "++"
    ∷ codes "&&&" ∷ codes "^^^" ∷ codes "|||" ∷ codes "=" ∷ encode_utf8 0x2260 ∷ codes "==" ∷ codes "!="
    ∷ codes "<" ∷ encode_utf8 0x2264 ∷ codes "<=" ∷ codes ">" ∷ encode_utf8 0x2265 ∷ codes ">=" ∷ encode_utf8 0xAC ∷ codes "!"
    ∷ encode_utf8 0x2227 ∷ codes "/\\" ∷ codes "&&" ∷ codes "^^" ∷ encode_utf8 0x2228 ∷ codes "\\/" ∷ codes "||"
    ∷ encode_utf8 0x2192 ∷ codes "->" ∷ encode_utf8 0x2194 ∷ codes "<->" ∷ []
