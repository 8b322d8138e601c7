-- Canonical text as its tokens: the bytes are those of the tokens one after another, some of them behind a space, and a line
-- feed at the end. So what the tokens are is told apart from how a text is cut into tokens.
use Rattle.std.specs.Prelude.{ℕ, Bool, true, false, if◌then◌else◌, List, [], ◌∷◌, ◌++◌, map, flat_map, codes, decimal}
use Rattle.bv_value.specs.BitVector.{BitVector}
use Rattle.bv_lex.specs.declared.token.TokenKind.{TokenKind}
use Rattle.bv_lex.specs.declared.token.TokenKind.TheVariants as kinds
use Rattle.bv_grammar.specs.declared.words.Terminal.{Terminal}
use Rattle.bv_terminals.specs.Spellings.{terminal_of_kind}
use Rattle.bv_expr.specs.Goal.{Binders}
use Rattle.bv_expr.specs.Term.{Term, constant, variable, truth, truth_variable, unary, binary, choice, truth_choice}
use Rattle.bvd_text.specs.Hexadecimal.{hex_text}
use Rattle.bv_print.specs.Spelling.{Form, Prefix, Infix, Method, unary_form, binary_form, kept_numbers}
use Rattle.bv_print.specs.Values.{hex_width, truth_text}
use Rattle.bv_print.specs.Canonical.{is_constant, name_at}

-- a token: whether a space stands before it, of which kind it is, and how it is spelled
pub record Written : Type 0 where
  pub spaced : Bool
  pub kind : TokenKind
  pub text : List ℕ

-- the terminal that it is in the grammar
abbrev pub terminal : Written → Terminal
terminal w = terminal_of_kind w.kind w.text

abbrev pub bytes : Written → List ℕ
bytes w = (if w.spaced then codes " " else []) ++ w.text

-- the bytes of tokens
abbrev pub text : List Written → List ℕ
text ws = flat_map bytes ws

-- ---- kinds of tokens, the flag telling that a space stands before one

abbrev pub sign : Bool → List ℕ → Written
sign b w = record { spaced = b; kind = kinds.Sign; text = w }

abbrev pub word : Bool → List ℕ → Written
word b w = record { spaced = b; kind = kinds.Reserved; text = w }

abbrev pub name : Bool → List ℕ → Written
name b w = record { spaced = b; kind = kinds.Name; text = w }

abbrev pub numeral : Bool → ℕ → Written
numeral b n = record { spaced = b; kind = kinds.Numeral n; text = decimal n }

-- the number of a vector, in as many hexadecimal digits as its width takes
abbrev pub digits : Bool → BitVector → Written
digits b v = record { spaced = b; kind = kinds.Numeral v.number; text = hex_text (hex_width v.width) v.number }

abbrev pub left : Bool → Written
left b = sign b (codes "(")

abbrev pub right : Written
right = sign false (codes ")")

-- ---- terms

-- a term that a method is called of: a constant stands in brackets there
abbrev pub receiver : Bool → List Written → List Written
receiver of_constant part = if of_constant then left false ∷ (part ++ right ∷ []) else part

-- an operator with its first part, and what stands behind the operator
abbrev pub operation : Form → Bool → List Written → List Written → List Written
operation (Prefix w) of_constant part others = sign false w ∷ (part ++ others)
operation (Infix w) of_constant part others = part ++ (sign true w ∷ others)
operation (Method w) of_constant part others = receiver of_constant part ++ (sign false (codes ".") ∷ name false w ∷ others)

abbrev pub numbers : List ℕ → List Written
numbers ns = map (numeral true) ns

abbrev pub chosen : Bool → List Written → List Written → List Written → List Written
chosen b c x y = left b ∷ word false (codes "if") ∷ (c ++ (word true (codes "then") ∷ (x ++ (word true (codes "else") ∷ (y ++ right ∷ [])))))

-- the tokens of a term over these variables
abbrev pub term_tokens : Bool → Binders → Term → List Written
term_tokens b binders (constant v) = digits b v ∷ sign false (codes "#") ∷ numeral false v.width ∷ []
term_tokens b binders (variable k w) = name b (name_at binders k) ∷ []
term_tokens b binders (truth t) = word b (truth_text t) ∷ []
term_tokens b binders (truth_variable k) = name b (name_at binders k) ∷ []
term_tokens b binders (unary op x) = left b ∷ (operation (unary_form op) (is_constant x) (term_tokens false binders x) (numbers (kept_numbers op)) ++ right ∷ [])
term_tokens b binders (binary op x y) = left b ∷ (operation (binary_form op) (is_constant x) (term_tokens false binders x) (term_tokens true binders y) ++ right ∷ [])
term_tokens b binders (choice c x y) = chosen b (term_tokens true binders c) (term_tokens true binders x) (term_tokens true binders y)
term_tokens b binders (truth_choice c x y) = chosen b (term_tokens true binders c) (term_tokens true binders x) (term_tokens true binders y)
