-- How tokens are counted.
use Rattle.std.specs.Prelude.{ℕ, zero, suc, ◌+◌, ◌==◌, ◌&&◌, ◌||◌, nat_lt, Bool, true, false, if◌then◌else◌, List, Option, Some, None, option_map, slice_get}
use Rattle.bv_lex.specs.declared.token.Token.{Token}
use Rattle.bv_lex.specs.declared.token.TokenKind.{TokenKind}
use Rattle.bv_lex.specs.declared.token.TokenKind.TheVariants as kinds
use Rattle.bv_lex.specs.declared.fault.What.{What}
use Rattle.bv_lex.specs.declared.fault.What.TheVariants as what
use Rattle.bv_grammar.specs.declared.words.Word.TheVariants as words
use Rattle.bv_grammar.specs.declared.words.Role.{Role}
use Rattle.bv_grammar.specs.declared.words.Role.TheVariants as roles
use Rattle.bv_grammar.specs.declared.reading.Taken.{Taken}
use Rattle.bv_limits.specs.declared.plain.Counters.{Counters}

abbrev pub is_head : Role → Bool
is_head (roles.Word words.Theorem) = true
is_head (roles.Word words.Example) = true
is_head _ = false

abbrev pub is_term_token : Role → Bool
is_term_token roles.Variable = true
is_term_token roles.Numeral = true
is_term_token (roles.Constant w) = true
is_term_token (roles.Prefix w) = true
is_term_token (roles.Infix w) = true
is_term_token roles.Method = true
is_term_token (roles.Word words.If) = true
is_term_token _ = false

abbrev pub is_width : Role → Bool
is_width roles.Width = true
is_width _ = false

-- a number that is no width
abbrev pub is_wide_kind : TokenKind → Bool
is_wide_kind (kinds.Numeral n) = n == 0 || nat_lt 128 n
is_wide_kind _ = false

abbrev pub is_wide : Option Token → Bool
is_wide None = false
is_wide (Some t) = is_wide_kind t.kind

abbrev pub start : Counters
start = record { heads = 0; nodes = None }

-- one token more
abbrev pub count : Role → Counters → Counters
count r c = if is_head r then record { heads = c.heads + 1; nodes = Some 0 } else (if is_term_token r then record { heads = c.heads; nodes = option_map (λ n. n + 1) c.nodes } else c)

abbrev pub counted : Option Taken → Counters → Counters
counted None c = c
counted (Some x) c = count x.role c

-- what the first n tokens count
abbrev pub counters : List Taken → ℕ → Counters
counters xs zero = start
counters xs (suc n) = counted (slice_get xs n) (counters xs n)

abbrev pub is_full : Option ℕ → Bool
is_full None = false
is_full (Some n) = n == 100000

-- the limit that a token meets behind these
abbrev pub limit_of : Bool → Taken → Counters → Option What
limit_of wide x c =
    if wide && is_width x.role then Some what.Width
    else (if nat_lt 1000 x.waiting then Some what.Depth
    else (if is_full c.nodes && is_term_token x.role then Some what.Nodes
    else (if c.heads == 1024 && is_head x.role then Some what.Goals else None)))

abbrev pub limit_there : Option Token → Option Taken → Counters → Option What
limit_there t None c = None
limit_there t (Some x) c = limit_of (is_wide t) x c

abbrev pub limit_at : List Token → List Taken → ℕ → Option What
limit_at tokens xs i = limit_there (slice_get tokens i) (slice_get xs i) (counters xs i)
