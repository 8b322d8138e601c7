-- What a file reads as, and the one fault of a file that doesn't. Tokens come first, then limits and the grammar, and types
-- last. A limit stands at a token that is reached, so before the first token that isn't.
use Rattle.std.specs.Prelude.{◌≡◌, ℕ, List, Option, Some, None, slice_get, map}
use Rattle.bvd_text.specs.declared.cursor.Place.{Place}
use Rattle.bvd_text.specs.Places.{place_behind}
use Rattle.bv_lex.specs.declared.token.Token.{Token}
use Rattle.bv_lex.specs.declared.fault.Fault.{Fault}
use Rattle.bv_lex.specs.declared.fault.FaultKind.TheVariants as kind
use Rattle.bv_lex.specs.Cut.{AreTokens, IsTokenFault}
use Rattle.bv_grammar.specs.declared.words.Terminal.{Terminal}
use Rattle.bv_grammar.specs.Derivation.{IsSyntaxFault}
use Rattle.bv_terminals.specs.Spellings.{terminal_of}
use Rattle.bv_trees.specs.Trees.{Goal}
use Rattle.bv_trees.specs.Files.{AreGoals}
use Rattle.bv_limits.specs.declared.plain.Met.{Met}
use Rattle.bv_limits.specs.Limits.{IsLimit}
use Rattle.bv_limits.specs.Files.{IsLeast, IsMetIn}
use Rattle.bv_typing.specs.declared.misfit.Misfit.{Misfit}
use Rattle.bv_typing.specs.Source.{source}
use Rattle.bv_expr.specs.Statement.{Statement}
use Rattle.bv_typing.specs.Goals.{file_misfits, least, States}

-- the terminals of a file's tokens
abbrev pub terminals_of : List ℕ → List Token → List Terminal
terminals_of bytes tokens = map (terminal_of bytes) tokens

-- the place of a token; behind the last one it is the end of the file
abbrev pub place_of : List ℕ → Option Token → Place
place_of bytes None = place_behind bytes
place_of bytes (Some t) = t.place

-- the goals of a file are these trees
pub record Outlines (bytes : List ℕ) (tokens : List Token) (gs : List Goal) : Type 0 where
  pub cut : AreTokens bytes tokens
  pub goals : AreGoals (terminals_of bytes tokens) gs

-- it has goals
abbrev pub HasGoals : List ℕ → List Token → Type 0
HasGoals bytes tokens = (gs : List Goal) × Outlines bytes tokens gs

-- no limit is met in it
abbrev pub IsWithinLimits : List ℕ → List Token → List Goal → Type 0
IsWithinLimits bytes tokens gs = IsLeast (IsMetIn tokens (terminals_of bytes tokens) gs) None

-- the file has goals, no limit is met in it, all its types fit, and this is what its goals state
pub record ReadsAs (bytes : List ℕ) (statements : List Statement) : Type 0 where
  pub tokens : List Token
  pub trees : List Goal
  pub outlines : Outlines bytes tokens trees
  pub within : IsWithinLimits bytes tokens trees
  pub states : States (source bytes tokens) trees statements

abbrev pub limit_at : List ℕ → List Token → Met → Fault
limit_at bytes tokens m = record { kind = kind.Limit m.what; place = place_of bytes (slice_get tokens m.at) }

-- the file's fault
pub data IsFaultOf (bytes : List ℕ) : Fault → Type 0 where
  -- no token begins at a place, or a number is too great
  of_tokens : {f : Fault} → IsTokenFault bytes f → IsFaultOf bytes f
  -- a token meets a limit, where the file is whole, and where a token can't stand behind it
  of_limits : {tokens : List Token} {gs : List Goal} {m : Met} → Outlines bytes tokens gs → IsLeast (IsMetIn tokens (terminals_of bytes tokens) gs) (Some m)
      → IsFaultOf bytes (limit_at bytes tokens m)
  of_limits_before : {tokens : List Token} {end : ℕ} {m : Met} → AreTokens bytes tokens → IsSyntaxFault (terminals_of bytes tokens) end
      → IsLeast (IsLimit tokens (terminals_of bytes tokens) end) (Some m) → IsFaultOf bytes (limit_at bytes tokens m)
  -- a token can't stand where it stands, or the file ends too early
  of_syntax : {tokens : List Token} {end : ℕ} → AreTokens bytes tokens → IsSyntaxFault (terminals_of bytes tokens) end
      → IsLeast (IsLimit tokens (terminals_of bytes tokens) end) None
      → IsFaultOf bytes (record { kind = kind.Syntax; place = place_of bytes (slice_get tokens end) })
  -- a term doesn't fit, the first of all
  of_types : {tokens : List Token} {gs : List Goal} {m : Misfit} → Outlines bytes tokens gs → IsWithinLimits bytes tokens gs
      → least (file_misfits (source bytes tokens) gs) ≡ Some m
      → IsFaultOf bytes (record { kind = m.kind; place = place_of bytes (slice_get tokens m.at) })
