-- The limits that a file meets, and the first of them.
use Rattle.std.specs.Prelude.{ℕ, List, length, Option, Some, None}
use Rattle.bv_lex.specs.declared.token.Token.{Token}
use Rattle.bv_lex.specs.declared.fault.What.{What}
use Rattle.bv_lex.specs.declared.fault.What.TheVariants as what
use Rattle.bv_grammar.specs.declared.words.Terminal.{Terminal}
use Rattle.bv_trees.specs.Trees.{Goal}
use Rattle.bv_limits.specs.declared.plain.Met.{Met}
use Rattle.bv_limits.specs.Limits.{IsCountedLimit, IsBefore}
use Rattle.bv_limits.specs.Deep.{AnyDeep, terms_of}

-- Of the limits that are met so, this is the first in place, and at its place the first in the order of `What`; or there is none.
abbrev pub IsLeast : (What → ℕ → Type 0) → Option Met → Type 0
IsLeast met (Some m) = met m.what m.at × ((w : What) (at : ℕ) → met w at → IsBefore m.at m.what at w)
IsLeast met None = (w : What) (at : ℕ) → met w at → ⊥

-- a whole file whose goals are these meets a limit at a place: one that counts tell, or a term there is deeper than 1,000
pub data IsMetIn (tokens : List Token) (ts : List Terminal) (gs : List Goal) : What → ℕ → Type 0 where
  counted : {w : What} {at : ℕ} → IsCountedLimit tokens ts (length ts) w at → IsMetIn tokens ts gs w at
  deep : {at : ℕ} → AnyDeep (terms_of gs) at → IsMetIn tokens ts gs what.Depth at
