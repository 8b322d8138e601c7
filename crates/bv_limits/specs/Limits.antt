-- The limits that the first terminals of a file meet, and the order in which they are answered.
use Rattle.std.specs.Prelude.{◌≡◌, ℕ, ◌<◌, ◌≤◌, List, Option, Some, None, slice_get, ◌⊎◌}
use Rattle.bv_lex.specs.declared.token.Token.{Token}
use Rattle.bv_lex.specs.declared.token.TokenKind.TheVariants.{Numeral}
use Rattle.bv_lex.specs.declared.fault.What.{What}
use Rattle.bv_lex.specs.declared.fault.What.TheVariants as what
use Rattle.bv_grammar.specs.declared.words.Terminal.{Terminal}
use Rattle.bv_grammar.specs.declared.words.Role.TheVariants as roles
use Rattle.bv_grammar.specs.Grammar.{Symbol}
use Rattle.bv_grammar.specs.declared.words.Role.{Role}
use Rattle.bv_grammar.specs.Taking.{IsTakenAs, waiting}
use Rattle.bv_trees.specs.Trees.{Tree}
use Rattle.bv_trees.specs.Complete.{Complete}
use Rattle.bv_limits.specs.Roles.{IsRole, IsHead, IsTermToken, IsVariable}
use Rattle.bv_limits.specs.Counts.{Count}
use Rattle.bv_limits.specs.Depths.{depth}

-- the head of the goal in which i stands is at h
pub record IsHeadOf (ts : List Terminal) (h i : ℕ) : Type 0 where
  pub head : IsHead ts h
  pub before : h < i
  pub last : (k : ℕ) → h < k → k < i → IsHead ts k → ⊥

-- a numeral at i that is no width: 0, or above 128
pub record IsNoWidth (tokens : List Token) (i : ℕ) : Type 0 where
  pub number : ℕ
  pub token : Token
  pub there : slice_get tokens i ≡ Some token
  pub value : token.kind ≡ Numeral number
  pub wide : (number ≡ 0) ⊎ (128 < number)

-- A limit is met at a place among the first `end` terminals, which are reached: by the token there alone, or by how many
-- stand before it.
pub data IsPlainLimit (tokens : List Token) (ts : List Terminal) (end : ℕ) : What → ℕ → Type 0 where
  width : {at : ℕ} → at < end → IsRole ts roles.Width at → IsNoWidth tokens at → IsPlainLimit tokens ts end what.Width at
  -- more than 1,000 brackets, prefix operators, `if`s and infix operators wait
  nested : {at : ℕ} {r : Role} {b : List Symbol} → at < end → IsTakenAs ts at r b → 1000 < waiting b → IsPlainLimit tokens ts end what.Depth at
  -- the 100,001st token of a goal's terms
  nodes : {h at : ℕ} → at < end → IsHeadOf ts h at → IsTermToken ts at → Count (IsTermToken ts) h at 100000 → IsPlainLimit tokens ts end what.Nodes at
  -- the 1,025th goal
  goals : {at : ℕ} → at < end → IsHead ts at → Count (IsHead ts) 0 at 1024 → IsPlainLimit tokens ts end what.Goals at

-- the 65th variable of a goal stands at this place, among the first `end` terminals
abbrev pub IsTooMany : List Terminal → ℕ → ℕ → Type 0
IsTooMany ts end at = (h : ℕ) × (at < end) × IsHeadOf ts h at × IsVariable ts end at × Count (IsVariable ts end) h at 64

-- Or it is met by the 65th variable of a goal: these are told by counts.
pub data IsCountedLimit (tokens : List Token) (ts : List Terminal) (end : ℕ) : What → ℕ → Type 0 where
  plain : {w : What} {at : ℕ} → IsPlainLimit tokens ts end w at → IsCountedLimit tokens ts end w at
  variables : {at : ℕ} → IsTooMany ts end at → IsCountedLimit tokens ts end what.Variables at

-- Or by a term that is deeper than 1,000 and complete behind the first `end` terminals at the latest.
pub data IsLimit (tokens : List Token) (ts : List Terminal) (end : ℕ) : What → ℕ → Type 0 where
  counted : {w : What} {at : ℕ} → IsCountedLimit tokens ts end w at → IsLimit tokens ts end w at
  deep : {at j : ℕ} {x : Tree} → Complete ts at x j → j ≤ end → 1000 < depth x → IsLimit tokens ts end what.Depth at

-- the order in which limits at one token are answered
abbrev pub rank : What → ℕ
rank what.Number = 0
rank what.Width = 1
rank what.Depth = 2
rank what.Nodes = 3
rank what.Variables = 4
rank what.Goals = 5

-- a limit at a place is answered before another, or is that one
abbrev pub IsBefore : ℕ → What → ℕ → What → Type 0
IsBefore at w at' w' = (at < at') ⊎ ((at ≡ at') × (rank w ≤ rank w'))

-- the first place of a 65th variable among these terminals, or none
abbrev pub IsFirstTooMany : List Terminal → ℕ → Option ℕ → Type 0
IsFirstTooMany ts end (Some at) = IsTooMany ts end at × ((k : ℕ) → IsTooMany ts end k → at ≤ k)
IsFirstTooMany ts end None = (k : ℕ) → IsTooMany ts end k → ⊥
