-- What the grammar says of every file.
use Rattle.std.specs.Prelude.{◌≡◌, ℕ, ◌<◌, List, ◌++◌, slice_get, ◌⊎◌}
use Rattle.bv_grammar.specs.declared.words.Terminal.{Terminal}
use Rattle.bv_grammar.specs.declared.words.Role.{Role}
use Rattle.bv_grammar.specs.Grammar.{Symbol, Rule}
use Rattle.bv_grammar.specs.Derivation.{Derives, IsFile, IsSyntaxFault}
use Rattle.bv_grammar.specs.Taking.{IsTakenAs}

-- The grammar is LL(1): of the rules of a symbol, at most one goes on over a terminal, or over the end, in whatever file
-- and with whatever behind it.
abbrev pub OneRule : Symbol → List Symbol → List Symbol → Type 0
OneRule s r r' = Rule s r → Rule s r' → (ts us : List Terminal) (a a' b b' : List Symbol) (i j m n : ℕ) → slice_get ts i ≡ slice_get us j → i < m → Derives ts (r ++ a) i b m → j < n → Derives us (r' ++ a') j b' n → r ≡ r'

-- A file is derived whole or has a syntax fault.
abbrev pub WholeOrFault : List Terminal → Type 0
WholeOrFault ts = IsFile ts ⊎ ((at : ℕ) × IsSyntaxFault ts at)

-- A file that is derived whole has no syntax fault.
abbrev pub NotBoth : List Terminal → ℕ → Type 0
NotBoth ts at = IsFile ts → IsSyntaxFault ts at → ⊥

-- A file has one syntax fault at most.
abbrev pub OneFault : List Terminal → ℕ → ℕ → Type 0
OneFault ts at at' = IsSyntaxFault ts at → IsSyntaxFault ts at' → at ≡ at'

-- A terminal is taken in one role, with one list of symbols open behind it.
abbrev pub OneRole : List Terminal → ℕ → Role → List Symbol → Role → List Symbol → Type 0
OneRole ts i r b r' b' = IsTakenAs ts i r b → IsTakenAs ts i r' b' → (r ≡ r') × (b ≡ b')
