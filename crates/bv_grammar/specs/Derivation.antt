-- Partial derivations, and the place of a syntax fault.
use Rattle.std.specs.Prelude.{◌≡◌, ℕ, ◌+◌, ◌≤◌, length, List, [], ◌∷◌, ◌++◌, Some, None, slice_get}
use Rattle.bv_grammar.specs.declared.words.Terminal.{Terminal}
use Rattle.bv_grammar.specs.declared.words.Role.{Role}
use Rattle.bv_grammar.specs.Grammar.{terminal_of, Next, Symbol, terminal, finish, unless, Rule, file, Begins}

-- Derives ts a i b j: taking the leftmost symbol first, a becomes the terminals from i up to j and then b, the symbols
-- that are still open. The end of the file is read as one more terminal.
pub data Derives (ts : List Terminal) : List Symbol → ℕ → List Symbol → ℕ → Type 0 where
  here : {a : List Symbol} {i : ℕ} → Derives ts a i a i
  taken : {r : Role} {a b : List Symbol} {i j : ℕ} → slice_get ts i ≡ Some (terminal_of r) → Derives ts a (i + 1) b j → Derives ts (terminal r ∷ a) i b j
  at_end : {a b : List Symbol} {i j : ℕ} → slice_get ts i ≡ None → Derives ts a (i + 1) b j → Derives ts (finish ∷ a) i b j
  not_next : {x : Next} {a b : List Symbol} {i j : ℕ} → ((t : Terminal) → slice_get ts i ≡ Some t → Begins x t → ⊥) → Derives ts a i b j → Derives ts (unless x ∷ a) i b j
  by_rule : {s : Symbol} {r a b : List Symbol} {i j : ℕ} → Rule s r → Derives ts (r ++ a) i b j → Derives ts (s ∷ a) i b j

-- a derivation of the file takes all terminals and the end
abbrev pub IsFile : List Terminal → Type 0
IsFile ts = Derives ts file 0 [] (length ts + 1)

-- some partial derivation reaches the first n terminals
abbrev pub Reached : List Terminal → ℕ → Type 0
Reached ts n = (b : List Symbol) × Derives ts file 0 b n

-- at is the first terminal that no partial derivation reaches, or the end
pub record IsSyntaxFault (ts : List Terminal) (at : ℕ) : Type 0 where
  pub within : at ≤ length ts
  pub before : Reached ts at
  pub not_here : Reached ts (at + 1) → ⊥
