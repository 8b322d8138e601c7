-- What a terminal is taken as, and what then waits.
use Rattle.std.specs.Prelude.{◌≡◌, ℕ, suc, ◌-◌, length, List, [], ◌∷◌, Some, slice_get}
use Rattle.bv_grammar.specs.declared.words.Terminal.{Terminal}
use Rattle.bv_grammar.specs.declared.words.Role.{Role}
use Rattle.bv_grammar.specs.declared.reading.Taken.{Taken}
use Rattle.bv_grammar.specs.declared.reading.End.{End}
use Rattle.bv_grammar.specs.declared.reading.End.TheVariants.{Whole, Fault}
use Rattle.bv_grammar.specs.Grammar.{terminal_of, Symbol, terminal, term, tail, file}
use Rattle.bv_grammar.specs.Derivation.{Derives, IsFile, IsSyntaxFault}

-- IsTakenAs ts i r b: the terminal at i is reached and taken in the role r, and then b is still open
pub record IsTakenAs (ts : List Terminal) (i : ℕ) (r : Role) (b : List Symbol) : Type 0 where
  pub derived : Derives ts file 0 (terminal r ∷ b) i
  pub there : slice_get ts i ≡ Some (terminal_of r)

-- how many terms have begun and aren't complete
abbrev pub terms_open : List Symbol → ℕ
terms_open [] = 0
terms_open (tail p l ∷ b) = suc (terms_open b)
terms_open (s ∷ b) = terms_open b

-- How many brackets, prefix operators, `if`s and infix operators wait for an operand that isn't complete: one in each
-- term that has begun, but for the innermost where no operand is about to begin in it.
abbrev pub waiting : List Symbol → ℕ
waiting (term p ∷ b) = terms_open b
waiting b = terms_open b - 1

-- x is what the terminal at i is taken as, with the number of what then waits
abbrev pub IsTaken : List Terminal → ℕ → Taken → Type 0
IsTaken ts i x = (b : List Symbol) × IsTakenAs ts i x.role b × (x.waiting ≡ waiting b)

-- the first terminals are taken so
abbrev pub AreTaken : List Terminal → List Taken → Type 0
AreTaken ts xs = (i : ℕ) (x : Taken) → slice_get xs i ≡ Some x → IsTaken ts i x

-- how the reading ends behind n terminals: they are the whole file, or the fault stands there
abbrev pub EndsAt : List Terminal → ℕ → End → Type 0
EndsAt ts n Whole = (n ≡ length ts) × IsFile ts
EndsAt ts n Fault = IsSyntaxFault ts n
