-- Where a reading stands.
use Rattle.std.specs.Prelude.{ℕ, ◌<◌, List}
use Rattle.bv_grammar.specs.declared.words.Terminal.{Terminal}
use Rattle.bv_grammar.specs.Grammar.{Symbol}
use Rattle.bv_grammar.specs.Derivation.{Derives}

-- a leads to b at j: a derives b there, and what a derives beyond j it derives by way of b
pub record Leads (ts : List Terminal) (a : List Symbol) (i : ℕ) (b : List Symbol) (j : ℕ) : Type 0 where
  pub derives : Derives ts a i b j
  pub only : (c : List Symbol) (n : ℕ) → j < n → Derives ts a i c n → Derives ts b j c n

-- no derivation from a takes the terminal at i
abbrev pub Dead : List Terminal → List Symbol → ℕ → Type 0
Dead ts a i = (c : List Symbol) (n : ℕ) → i < n → Derives ts a i c n → ⊥
