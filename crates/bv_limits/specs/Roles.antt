-- What the terminals of a file are taken as that limits count. A place is a number of terminals before it.
use Rattle.std.specs.Prelude.{ℕ, ◌+◌, ◌<◌, ◌≤◌, List}
use Rattle.bv_grammar.specs.declared.words.Word.{Word}
use Rattle.bv_grammar.specs.declared.words.Word.TheVariants as words
use Rattle.bv_grammar.specs.declared.words.Terminal.{Terminal}
use Rattle.bv_grammar.specs.declared.words.Role.{Role}
use Rattle.bv_grammar.specs.declared.words.Role.TheVariants as roles
use Rattle.bv_grammar.specs.Grammar.{Symbol}
use Rattle.bv_grammar.specs.Taking.{IsTakenAs}

-- the terminal at i is taken in this role
abbrev pub IsRole : List Terminal → Role → ℕ → Type 0
IsRole ts r i = (b : List Symbol) × IsTakenAs ts i r b

-- the head word of a goal stands at i
pub data IsHead (ts : List Terminal) (i : ℕ) : Type 0 where
  of_theorem : IsRole ts (roles.Word words.Theorem) i → IsHead ts i
  of_example : IsRole ts (roles.Word words.Example) i → IsHead ts i

-- A token of a term stands at i: a name, a numeral, a constant, an operator, a method's name, or `if`. A literal counts at its
-- number.
pub data IsTermToken (ts : List Terminal) (i : ℕ) : Type 0 where
  of_name : IsRole ts roles.Variable i → IsTermToken ts i
  of_numeral : IsRole ts roles.Numeral i → IsTermToken ts i
  of_constant : {w : Word} → IsRole ts (roles.Constant w) i → IsTermToken ts i
  of_prefix : {w : Word} → IsRole ts (roles.Prefix w) i → IsTermToken ts i
  of_infix : {w : Word} → IsRole ts (roles.Infix w) i → IsTermToken ts i
  of_method : IsRole ts roles.Method i → IsTermToken ts i
  of_if : IsRole ts (roles.Word words.If) i → IsTermToken ts i

-- a sort begins at i
pub data BeginsSort (ts : List Terminal) (i : ℕ) : Type 0 where
  of_truths : IsRole ts (roles.Word words.Bool) i → BeginsSort ts i
  of_vectors : IsRole ts (roles.Word words.BitVec) i → BeginsSort ts i

-- A variable's name stands at i: in braces at once; in round brackets where names follow up to a colon, and behind that begins
-- a sort that is among the first `end` terminals, which are reached.
pub data IsVariable (ts : List Terminal) (end i : ℕ) : Type 0 where
  in_braces : IsRole ts roles.BraceBinder i → IsVariable ts end i
  in_brackets : {k : ℕ} → i < k → ((m : ℕ) → i ≤ m → m < k → IsRole ts roles.Binder m) → IsRole ts (roles.Word words.Colon) k → BeginsSort ts (k + 1) → k + 1 < end → IsVariable ts end i
