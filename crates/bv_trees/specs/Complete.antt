-- The terms of a file that are complete, also where the file is cut short, and their pieces.
use Rattle.std.specs.Prelude.{◌≡◌, ℕ, ◌+◌, List, [], ◌∷◌, ◌++◌, length, Option, Some, None}
use Rattle.bv_grammar.specs.declared.words.Word.{Word}
use Rattle.bv_grammar.specs.declared.words.Word.TheVariants as words
use Rattle.bv_grammar.specs.declared.words.Terminal.{Terminal}
use Rattle.bv_grammar.specs.declared.words.Terminal.TheVariants as terminals
use Rattle.bv_grammar.specs.declared.words.Fixity.{Fixity}
use Rattle.bv_grammar.specs.declared.reading.Taken.{Taken}
use Rattle.bv_grammar.specs.Operators.{fixity_of, when_fits}
use Rattle.bv_grammar.specs.Grammar.{Symbol, term, arguments, is_word, file}
use Rattle.bv_grammar.specs.Derivation.{Derives, IsSyntaxFault}
use Rattle.bv_grammar.specs.Taking.{AreTaken}
use Rattle.bv_trees.specs.declared.pieces.Sort.{Sort}
use Rattle.bv_trees.specs.declared.pieces.Piece.{Piece}
use Rattle.bv_trees.specs.declared.pieces.Piece.TheVariants as piece
use Rattle.bv_trees.specs.Trees.{Tree, Trees, prefix, infix_, choice, method, ascribed, no_more, and}
use Rattle.bv_trees.specs.Terms.{IsAt, IsWord, IsNot, Term, Operand, Atom, Atoms}
use Rattle.bv_trees.specs.Codes.{pieces}

-- SoFar ts p i l x j: of a term of level p that begins at i, x is read up to j, and has level l
pub data SoFar (ts : List Terminal) (p i : ℕ) : ℕ → Tree → ℕ → Type 0 where
  first : {l j : ℕ} {x : Tree} → Operand ts i l x j → SoFar ts p i l x j
  onward : {l j k : ℕ} {w : Word} {x y : Tree} (o : Fixity) → SoFar ts p i l x j → IsWord ts w j → when_fits p l (fixity_of w) ≡ Some o → Term ts o.right (j + 1) y k → SoFar ts p i o.level (infix_ w j x y) k

-- Called ts i x m: of a call that begins at i, the method whose name stands at m has the receiver x
pub data Called (ts : List Terminal) (i : ℕ) : Tree → ℕ → Type 0 where
  first : {k : ℕ} {x : Tree} → Atom ts i x k → IsWord ts words.Dot k → IsAt ts terminals.Name (k + 1) → Called ts i x (k + 1)
  further : {m : ℕ} {x : Tree} → Called ts i x m → IsWord ts words.Dot (m + 1) → IsAt ts terminals.Name (m + 1 + 1) → Called ts i (method m x no_more) (m + 1 + 1)

-- Complete ts at x j: the operator, method or `if` at this place has the term x, which is complete at j; what begins there is
-- reached, and the terminal at j doesn't go on with it
pub data Complete (ts : List Terminal) : ℕ → Tree → ℕ → Type 0 where
  of_prefix : {p l at j : ℕ} {w : Word} {x : Tree} {b : List Symbol} → Derives ts file 0 (term p ∷ b) at → Operand ts at l (prefix w at x) j → Complete ts at (prefix w at x) j
  of_if : {p l at j : ℕ} {x y z : Tree} {b : List Symbol} → Derives ts file 0 (term p ∷ b) at → Operand ts at l (choice at x y z) j → Complete ts at (choice at x y z) j
  of_infix : {p i l at j : ℕ} {w : Word} {x y : Tree} {b : List Symbol} → Derives ts file 0 (term p ∷ b) i → SoFar ts p i l (infix_ w at x y) j → Complete ts at (infix_ w at x y) j
  -- the last method of a receiver, with its arguments; one before another; and one of an argument
  of_method : {p i at j : ℕ} {x : Tree} {xs : Trees} {b : List Symbol} → Derives ts file 0 (term p ∷ b) i → Called ts i x at → IsNot ts (is_word words.Dot) (at + 1) → Atoms ts (at + 1) xs j → Complete ts at (method at x xs) j
  of_further : {p i at : ℕ} {x : Tree} {b : List Symbol} → Derives ts file 0 (term p ∷ b) i → Called ts i x at → IsWord ts words.Dot (at + 1) → Complete ts at (method at x no_more) (at + 1)
  of_argument : {i at : ℕ} {x : Tree} {b : List Symbol} → Derives ts file 0 (arguments ∷ b) i → Called ts i x at → Complete ts at (method at x no_more) (at + 1)

mutual
  -- the term y stands in a term
  pub data Within (y : Tree) : Tree → Type 0 where
    itself : Within y y
    operand : {o : Word} {i : ℕ} {x : Tree} → Within y x → Within y (prefix o i x)
    left : {o : Word} {i : ℕ} {x z : Tree} → Within y x → Within y (infix_ o i x z)
    right : {o : Word} {i : ℕ} {x z : Tree} → Within y z → Within y (infix_ o i x z)
    condition : {i : ℕ} {x z u : Tree} → Within y x → Within y (choice i x z u)
    then_part : {i : ℕ} {x z u : Tree} → Within y z → Within y (choice i x z u)
    else_part : {i : ℕ} {x z u : Tree} → Within y u → Within y (choice i x z u)
    receiver : {i : ℕ} {x : Tree} {xs : Trees} → Within y x → Within y (method i x xs)
    argument : {i : ℕ} {x : Tree} {xs : Trees} → WithinAny y xs → Within y (method i x xs)
    in_brackets : {i : ℕ} {x : Tree} {s : Sort} → Within y x → Within y (ascribed i x s)

  -- it stands in one of these
  pub data WithinAny (y : Tree) : Trees → Type 0 where
    first : {x : Tree} {xs : Trees} → Within y x → WithinAny y (and x xs)
    further : {x : Tree} {xs : Trees} → WithinAny y xs → WithinAny y (and x xs)

-- the place of a term's operator, method or `if`
abbrev pub operator_of : Tree → Option ℕ
operator_of (prefix o i x) = Some i
operator_of (infix_ o i x y) = Some i
operator_of (choice i x y z) = Some i
operator_of (method i x xs) = Some i
operator_of _ = None

-- a piece that makes no term
pub data IsLoose : Piece → Type 0 where
  a_call : {i : ℕ} → IsLoose (piece.Call i)
  a_goal : {i j : ℕ} → IsLoose (piece.Goal i j)
  some_variables : {i j : ℕ} {s : Sort} → IsLoose (piece.Variables i j s)
  a_proof : {s : Option ℕ} → IsLoose (piece.Proof s)

-- Holds ps xs: the pieces of the terms xs stand one behind another in ps, and between them pieces that make no term
pub data Holds : List Piece → List Tree → Type 0 where
  nothing : Holds [] []
  a_term : {x : Tree} {ps : List Piece} {xs : List Tree} → Holds ps xs → Holds (pieces x ++ ps) (x ∷ xs)
  loose : {o : Piece} {ps : List Piece} {xs : List Tree} → IsLoose o → Holds ps xs → Holds (o ∷ ps) xs

-- the term y stands in one of these
pub data Among (y : Tree) : List Tree → Type 0 where
  in_first : {x : Tree} {xs : List Tree} → Within y x → Among y (x ∷ xs)
  in_others : {x : Tree} {xs : List Tree} → Among y xs → Among y (x ∷ xs)

-- the operator, method or `if` at this place is complete with the term y
abbrev pub IsComplete : List Terminal → Tree → ℕ → Type 0
IsComplete ts y at = (j : ℕ) × Complete ts at y j

-- The pieces of all that is complete, and of nothing else: they are the pieces of some terms, each operator, method and `if`
-- of which is complete; and the pieces of each term that is complete stand among them, one behind the other.
pub record AreCompleted (ts : List Terminal) (ps : List Piece) : Type 0 where
  pub terms : List Tree
  pub holds : Holds ps terms
  pub complete : (y : Tree) (at : ℕ) → Among y terms → operator_of y ≡ Some at → IsComplete ts y at
  pub all : (at j : ℕ) (x : Tree) → Complete ts at x j → (before : List Piece) × (behind : List Piece) × ((before ++ pieces x) ++ behind ≡ ps)

-- the pieces of what is complete where the file is cut short behind terminals that are taken so
abbrev pub ArePiecesBefore : List Taken → List Piece → Type 0
ArePiecesBefore xs ps = (ts : List Terminal) → AreTaken ts xs → IsSyntaxFault ts (length xs) → AreCompleted ts ps
