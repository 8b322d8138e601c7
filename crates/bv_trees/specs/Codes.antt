-- The pieces of trees.
use Rattle.std.specs.Prelude.{◌≡◌, List, [], ◌∷◌, ◌++◌, length}
use Rattle.bv_grammar.specs.declared.words.Terminal.{Terminal}
use Rattle.bv_grammar.specs.declared.reading.Taken.{Taken}
use Rattle.bv_grammar.specs.Taking.{AreTaken}
use Rattle.bv_trees.specs.Files.{AreGoals}
use Rattle.bv_trees.specs.declared.pieces.Piece.{Piece}
use Rattle.bv_trees.specs.declared.pieces.Piece.TheVariants as piece
use Rattle.bv_trees.specs.Trees.{Tree, Trees, name, numeral, literal, constant, prefix, infix_, choice, method, ascribed, no_more, and, Binder, variables, hypothesis, Goal}

-- the parts of a term, in the order in which they are written, and then its own piece
abbrev mutual
  pub pieces : Tree → List Piece
  pieces (name i) = piece.Name i ∷ []
  pieces (numeral i) = piece.Numeral i ∷ []
  pieces (literal i w) = piece.Literal i w ∷ []
  pieces (constant c i) = piece.Constant c i ∷ []
  pieces (prefix o i x) = pieces x ++ piece.Prefix o i ∷ []
  pieces (infix_ o i x y) = pieces x ++ (pieces y ++ piece.Infix o i ∷ [])
  pieces (choice i x y z) = pieces x ++ (pieces y ++ (pieces z ++ piece.Choice i ∷ []))
  pieces (method i x xs) = pieces x ++ (piece.Call i ∷ (arguments xs ++ piece.Method i ∷ []))
  pieces (ascribed i x s) = pieces x ++ piece.Ascribed i s ∷ []

  pub arguments : Trees → List Piece
  arguments no_more = []
  arguments (and x xs) = pieces x ++ arguments xs

abbrev pub binder_pieces : List Binder → List Piece
binder_pieces [] = []
binder_pieces (variables i j s ∷ bs) = piece.Variables i j s ∷ binder_pieces bs
binder_pieces (hypothesis x ∷ bs) = pieces x ++ binder_pieces bs

-- a goal is its head, its binders, its conclusion and its proof
abbrev pub goal_pieces : List Goal → List Piece
goal_pieces [] = []
goal_pieces (g ∷ gs) = piece.Goal g.head g.path ∷ (binder_pieces g.binders ++ (pieces g.conclusion ++ (piece.Proof g.stored ∷ goal_pieces gs)))

-- what the pieces of a file are, where its terminals are taken so
abbrev pub ArePieces : List Taken → List Piece → Type 0
ArePieces xs ps = (ts : List Terminal) (gs : List Goal) → AreGoals ts gs → AreTaken ts xs → length xs ≡ length ts → ps ≡ goal_pieces gs
