-- Theorem files as they are written, as trees. A place is a number of terminals before it in the file.
use Rattle.std.specs.Prelude.{ℕ, List, Option}
use Rattle.bv_grammar.specs.declared.words.Word.{Word}
use Rattle.bv_trees.specs.declared.pieces.Sort.{Sort}

-- A term, with the places of its names, numerals, words and methods. Brackets only group.
mutual
  pub data Tree : Type 0 where
    name : ℕ → Tree
    numeral : ℕ → Tree
    -- a number, and its width
    literal : ℕ → ℕ → Tree
    constant : Word → ℕ → Tree
    prefix : Word → ℕ → Tree → Tree
    infix_ : Word → ℕ → Tree → Tree → Tree
    -- if, then, else
    choice : ℕ → Tree → Tree → Tree → Tree
    -- a method of a term, and its arguments
    method : ℕ → Tree → Trees → Tree
    -- a term in brackets with its sort, at the colon
    ascribed : ℕ → Tree → Sort → Tree

  -- arguments, in order
  pub data Trees : Type 0 where
    no_more : Trees
    and : Tree → Trees → Trees

-- what a binder binds: variables of a sort, whose names stand from the first place up to the second, or a hypothesis
pub data Binder : Type 0 where
  variables : ℕ → ℕ → Sort → Binder
  hypothesis : Tree → Binder

-- A goal: the place of its head word, behind which its name stands up to `path` (an example has none); its binders, its
-- conclusion, and the string behind `bv_check`.
pub record Goal : Type 0 where
  pub head : ℕ
  pub path : ℕ
  pub binders : List Binder
  pub conclusion : Tree
  pub stored : Option ℕ
