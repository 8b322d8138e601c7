-- The depth of terms.
use Rattle.std.specs.Prelude.{ℕ, ◌+◌, max}
use Rattle.bv_grammar.specs.declared.words.Word.{Word}
use Rattle.bv_grammar.specs.declared.words.Word.TheVariants as words
use Rattle.bv_trees.specs.Trees.{Tree, Trees, name, numeral, literal, constant, prefix, infix_, choice, method, ascribed, no_more, and}

-- what an infix operator adds to the depth of its deeper part: `≠` and `!=` are a negation too
abbrev pub added : Word → ℕ
added words.NotEqual = 2
added words.BoolNotEqual = 2
added _ = 1

-- the depth of a term: brackets and sorts add nothing
abbrev mutual
  pub depth : Tree → ℕ
  depth (name i) = 1
  depth (numeral i) = 1
  depth (literal i w) = 1
  depth (constant c i) = 1
  depth (prefix o i x) = depth x + 1
  depth (infix_ o i x y) = max (depth x) (depth y) + added o
  depth (choice i x y z) = max (depth x) (max (depth y) (depth z)) + 1
  depth (method i x xs) = max (depth x) (depths xs) + 1
  depth (ascribed i x s) = depth x

  pub depths : Trees → ℕ
  depths no_more = 0
  depths (and x xs) = max (depth x) (depths xs)
