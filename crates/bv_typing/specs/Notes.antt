-- What each piece of a tree tells its parts, in the order of the pieces.
use Rattle.std.specs.Prelude.{ℕ, suc, List, [], ◌∷◌, ◌++◌, Option, None}
use Rattle.bv_trees.specs.Trees.{Tree, Trees, name, numeral, literal, prefix, infix_, method, ascribed, no_more, and, Binder, variables, hypothesis, Goal}
use Rattle.bv_trees.specs.Trees as trees
use Rattle.bv_typing.specs.declared.note.Note.{Note}
use Rattle.bv_typing.specs.Source.{Source}
use Rattle.bv_typing.specs.Variables.{sort_at}
use Rattle.bv_typing.specs.Readings.{Env, kind_of, method_at, infix_width, either, width_in, width_for, width_of_sort}
use Rattle.bv_typing.specs.Goals.{env_of}

abbrev pub nothing : Note
nothing = record { width = None; arguments = 0 }

abbrev pub tells : Option ℕ → Note
tells w = record { width = w; arguments = 0 }

abbrev pub number_of : Trees → ℕ
number_of no_more = 0
number_of (and x xs) = suc (number_of xs)

abbrev mutual
  pub notes : Env → Tree → List Note
  notes e (name i) = nothing ∷ []
  notes e (numeral i) = nothing ∷ []
  notes e (literal i w) = nothing ∷ []
  notes e (trees.constant c i) = nothing ∷ []
  notes e (prefix o i x) = notes e x ++ nothing ∷ []
  notes e (infix_ o i x y) = notes e x ++ (notes e y ++ tells (infix_width o (kind_of e x) (kind_of e y)) ∷ [])
  notes e (trees.choice i x y z) = notes e x ++ (notes e y ++ (notes e z ++ tells (either (width_in (kind_of e y)) (width_in (kind_of e z))) ∷ []))
  -- `Call`, the arguments, and the method
  notes e (method i x xs) = notes e x ++ (nothing ∷ (all_notes e xs ++ record { width = width_for (method_at e i) (kind_of e x); arguments = number_of xs } ∷ []))
  notes e (ascribed i x s) = notes e x ++ tells (width_of_sort (sort_at e.source s)) ∷ []

  pub all_notes : Env → Trees → List Note
  all_notes e no_more = []
  all_notes e (and x xs) = notes e x ++ all_notes e xs

-- those of the binders of a goal
abbrev pub binder_notes : Env → List Binder → List Note
binder_notes e [] = []
binder_notes e (variables i j s ∷ bs) = nothing ∷ binder_notes e bs
binder_notes e (hypothesis x ∷ bs) = notes e x ++ binder_notes e bs

-- those of a goal: of its head, its binders, its conclusion and its proof
abbrev pub goal_notes : Source → Goal → List Note
goal_notes s g = nothing ∷ (binder_notes (env_of s g) g.binders ++ (notes (env_of s g) g.conclusion ++ nothing ∷ []))
