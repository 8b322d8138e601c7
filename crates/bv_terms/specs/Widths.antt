-- At which width each piece of a tree is read.
use Rattle.std.specs.Prelude.{ℕ, zero, suc, List, [], ◌∷◌, ◌++◌}
use Rattle.bv_trees.specs.declared.pieces.Piece.{Piece}
use Rattle.bv_trees.specs.declared.pieces.Piece.TheVariants as piece
use Rattle.bv_trees.specs.Trees.{Tree, Trees, name, numeral, literal, prefix, infix_, method, ascribed, no_more, and}
use Rattle.bv_trees.specs.Trees as trees
use Rattle.bv_typing.specs.declared.note.Note.{Note}
use Rattle.bv_typing.specs.Stacks.{top, below}
use Rattle.bv_typing.specs.Variables.{sort_at}
use Rattle.bv_typing.specs.Readings.{Env, kind_of, method_at, told_or, right_width, infix_width, either, width_in, width_for, width_of_sort}

-- the widths of a tree's pieces, in order, where it is read at a width
abbrev mutual
  pub widths : Env → ℕ → Tree → List ℕ
  widths e w (name i) = w ∷ []
  widths e w (numeral i) = w ∷ []
  widths e w (literal i j) = w ∷ []
  widths e w (trees.constant c i) = w ∷ []
  widths e w (prefix o i x) = widths e w x ++ w ∷ []
  widths e w (infix_ o i x y) =
      widths e (told_or w (infix_width o (kind_of e x) (kind_of e y))) x
      ++ (widths e (right_width o (told_or w (infix_width o (kind_of e x) (kind_of e y)))) y ++ w ∷ [])
  widths e w (trees.choice i x y z) =
      widths e w x ++ (widths e (told_or w (either (width_in (kind_of e y)) (width_in (kind_of e z)))) y
      ++ (widths e (told_or w (either (width_in (kind_of e y)) (width_in (kind_of e z)))) z ++ w ∷ []))
  widths e w (method i x xs) = widths e w x ++ (w ∷ (all_widths e (told_or w (width_for (method_at e i) (kind_of e x))) xs ++ w ∷ []))
  widths e w (ascribed i x s) = widths e (told_or w (width_of_sort (sort_at e.source s))) x ++ w ∷ []

  pub all_widths : Env → ℕ → Trees → List ℕ
  all_widths e w no_more = []
  all_widths e w (and x xs) = widths e w x ++ all_widths e w xs

-- ---- how they are found: from the last piece to the first, with a stack of the widths that are told

-- so many times one width on a stack
abbrev pub many : ℕ → ℕ → List ℕ → List ℕ
many zero w ws = ws
many (suc n) w ws = many n w (w ∷ ws)

-- what a piece that is read at a width tells its parts, the last part's width topmost
abbrev pub tell : Piece → Note → ℕ → List ℕ → List ℕ
tell (piece.Prefix o i) n w ws = w ∷ ws
tell (piece.Infix o i) n w ws = right_width o (told_or w n.width) ∷ told_or w n.width ∷ ws
tell (piece.Choice i) n w ws = told_or w n.width ∷ told_or w n.width ∷ w ∷ ws
tell (piece.Call i) n w ws = w ∷ ws
tell (piece.Method i) n w ws = many n.arguments (told_or w n.width) (w ∷ ws)
tell (piece.Ascribed i s) n w ws = told_or w n.width ∷ ws
tell _ n w ws = ws

-- what is told before these pieces
abbrev pub told : List Piece → List Note → List ℕ → List ℕ
told [] ns ws = ws
told (p ∷ ps) [] ws = ws
told (p ∷ ps) (n ∷ ns) ws = tell p n (top (told ps ns ws)) (below (told ps ns ws))

-- the widths of these pieces
abbrev pub found : List Piece → List Note → List ℕ → List ℕ
found [] ns ws = []
found (p ∷ ps) [] ws = []
found (p ∷ ps) (n ∷ ns) ws = top (told ps ns ws) ∷ found ps ns ws
