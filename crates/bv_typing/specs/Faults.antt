-- How the fault of a file's types is found from the pieces of its goals.
use Rattle.std.specs.Prelude.{ℕ, suc, Bool, true, false, if◌then◌else◌, List, [], ◌∷◌, Option, flat_map, map}
use Rattle.bv_trees.specs.declared.pieces.Piece.{Piece}
use Rattle.bv_trees.specs.declared.pieces.Piece.TheVariants as piece
use Rattle.bv_typing.specs.declared.misfit.Misfit.{Misfit}
use Rattle.bv_typing.specs.declared.variables.Binding.{Binding}
use Rattle.bv_typing.specs.Source.{Source}
use Rattle.bv_typing.specs.Variables.{named, piece_bindings}
use Rattle.bv_typing.specs.Goals.{bound_misfits, least}
use Rattle.bv_typing.specs.Earliest.{also}
use Rattle.bv_typing.specs.Judging.{env_at, judge_all, start, least_of}

abbrev pub is_end : Piece → Bool
is_end (piece.Proof s) = true
is_end _ = false

-- the number of pieces up to the end of the first goal
abbrev pub goal_end : List Piece → ℕ
goal_end [] = 0
goal_end (p ∷ ps) = if is_end p then 1 else suc (goal_end ps)

-- the names that are bound in a goal
abbrev pub bindings_in : Source → List Piece → List Binding
bindings_in s ps = flat_map (piece_bindings s) ps

-- the least fault of a goal
abbrev pub goal_misfit : Source → List Piece → Option Misfit
goal_misfit s ps = also (least (bound_misfits [] (map (named s) (bindings_in s ps)))) (least_of (judge_all (env_at s (bindings_in s ps)) ps start))
