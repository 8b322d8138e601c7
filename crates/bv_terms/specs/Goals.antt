-- The pieces of goals, and what their tokens spell.
use Rattle.std.specs.Prelude.{◌≡◌, ℕ, List, [], ◌∷◌, IsUtf8, length, map}
use Rattle.bv_trees.specs.declared.pieces.Piece.{Piece}
use Rattle.bv_trees.specs.Codes.{goal_pieces}
use Rattle.bv_trees.specs.Trees.{Goal}
use Rattle.bv_expr.specs.Term.{Term}
use Rattle.bv_typing.specs.declared.item.Item.{Item}
use Rattle.bv_typing.specs.declared.item.Item.TheVariants.{Made}
use Rattle.bv_typing.specs.declared.judging.Judgement.{Judgement}
use Rattle.bv_typing.specs.Source.{Source, text_at, quoted_at}
use Rattle.bv_typing.specs.Goals.{goal_misfits}
use Rattle.bv_typing.specs.Faults.{bindings_in}
use Rattle.bv_typing.specs.Notes.{goal_notes}

-- the pieces of goals
abbrev pub AreOfGoals : List Piece → Type 0
AreOfGoals ps = (gs : List Goal) × (ps ≡ goal_pieces gs)

-- those of one goal
abbrev pub AreOfGoal : List Piece → Type 0
AreOfGoal ps = (g : Goal) × (ps ≡ goal_pieces (g ∷ []))

-- those of one goal, whose types fit
pub record AreOfTyped (s : Source) (ps : List Piece) : Type 0 where
  pub goal : AreOfGoal ps
  pub fit : (g : Goal) → ps ≡ goal_pieces (g ∷ []) → goal_misfits s g ≡ []

-- what the tokens spell is text, and what stands between the quotes of strings
pub record AreTexts (s : Source) : Type 0 where
  pub spelled : (i : ℕ) → IsUtf8 (text_at s i)
  pub quoted : (i : ℕ) → IsUtf8 (quoted_at s i)

-- the pieces of a goal bind these names and note this
pub record IsJudged (s : Source) (ps : List Piece) (j : Judgement) : Type 0 where
  pub bindings : j.bindings.items ≡ bindings_in s ps
  pub noted : length j.notes.items ≡ length ps
  pub notes : (g : Goal) → ps ≡ goal_pieces (g ∷ []) → j.notes.items ≡ goal_notes s g

-- items that are terms
abbrev pub made : List Term → List Item
made ts = map Made ts
