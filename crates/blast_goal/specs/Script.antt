-- The script of a goal: the calls for its gates over a plain list, in order, what the list answers, and how it ends. The
-- list keeps each different gate once, in the order in which they were first called for, and has room for 4,000,000.
use Rattle.std.specs.Prelude.{◌≤◌, ◌+◌, ℕ, true, List, [], ◌∷◌, length, Result, Ok, Err}
use Rattle.gate_shape.specs.Literal.{Literal}
use Rattle.gate_shape.specs.Edge.{Gate, gate_edge}
use Rattle.gate_shape.specs.Builds.{Meaning, Stands, NotDeep, TooDeep, NoRoom, noted_all}
use Rattle.gate_shape.specs.Listed.{holding, note_new}
use Rattle.gate_shape.specs.declared.builder.GateStop.{GateStop}
use Rattle.gate_shape.specs.declared.builder.GateStop.TheVariants.{Deep, Full}
use Rattle.bv_expr.specs.Term.{Term}
use Rattle.blast_goal.specs.Circuit.{goal_row}

-- the gates that a goal's edge makes, in order
abbrev pub goal_gates : List Term → Term → List Gate
goal_gates hyps concl = (goal_row hyps concl).gates

-- the most gates that the list has room for
abbrev pub most_kept : ℕ
most_kept = 4000000

-- the list that keeps these gates: the gate at place s is node 8193 + s
abbrev pub list_of : List Gate → Meaning
list_of kept = holding most_kept kept

-- the gates that are kept after a call for one more, and after calls for some
abbrev pub kept_with : List Gate → Gate → List Gate
kept_with kept g = note_new kept g true

abbrev pub kept_after : List Gate → List Gate → List Gate
kept_after kept gs = noted_all note_new kept gs

-- A call for a gate: its literals stand for the gate's fanins.
pub record IsCall (kept : List Gate) (g : Gate) (c : Literal × Literal) : Type 0 where
  pub left : Stands (list_of kept) c.0 g.left
  pub right : Stands (list_of kept) c.1 g.right

-- Each call is for the gate at its place, by the list of the gates before it.
abbrev pub AreCalls : List Gate → List Gate → List (Literal × Literal) → Type 0
AreCalls kept [] [] = Unit {0}
AreCalls kept (g ∷ gs) [] = Unit {0}
AreCalls kept [] (c ∷ cs) = ⊥
AreCalls kept (g ∷ gs) (c ∷ cs) = IsCall kept g c × AreCalls (kept_with kept g) gs cs

-- An answer for a gate: the gate isn't too deep, it is kept already or has room, and the literal stands for it then.
pub record IsAnswer (kept : List Gate) (g : Gate) (l : Literal) : Type 0 where
  pub shallow : NotDeep g
  pub room : length (kept_with kept g) ≤ most_kept
  pub stands : Stands (list_of (kept_with kept g)) l (gate_edge g)

-- Each answer is for the gate at its place, by the list of the gates before it.
abbrev pub AreAnswers : List Gate → List Gate → List Literal → Type 0
AreAnswers kept [] [] = Unit {0}
AreAnswers kept (g ∷ gs) [] = Unit {0}
AreAnswers kept [] (l ∷ ls) = ⊥
AreAnswers kept (g ∷ gs) (l ∷ ls) = IsAnswer kept g l × AreAnswers (kept_with kept g) gs ls

-- How it ends behind the answers: no gate is left; or the next gate would be too deep; or the list has no room for it.
abbrev pub EndsAs : List Gate → List Gate → List Literal → Result Literal GateStop → Type 0
EndsAs kept (g ∷ gs) (l ∷ ls) end = EndsAs (kept_with kept g) gs ls end
EndsAs kept [] [] (Ok root) = Unit {0}
EndsAs kept (g ∷ gs) [] (Err Deep) = TooDeep g
EndsAs kept (g ∷ gs) [] (Err Full) = NoRoom (list_of kept) g
EndsAs _ _ _ _ = ⊥

-- how many calls there are: one for each answer, and one more where it was refused
abbrev pub calls_of : ℕ → Result Literal GateStop → ℕ
calls_of answers (Ok root) = answers
calls_of answers (Err stop) = answers + 1
