-- What the builder means that records a script.
use Rattle.std.specs.Prelude.{◌≡◌, true, false, List, [], ◌∷◌, ◌++◌, length}
use Rattle.gate_shape.specs.Literal.{Literal}
use Rattle.gate_shape.specs.Edge.{Gate}
use Rattle.gate_shape.specs.Builds.{Meaning, Noting, Known, OneEach}
use Rattle.gate_shape.specs.Listed.{Listed, listed, gates_of, gate_of}
use Rattle.blast_goal.specs.Script.{most_kept, kept_with, kept_after, AreCalls, AreAnswers}

-- A plain list, the calls that it answered with its answers, and the call that it refused last.
pub record Recorded : Type 0 where
  pub list : Listed
  pub calls : List (Literal × Literal)
  pub answers : List Literal
  pub refused : Literal × Literal

-- the gates of calls, each by the list of the gates before it
unfoldable pub called : List Gate → List (Literal × Literal) → List Gate
called kept [] = []
called kept (c ∷ cs) = gate_of kept c ∷ called (kept_with kept (gate_of kept c)) cs

-- It knows what its list knows. Its trace is the gate that was refused last, and behind it the gates that were made.
abbrev pub recorded : Recorded → Meaning
recorded r = record {
  known = (listed r.list).known;
  gate_at = (listed r.list).gate_at;
  filled = (listed r.list).filled;
  trace = gate_of (gates_of r.list.pairs) r.refused ∷ called [] r.calls;
  base = r.list.limit ∷ [];
}

-- A gate that was made stands at the end, one that was refused at the front.
unfoldable pub note_call : Noting
note_call [] g ok = []
note_call (last ∷ gs) g true = last ∷ (gs ++ g ∷ [])
note_call (last ∷ gs) g false = g ∷ gs

-- what a recorder keeps: its list has the gates of its calls, the calls and the answers are of these gates, and the call
-- that was refused names known literals
pub record IsRecorded (list : Listed) (calls : List (Literal × Literal)) (answers : List Literal) (refused : Literal × Literal) : Type 0 where
  pub limit : list.limit ≡ most_kept
  pub once : OneEach (listed list)
  pub kept : gates_of list.pairs ≡ kept_after [] (called [] calls)
  pub calls_right : AreCalls [] (called [] calls) calls
  pub answers_right : AreAnswers [] (called [] calls) answers
  pub as_many : length answers ≡ length calls
  pub left_known : Known (listed list) refused.0
  pub right_known : Known (listed list) refused.1
