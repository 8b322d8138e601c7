-- A trimming under way: the lines of a log are passed in their order, and those that are marked are written.
use Rattle.std.specs.Prelude.{◌≡◌, ℕ, ◌+◌, ◌<◌, ◌≤◌, Bool, true, get_or, length, List, ◌++◌, drop, map}
use Rattle.std.specs.List.{list_all}
use Rattle.sat_form.specs.Log.{Logged}
use Rattle.lrat_lines.specs.Lines.{Line, is_id, is_writable, written}
use Rattle.lrat_trim.specs.Derivation.{IsLog, LogLine, logged_from}
use Rattle.lrat_trim.specs.Marks.{AreClosed, marked_from, marks_in}
use Rattle.lrat_trim.specs.Trim.{renumbered}

-- the lines from a place on, with their ids
abbrev pub rest_from : ℕ → List LogLine → ℕ → List Logged
rest_from m lines at = logged_from (m + 1 + at) (drop at lines)

-- the marked lines
abbrev pub all_marked : ℕ → List LogLine → List Bool → List Logged
all_marked m lines marks = marked_from marks 0 (logged_from (m + 1) lines)

-- the marked lines from a place on, with new ids
abbrev pub lines_left : ℕ → List LogLine → List Bool → ℕ → List Line
lines_left m lines marks at = map (renumbered m (all_marked m lines marks)) (marked_from marks at (rest_from m lines at))

-- What is left to be done: the lines that are to be written, and how many lines of the log are to be passed.
pub record Left : Type 0 where
  pub lines : List Line
  pub places : ℕ

-- Up to a place the lines have these new ids, and the marked ones of them are new lines.
pub record IsRenumbered (m : ℕ) (marks : List Bool) (kept : List Logged) (at : ℕ) (rest : List Logged) (ids : List ℕ) (new : List Line) : Type 0 where
  pub size : length ids ≡ at
  pub moved : (j : ℕ) → j < at → get_or ids j 0 ≡ m + 1 + marks_in marks 0 j
  pub count : length new ≡ marks_in marks 0 at
  pub lines : new ++ map (renumbered m kept) (marked_from marks at rest) ≡ map (renumbered m kept) kept
  pub closed : AreClosed marks m at rest

-- What the type of a trimming keeps: the new ids of the lines that were passed, and the next one.
pub record IsPassing (m : ℕ) (lines : List LogLine) (marks : List Bool) (ids : List ℕ) (id : ℕ) : Type 0 where
  pub log : IsLog m lines
  pub size : length marks ≡ length lines
  pub within : length ids ≤ length lines
  pub new : List Line
  pub stands : IsRenumbered m marks (all_marked m lines marks) (length ids) (rest_from m lines (length ids)) ids new
  pub id_is : id ≡ m + length new + 1
  pub fits : list_all is_id ids ≡ true

-- The first of the lines that were left are written, and the others are left.
abbrev pub Writes : List Line → List Line → List ℕ → List ℕ → Type 0
Writes old new before behind = (first : List Line) × (old ≡ first ++ new) × (behind ≡ before ++ written first) × (list_all is_writable first ≡ true)
