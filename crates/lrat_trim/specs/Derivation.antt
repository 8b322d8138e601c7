-- What a log is: learnt clauses with their hints, numbered behind the given clauses.
use Rattle.std.specs.Prelude.{◌≡◌, ◌≢◌, ℕ, ◌+◌, ◌<◌, ◌≤◌, ◌^◌, Bool, true, ◌&&◌, nat_lt, List, [], ◌∷◌, length}
use Rattle.std.specs.List.{list_all}
use Rattle.sat_form.specs.Literals.{Literal}
use Rattle.sat_form.specs.Log.{Logged}

-- A log over so many given clauses; these have the ids 1 to inputs.
pub record Derivation : Type 0 where
  pub inputs : ℕ
  pub lines : List Logged

-- The id of the next line.
abbrev pub next_id : Derivation → ℕ
next_id log = log.inputs + length log.lines + 1

-- The id of a given clause or of a line before the one with this id.
abbrev pub is_earlier : ℕ → ℕ → Bool
is_earlier id h = nat_lt 0 h && nat_lt h id

abbrev pub are_earlier : ℕ → List ℕ → Bool
are_earlier id hints = list_all (is_earlier id) hints

-- The last line, and no other, is the empty clause.
abbrev pub IsFinished : List Logged → Type 0
IsFinished [] = ⊥
IsFinished (l ∷ []) = l.lits ≡ []
IsFinished (l ∷ k ∷ ls) = (l.lits ≢ []) × IsFinished (k ∷ ls)

-- A learnt clause and its hints, as they are kept: the id is the line's place.
pub record LogLine : Type 0 where
  pub lits : List Literal
  pub hints : List ℕ

-- lines as they are kept, with the ids from this one on
abbrev pub logged_from : ℕ → List LogLine → List Logged
logged_from id [] = []
logged_from id (l ∷ ls) = record { id = id; lits = l.lits; hints = l.hints } ∷ logged_from (id + 1) ls

-- the hints of each are earlier
abbrev pub hints_earlier : ℕ → List LogLine → Bool
hints_earlier id [] = true
hints_earlier id (l ∷ ls) = are_earlier id l.hints && hints_earlier (id + 1) ls

-- What the type of a log keeps.
pub record IsLog (inputs : ℕ) (lines : List LogLine) : Type 0 where
  pub inputs_fit : inputs < 2 ^ 62
  pub lines_fit : length lines ≤ 2 ^ 62
  pub earlier : hints_earlier (inputs + 1) lines ≡ true
