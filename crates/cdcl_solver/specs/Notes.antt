-- What a step puts into the log.
use Rattle.std.specs.Prelude.{◌≡◌, ◌<◌, ◌^◌, true, List, [], ◌∷◌, ◌++◌, length, Some, None}
use Rattle.std.specs.declared.option.Option.{Option}
use Rattle.sat_form.specs.Log.{Logged}
use Rattle.search_learn.specs.Analysis.{Lesson}
use Rattle.lrat_trim.specs.Derivation.{Derivation, next_id, are_earlier}

-- The log has room for a lesson, and its hints are earlier ids.
abbrev pub MayNote : Derivation → Option Lesson → Type 0
MayNote log None = Unit {0}
MayNote log (Some s) = (length log.lines < 2 ^ 62) × (are_earlier (next_id log) s.hints ≡ true)

abbrev pub lines_with : Derivation → Option Lesson → List Logged
lines_with log None = log.lines
lines_with log (Some s) = log.lines ++ record { id = next_id log; lits = s.lits; hints = s.hints } ∷ []

-- The log with the lesson, if there is one.
abbrev pub noted : Derivation → Option Lesson → Derivation
noted log lesson = record log { lines = lines_with log lesson }
