-- Logs whose lines follow from the clauses before them.
use Rattle.std.specs.Prelude.{◌≡◌, ℕ, ◌+◌, true, List, [], ◌∷◌, map, length}
use Rattle.sat_form.specs.Literals.{Literal, negate}
use Rattle.sat_form.specs.Log.{Logged}
use Rattle.lrat_lines.specs.Judge.{Clauses, Checks, add_clause, given, take_hints}
use Rattle.lrat_lines.specs.Judge.Taken.{Conflict}
use Rattle.lrat_trim.specs.Derivation.{IsFinished, are_earlier}
use Rattle.lrat_trim.specs.Trim.{IsTrimmed, trim}

-- The ids rise by one from this one on, and each hint is an earlier id.
abbrev pub AreNumbered : ℕ → List Logged → Type 0
AreNumbered id [] = Unit {0}
AreNumbered id (l ∷ ls) = (l.id ≡ id) × (are_earlier id l.hints ≡ true) × AreNumbered (id + 1) ls

-- In such a log the lines that are found from the last to the first are those that the empty clause reaches.
abbrev pub TrimmedReached : Type 0
TrimmedReached = (m : ℕ) (log : List Logged) → AreNumbered (m + 1) log → IsTrimmed m log (trim m log)

-- Where the literals of a line are false, its hints lead to a conflict by unit propagation on the clauses before it.
abbrev pub AreDerived : Clauses → List Logged → Type 0
AreDerived db [] = Unit {0}
AreDerived db (l ∷ ls) = (take_hints db (map negate l.lits) l.hints ≡ Conflict) × AreDerived (add_clause db l.id l.lits) ls

-- The trimmed lines of such a log check, where it ends with the empty clause.
abbrev pub TrimmedCheck : Type 0
TrimmedCheck = (cs : List (List Literal)) (log : List Logged) → AreNumbered (length cs + 1) log → AreDerived (given cs) log → IsFinished log → Checks cs (trim (length cs) log)
