-- What reading, writing and checking say of one another.
use Rattle.std.specs.Prelude.{◌≡◌, ◌≤◌, ℕ, ◌++◌, true, List, length}
use Rattle.std.specs.List.{list_all, AllZip}
use Rattle.sat_form.specs.Literals.{Literal}
use Rattle.sat_form.specs.Truth.{HaveNoValues}
use Rattle.lrat_lines.specs.Lines.{Line, IsLine, Text, is_writable, line_text, written}
use Rattle.lrat_lines.specs.Judge.{Clauses, Checks, checks_from}
use Rattle.lrat_lines.specs.Replay.{Verdict, ComesTo, TextComesTo}
use Rattle.lrat_lines.specs.Replay.Verdict.{Accepted}

-- What was written reads as the line that it was written from.
abbrev pub LineReadsBack : Line → Type 0
LineReadsBack l = is_writable l ≡ true → IsLine (line_text l) l

-- A written text has the lines that it was written from.
abbrev pub TextReadsBack : List Line → Type 0
TextReadsBack ls = list_all is_writable ls ≡ true → Text (written ls) ls

-- No bytes are two lines.
abbrev pub OneReading : List ℕ → Type 0
OneReading bytes = (k l : Line) → IsLine bytes k → IsLine bytes l → k ≡ l

-- No values satisfy clauses over which lines check.
abbrev pub ChecksRefute : List (List Literal) → List Line → Type 0
ChecksRefute cs ls = Checks cs ls → HaveNoValues cs

-- Lines come to one verdict.
abbrev pub OneVerdict : Clauses → ℕ → List (List ℕ) → Type 0
OneVerdict db n lines = (v w : Verdict) → ComesTo db n lines v → ComesTo db n lines w → v ≡ w

-- Texts of lines that check are accepted, whatever follows.
abbrev pub CheckedIsAccepted : Clauses → ℕ → List (List ℕ) → List Line → Type 0
CheckedIsAccepted db n front ls = AllZip IsLine front ls → checks_from db ls ≡ true → (rest : List (List ℕ)) → ComesTo db n (front ++ rest) Accepted

-- the first lines of these texts are lines that check
abbrev pub BeginWithChecked : Clauses → List (List ℕ) → Type 0
BeginWithChecked db lines = (front : List (List ℕ)) × (rest : List (List ℕ)) × (ls : List Line) × (lines ≡ front ++ rest) × AllZip IsLine front ls × (checks_from db ls ≡ true)

-- Only these are accepted.
abbrev pub AcceptedIsChecked : Clauses → ℕ → List (List ℕ) → Type 0
AcceptedIsChecked db n lines = ComesTo db n lines Accepted → BeginWithChecked db lines

-- A whole text whose lines check is accepted.
abbrev pub CheckedTextIsAccepted : List (List Literal) → ℕ → List ℕ → List Line → Type 0
CheckedTextIsAccepted cs most text ls = length text ≤ most → Text text ls → Checks cs ls → TextComesTo cs most text Accepted
