-- How much a replay takes behind the line of the empty clause.
use Rattle.std.specs.Prelude.{◌≡◌, ◌⊎◌, ℕ, ◌+◌, List, [], ◌∷◌, ◌++◌, length, Option, Some}
use Rattle.sat_form.specs.Literals.{Literal}
use Rattle.lrat_lines.specs.Lines.{Line, Text}
use Rattle.lrat_lines.specs.Judge.{Checks}
use Rattle.lrat_replay.specs.Taken.{TookAtMost}

-- The bytes are lines that check, of which the last one adds the empty clause, and none before it.
abbrev pub IsProof : List (List Literal) → List ℕ → Type 0
IsProof cs bytes = (ls : List Line) × (last : Line) × Text bytes (ls ++ last ∷ []) × Checks cs (ls ++ last ∷ []) × ¬ (Checks cs ls)

-- A line ends with the bytes: their last one is LF, or nothing follows them.
abbrev pub EndWithLine : List ℕ → List ℕ → Type 0
EndWithLine bytes behind = ((line : List ℕ) × (bytes ≡ line ++ 10 ∷ [])) ⊎ (behind ≡ [])

-- The text begins with a proof, and at most so many bytes behind it were taken, as what is left now tells.
abbrev pub TookBehindProof : ℕ → List (List Literal) → List ℕ → Option (List ℕ) → Type 0
TookBehindProof most cs text left = (proof : List ℕ) × (behind : List ℕ) × (text ≡ proof ++ behind) × IsProof cs proof × EndWithLine proof behind × TookAtMost (Some text) left (length proof + most)
