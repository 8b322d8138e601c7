-- Where the text has brought a replay, for every text that may follow; cited by private contracts alone.
use Rattle.std.specs.Prelude.{◌≡◌, ◌≤◌, ◌⊎◌, ⊤, ℕ, ◌+◌, List, [], ◌++◌, length, Option, None, Some}
use Rattle.lrat_lines.specs.Replay.{Verdict}
use Rattle.lrat_lines.specs.Replay.Verdict.{Accepted}
use Rattle.lrat_replay.specs.Standing.{WillComeTo}
use Rattle.lrat_replay.specs.declared.progress.Progress.{Progress}

-- these bytes lead from one standing to the next
abbrev pub GoesOn : Progress → List ℕ → Progress → Type 0
GoesOn p bytes q = (most : ℕ) (rest : List ℕ) (v : Verdict) → WillComeTo q most rest v → WillComeTo p (length bytes + most) (bytes ++ rest) v

-- these bytes accept, whatever follows
abbrev pub Accepts : Progress → List ℕ → Type 0
Accepts p bytes = (most : ℕ) (rest : List ℕ) → WillComeTo p (length bytes + most) (bytes ++ rest) Accepted

-- these bytes accept, or the end of the text does
abbrev pub IsAccepting : Progress → List ℕ → List ℕ → Type 0
IsAccepting p bytes behind = Accepts p bytes ⊎ ((bytes ≡ []) × (behind ≡ []) × (most : ℕ) × WillComeTo p most [] Accepted)

-- where what is left is told, what was taken leads from one standing to the next
abbrev pub Passes : Option (List ℕ) → Option (List ℕ) → Progress → Progress → Type 0
Passes None None p q = ⊤
Passes (Some text) (Some rest) p q = (front : List ℕ) × (text ≡ front ++ rest) × GoesOn p front q
Passes None (Some rest) p q = ⊥
Passes (Some text) None p q = ⊥

-- where what is left is told, a piece of at most so many bytes was taken, and it accepts
abbrev pub Stops : ℕ → Option (List ℕ) → Option (List ℕ) → Progress → Type 0
Stops most None None p = ⊤
Stops most (Some text) (Some rest) p = (piece : List ℕ) × (text ≡ piece ++ rest) × (length piece ≤ most) × IsAccepting p piece rest
Stops most None (Some rest) p = ⊥
Stops most (Some text) None p = ⊥

-- the last piece that was taken, which has at most so many bytes, accepts
abbrev pub StopsAtLast : ℕ → Option (List ℕ) → Option (List ℕ) → Progress → Type 0
StopsAtLast most old new p = (between : Option (List ℕ)) × (q : Progress) × Passes old between p q × Stops most between new q
