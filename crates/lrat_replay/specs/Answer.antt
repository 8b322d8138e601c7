-- The answers of `replay`.
use Rattle.std.specs.Prelude.{◌≡◌, ℕ, ◌<◌, ◌≤◌, List, length, Result, Ok, Err}
use Rattle.sat_form.specs.Literals.{Literal}
use Rattle.lrat_lines.specs.Judge.Cause.{IdInUse as LineIdInUse, NoClause as LineNoClause, NotUnit as LineNotUnit, NoConflict as LineNoConflict, MissingGroup as LineMissingGroup, StrangeGroup as LineStrangeGroup}
use Rattle.lrat_lines.specs.Replay.{Fault, Verdict, TextComesTo}
use Rattle.lrat_lines.specs.Replay.Fault.{Malformed, Because}
use Rattle.lrat_lines.specs.Replay.Verdict.{Accepted, Refused, Undecided}
use Rattle.lrat_replay.specs.declared.stop.ReplayStop.{ReplayStop}
use Rattle.lrat_replay.specs.declared.stop.ReplayStop.TheVariants.{Bad, IdInUse, NoClause, NotUnit, NoConflict, MissingGroup, StrangeGroup, NoEmpty, TooLong, ReadFault, Memory}

-- the refusal of a line
abbrev pub refusal : ℕ → Fault → ReplayStop
refusal n Malformed = Bad n
refusal n (Because LineIdInUse) = IdInUse n
refusal n (Because (LineNoClause id)) = NoClause n id
refusal n (Because (LineNotUnit id)) = NotUnit n id
refusal n (Because LineNoConflict) = NoConflict n
refusal n (Because (LineMissingGroup id)) = MissingGroup n id
refusal n (Because (LineStrangeGroup id)) = StrangeGroup n id

-- what is answered on a verdict, where so many bytes of the text may be taken
abbrev pub IsAnswerOn : ℕ → List ℕ → Verdict → Result (Unit {0}) ReplayStop → Type 0
IsAnswerOn most text Accepted r = r ≡ Ok tt
IsAnswerOn most text (Refused n fault) r = r ≡ Err (refusal n fault)
IsAnswerOn most text Undecided r = (length text ≤ most → r ≡ Err NoEmpty) × (most < length text → r ≡ Err TooLong)

-- the answer on a text
abbrev pub IsAnswer : List (List Literal) → ℕ → List ℕ → Result (Unit {0}) ReplayStop → Type 0
IsAnswer cs most text r = (v : Verdict) × TextComesTo cs most text v × IsAnswerOn most text v r

-- the text decides every answer but want of memory and a read that failed
abbrev pub Answers : List (List Literal) → ℕ → List ℕ → Result (Unit {0}) ReplayStop → Type 0
Answers cs most text (Err ReadFault) = Unit {0}
Answers cs most text (Err (Memory e)) = Unit {0}
Answers cs most text r = IsAnswer cs most text r

-- every answer but these two
abbrev pub IsFromText : Result (Unit {0}) ReplayStop → Type 0
IsFromText (Err ReadFault) = ⊥
IsFromText (Err (Memory e)) = ⊥
IsFromText r = Unit {0}
