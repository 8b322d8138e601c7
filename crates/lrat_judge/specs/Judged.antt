-- What the judge answers.
use Rattle.std.specs.Prelude.{◌≡◌, Bool, true, false, Ok, Err}
use Rattle.std.specs.declared.result.Result.{Result}
use Rattle.lrat_lines.specs.Judge as judge
use Rattle.lrat_lines.specs.Judge.{Clauses}
use Rattle.lrat_judge.specs.declared.cause.Cause.{Cause}
use Rattle.lrat_judge.specs.declared.cause.Cause.TheVariants.{IdInUse, NoClause, NotUnit, NoConflict, MissingGroup, StrangeGroup}
use Rattle.lrat_judge.specs.declared.cause.Judged.{Judged}
use Rattle.lrat_judge.specs.declared.cause.Judged.TheVariants.{Refused, Kept, Empty}

-- the code's cause, as the definition's
abbrev pub cause_shown : Cause → judge.Cause
cause_shown IdInUse = judge.Cause.IdInUse
cause_shown (NoClause id) = judge.Cause.NoClause id
cause_shown (NotUnit id) = judge.Cause.NotUnit id
cause_shown NoConflict = judge.Cause.NoConflict
cause_shown (MissingGroup id) = judge.Cause.MissingGroup id
cause_shown (StrangeGroup id) = judge.Cause.StrangeGroup id

-- What the judge answers of a line, by what the definition comes to: a line that is refused leaves the clauses, and else
-- the new ones are those of the definition.
abbrev pub IsJudged : Judged → Clauses → Clauses → Result Clauses judge.Cause → Bool → Type 0
IsJudged (Refused cause) old new verdict last = (verdict ≡ Err (cause_shown cause)) × (new ≡ old)
IsJudged Kept old new verdict last = (verdict ≡ Ok new) × (last ≡ false)
IsJudged Empty old new verdict last = (verdict ≡ Ok new) × (last ≡ true)
