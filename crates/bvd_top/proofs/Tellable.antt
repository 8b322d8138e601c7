-- What a command tells of a goal has words in the report.
use Rattle.std.proofs.Common.{◌⊎◌, inl, inr, ℕ, ◌≤◌, ◌<◌, ◌-◌, ◌^◌, List, length}
use Rattle.std.specs.Prelude.{Option, Result, Err, IsErrOf}
use Rattle.std.proofs.lemmas.Bool.{cases_lt}
use Rattle.bvd_host.specs.Files.{Files}
use Rattle.bv_expr.specs.Statement.{Statement}
use Rattle.bvd_words.specs.Requests.{Command, Prove, Alone, Check, Schedule, Cnf, Show}
use Rattle.lrat_lines.specs.Judge.{Cause}
use Rattle.lrat_lines.specs.Replay.{Fault, Verdict}
use Rattle.lrat_lines.specs.Replay.Fault.{Malformed, Because}
use Rattle.lrat_replay.specs.Answer.{refusal, IsAnswerOn}
use Rattle.lrat_replay.specs.declared.stop.ReplayStop.{ReplayStop}
use Rattle.lrat_replay.specs.declared.stop.ReplayStop.TheVariants.{TooLong}
use Rattle.bvd_report.specs.Report.{Told, False, Replayed}
use Rattle.bvd_report.specs.Tellable.{IsDecided, IsTellable}
use Rattle.bvd_top.specs.Answered.{IsAnswered, IsAnsweredOrFull}
use Rattle.bvd_top.specs.Checked.{IsChecked}
use Rattle.bvd_top.specs.Clauses.{IsClausesTold}
use Rattle.bvd_top.specs.Told.{IsTold}

refusal_decided : (n : ℕ) (fault : Fault) → IsDecided (Err (refusal n fault))
refusal_decided n Malformed = tt
refusal_decided n (Because Cause.IdInUse) = tt
refusal_decided n (Because (Cause.NoClause id)) = tt
refusal_decided n (Because (Cause.NotUnit id)) = tt
refusal_decided n (Because Cause.NoConflict) = tt
refusal_decided n (Because (Cause.MissingGroup id)) = tt
refusal_decided n (Because (Cause.StrangeGroup id)) = tt

undecided : (most : ℕ) (text : List ℕ) (end : Result (Unit {0}) ReplayStop) → ¬ (IsErrOf end TooLong) → IsAnswerOn most text Verdict.Undecided end → (most < length text) ⊎ (length text ≤ most) → IsDecided end
undecided most text end whole (short, long) (inl h) = absurd (whole (long h))
undecided most text end whole (short, long) (inr h) = rw (short h) tt

decided : (most : ℕ) (text : List ℕ) (verdict : Verdict) (end : Result (Unit {0}) ReplayStop) → ¬ (IsErrOf end TooLong) → IsAnswerOn most text verdict end → IsDecided end
decided most text Verdict.Accepted end whole on = rw on tt
decided most text (Verdict.Refused n fault) end whole on = rw on (refusal_decided n fault)
decided most text Verdict.Undecided end whole on = undecided most text end whole on (cases_lt most (length text))

answered_tellable : (steps : ℕ) (goal : Statement) (told : Told) → IsAnswered steps goal told → IsTellable goal.binders told
answered_tellable steps goal (False values) is = is.1
answered_tellable steps goal (Replayed end) is = absurd is
answered_tellable steps goal told is = tt

answered_or_full_tellable : (steps : ℕ) (goal : Statement) (told : Told) → IsAnsweredOrFull steps goal told → IsTellable goal.binders told
answered_or_full_tellable steps goal (False values) is = is.1
answered_or_full_tellable steps goal (Replayed end) is = absurd is
answered_or_full_tellable steps goal told is = tt

checked_tellable : (files : Option Files) (missing : Type 0) (name : List ℕ) (goal : Statement) (told : Told) → IsChecked files missing name goal told → IsTellable goal.binders told
checked_tellable files missing name goal (False values) is = absurd is
checked_tellable files missing name goal (Replayed end) is = let (verdict, comes, on) = is.1.answer in decided (2 ^ 64 - 1) is.1.bytes verdict end is.1.whole on
checked_tellable files missing name goal told is = tt

clauses_tellable : (goal : Statement) (told : Told) → IsClausesTold goal told → IsTellable goal.binders told
clauses_tellable goal (False values) is = absurd is
clauses_tellable goal (Replayed end) is = absurd is
clauses_tellable goal told is = tt

pub told_tellable : (command : Command) (steps : ℕ) (files : Option Files) (missing : Type 0) (name : List ℕ) (goal : Statement) (told : Told) → IsTold command steps files missing name goal told
    → IsTellable goal.binders told
told_tellable Prove steps files missing name goal told is = answered_tellable steps goal told is
told_tellable Alone steps files missing name goal told is = answered_tellable steps goal told is
told_tellable Check steps files missing name goal told is = checked_tellable files missing name goal told is
told_tellable Schedule steps files missing name goal told is = answered_or_full_tellable steps goal told is
told_tellable Cnf steps files missing name goal told is = clauses_tellable goal told is
told_tellable Show steps files missing name goal told is = rw is tt
