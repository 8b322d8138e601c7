-- Goal words as answers, and what the calls answer where they found this.
use Rattle.std.specs.Prelude.{ℕ, ◌-◌, count_ones, ◌==◌, nat_lt, if◌then◌else◌, Result, Ok, Err, Option, Some, None}
use Rattle.goal_board.specs.declared.answers.Verdict.{Verdict}
use Rattle.goal_board.specs.declared.answers.Verdict.TheVariants.{Proved, False, Budget, Stopped}
use Rattle.goal_board.specs.declared.answers.GoalState.{GoalState}
use Rattle.goal_board.specs.declared.answers.GoalState.TheVariants.{Unended, Ended, Cancelled}
use Rattle.goal_board.specs.declared.answers.FinishStop.{FinishStop}
use Rattle.goal_board.specs.declared.answers.FinishStop.TheVariants as stop

abbrev pub word_of : Verdict → ℕ
word_of Proved = 1
word_of False = 2
word_of Budget = 3
word_of Stopped = 4

-- the verdict of a word from 1 to 4
abbrev pub verdict_of : ℕ → Verdict
verdict_of w =
    if w == 1 then Proved
    else if w == 2 then False
    else if w == 3 then Budget
    else Stopped

abbrev pub state_of : ℕ → GoalState
state_of w =
    if w == 0 then Unended
    else if nat_lt w 5 then Ended (verdict_of w)
    else Cancelled (w - 5)

abbrev pub finish_answer : GoalState → Result (Unit {0}) FinishStop
finish_answer Unended = Ok tt
finish_answer (Ended v) = Err (stop.Ended v)
finish_answer (Cancelled c) = Err (stop.Cancelled c)

abbrev pub cancel_answer : GoalState → Result (Unit {0}) GoalState
cancel_answer Unended = Ok tt
cancel_answer (Ended v) = Err (Ended v)
cancel_answer (Cancelled c) = Err (Cancelled c)

-- of a claim, by the number of sessions and the count found
abbrev pub claim_answer : ℕ → ℕ → Option ℕ
claim_answer sessions found = if nat_lt found sessions then Some found else None

-- how many of the sessions are not in the set found
abbrev pub open_answer : ℕ → ℕ → ℕ
open_answer sessions found = sessions - count_ones found
