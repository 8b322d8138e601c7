-- An end is written where a call that ends a goal is answered Ok.
use Rattle.std.proofs.Common.{◌≡◌, ℕ, zero, suc, ◌-◌, ◌<◌, ◌==◌, Bool, true, false, true≢false, nat_lt, if◌then◌else◌, Result, OnOk, ap, ◌∙◌, arith}
use Rattle.goal_board.specs.declared.view.BoardView.{BoardView}
use Rattle.goal_board.specs.declared.answers.GoalState.{GoalState}
use Rattle.goal_board.specs.declared.answers.GoalState.TheVariants.{Unended, Ended, Cancelled}
use Rattle.goal_board.specs.declared.answers.FinishStop.{FinishStop}
use Rattle.goal_board.specs.Words.{word_at, left_there}
use Rattle.goal_board.specs.Views.{told}
use Rattle.goal_board.specs.Plays.{Tells}
use Rattle.goal_board.specs.Answers.{verdict_of, state_of, finish_answer, cancel_answer}
use Rattle.goal_board.proofs.Ending.{put_here}

written : (v w : BoardView) (g word : ℕ) → 0 < word → w ≡ told v g 0 word → word_at w.finals g ≡ word
written v w g zero l e = absurd (omega arith)
written v w g (suc word) l e = ap (λ (u : BoardView). word_at u.finals g) e ∙ put_here v.finals g (suc word)

some : (n : ℕ) → (suc n == 0) ≡ false
some n = grind arith

pub finish_won : (v w : BoardView) (g found word : ℕ) (r : Result (Unit {0}) FinishStop) → r ≡ finish_answer (state_of found) → 0 < word
    → Tells v g found (left_there found word) w → OnOk r (word_at w.finals g ≡ word)
finish_won v w g zero word r e l t = rw e (written v w g word l t.0)
finish_won v w g (suc found) word r e l t = rw e (lost (suc found == 0) (nat_lt (suc found) 5) (some found))
  where
    lost : (a b : Bool) → a ≡ false
        → OnOk (finish_answer (if a then Unended else if b then Ended (verdict_of (suc found)) else Cancelled (suc found - 5)))
        (word_at w.finals g ≡ word)
    lost true b h = absurd (true≢false h)
    lost false true h = tt
    lost false false h = tt

pub cancel_won : (v w : BoardView) (g found word : ℕ) (r : Result (Unit {0}) GoalState) → r ≡ cancel_answer (state_of found) → 0 < word
    → Tells v g found (left_there found word) w → OnOk r (word_at w.finals g ≡ word)
cancel_won v w g zero word r e l t = rw e (written v w g word l t.0)
cancel_won v w g (suc found) word r e l t = rw e (lost (suc found == 0) (nat_lt (suc found) 5) (some found))
  where
    lost : (a b : Bool) → a ≡ false
        → OnOk (cancel_answer (if a then Unended else if b then Ended (verdict_of (suc found)) else Cancelled (suc found - 5)))
        (word_at w.finals g ≡ word)
    lost true b h = absurd (true≢false h)
    lost false true h = tt
    lost false false h = tt
