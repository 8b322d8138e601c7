use Rattle.std.proofs.Common.{◌<◌, ◌+◌, sym, ap, ◌∙◌, subst, arith, inr}
use Rattle.goal_board.specs.Words.{word_at, left_there}
use Rattle.goal_board.specs.Views.{Stays}
use Rattle.goal_board.specs.Plays.{Tells}
use Rattle.goal_board.specs.Seats.{BoardState, SeatState}
use Rattle.goal_board.proofs.Allowed.{end_allowed, stays, left_is}
use Rattle.goal_board.proofs.Answering.{cancel_won}
use Rattle.goal_board.proofs.board.GoalBoard.cancel.Goals as goal

pub compare_exchange-found-requires : goal.compare_exchange-found-requires
compare_exchange-found-requires c =
    let same = ap (λ s. s.board) c.seat.view_is ∙ c.requires.seat.0 ∙ sym (ap (λ b. b.id) c.self.view_is) in
    let lt : c.args.goal < c.self.inside.size.goals = subst (λ (b : BoardState). c.args.goal < b.goals) (sym c.self.view_is) c.requires.goal in
    let n = c.self.invariant.1 in
    let seen = ap (λ s. word_at s.view.finals c.args.by) c.seat.view_is ∙ c.requires.seen in (
      same,
      omega arith,
      rw (c.self.invariant.0, c.seat.invariant.1) (end_allowed c.self.inside.size _ _ _ _ _ lt
          (inr (c.args.by, ap (λ x. 5 + x) c.from-cancelled.ensures, c.requires.other, seen))),
    )

pub returns-clause-stays : goal.returns-clause-stays
returns-clause-stays c =
    subst (λ (s : SeatState). Stays s.view c.compare_exchange-found.new.seat.me.0) c.seat.view_is
    (stays c.seat.inside.seat.me.0 _ _ _ _ (left_is _ _) c.compare_exchange-found.ensures.2.0)

pub returns-clause-won : goal.returns-clause-won
returns-clause-won c =
    let found = c.compare_exchange-found.result in
    let told = subst
    (λ x. Tells c.seat.inside.seat.me.0 c.args.goal found (left_there found (5 + x)) c.compare_exchange-found.new.seat.me.0)
    c.from-cancelled.ensures c.compare_exchange-found.ensures.2.0 in
    cancel_won c.seat.inside.seat.me.0 _ c.args.goal found (5 + c.args.by) _ (rw (sym c.state_of.ensures) c.cancel_answer.ensures) (omega arith) told
