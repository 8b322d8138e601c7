use Rattle.std.proofs.Common.{◌<◌, sym, refl, ap, ◌∙◌, subst, arith, inl}
use Rattle.goal_board.specs.Views.{Stays}
use Rattle.goal_board.specs.Seats.{BoardState, SeatState}
use Rattle.goal_board.proofs.Allowed.{look_allowed, stays}
use Rattle.goal_board.proofs.board.GoalBoard.look.Goals as goal

pub load-word-requires : goal.load-word-requires
load-word-requires c =
    let same = ap (λ s. s.board) c.seat.view_is ∙ c.requires.seat.0 ∙ sym (ap (λ b. b.id) c.self.view_is) in
    let lt : c.args.goal < c.self.inside.size.goals = subst (λ (b : BoardState). c.args.goal < b.goals) (sym c.self.view_is) c.requires.goal in
    let n = c.self.invariant.1 in
    (same, omega arith, rw (c.self.invariant.0, c.seat.invariant.1) (look_allowed c.self.inside.size _ _ _ _ lt))

pub returns-clause-stays : goal.returns-clause-stays
returns-clause-stays c =
    subst (λ (s : SeatState). Stays s.view c.load-word.new.seat.me.0) c.seat.view_is
    (stays c.seat.inside.seat.me.0 _ _ _ _ (inl refl) c.load-word.ensures.2.0)
