use Rattle.std.proofs.Common.{sym, ap, ◌∙◌, arith}
use Rattle.goal_board.proofs.Allowed.{count_allowed}
use Rattle.goal_board.proofs.board.GoalBoard.open_sessions.Goals as goal

pub load-found-requires : goal.load-found-requires
load-found-requires c =
    let same = ap (λ s. s.board) c.seat.view_is ∙ c.requires.seat.0 ∙ sym (ap (λ b. b.id) c.self.view_is) in
    let n = c.self.invariant.1 in
    (same, omega arith, rw (c.self.invariant.0, c.seat.invariant.1) (count_allowed c.self.inside.size _ _ _))
