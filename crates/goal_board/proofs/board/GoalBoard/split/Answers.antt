use Rattle.std.proofs.Common.{◌<◌, ◌+◌, sym, ap, ◌∙◌, subst, arith}
use Rattle.goal_board.specs.Seats.{SeatState}
use Rattle.goal_board.proofs.Cutting.{splits}
use Rattle.goal_board.proofs.board.GoalBoard.split.Goals as goal

pub split_seat-other-requires : goal.split_seat-other-requires
split_seat-other-requires c =
    let same = ap (λ s. s.board) c.seat.view_is ∙ c.requires.seat.0.0 ∙ sym (ap (λ b. b.id) c.self.view_is) in
    let n = c.self.invariant.1 in
    let wide = subst (λ (s : SeatState). s.view.low + 1 < s.view.high) (sym c.seat.view_is) c.requires.wide in
    (same, omega arith, rw c.self.invariant.0 (splits c.self.inside.size _ _ wide))
