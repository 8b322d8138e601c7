use Rattle.std.proofs.Common.{sym, ap, ◌∙◌, arith}
use Rattle.goal_board.proofs.Allowed.{claim_allowed}
use Rattle.goal_board.proofs.board.GoalBoard.claim_session.Goals as goal

pub fetch_add-found-requires : goal.fetch_add-found-requires
fetch_add-found-requires c =
    let same = ap (λ s. s.board) c.seat.view_is ∙ c.requires.seat.0 ∙ sym (ap (λ b. b.id) c.self.view_is) in
    let n = c.self.invariant.1 in
    let unspent = ap (λ s. s.view.none) c.seat.view_is ∙ c.requires.more in let free = ap (λ s. s.view.holds) c.seat.view_is ∙ c.requires.free in
    (same, omega arith, rw (c.self.invariant.0, c.seat.invariant.1) (claim_allowed c.self.inside.size _ _ _ unspent free))
