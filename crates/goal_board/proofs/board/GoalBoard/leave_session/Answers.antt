use Rattle.std.proofs.Common.{◌≡◌, ◌<◌, ◌*◌, ◌%◌, ◌^◌, ℕ, sym, ap, ◌∙◌, arith}
use Rattle.std.proofs.Math.Pow.{shl_exact}
use Rattle.goal_board.proofs.Allowed.{leave_allowed}
use Rattle.goal_board.proofs.board.GoalBoard.leave_session.Goals as goal

bit : (s : ℕ) → s < 64 → (1 * 2 ^ s) % 18446744073709551616 ≡ 2 ^ s
bit s h = shl_exact {a = 1} 1 s 64 (omega arith) (omega arith) ∙ (omega arith)

pub fetch_or-requires : goal.fetch_or-requires
fetch_or-requires c =
    let same = ap (λ s. s.board) c.seat.view_is ∙ c.requires.seat.0 ∙ sym (ap (λ b. b.id) c.self.view_is) in
    let n = c.self.invariant.1 in
    let holds = ap (λ s. s.view.holds) c.seat.view_is ∙ c.requires.held in let first = c.seat.invariant.0 holds in (
      same,
      omega arith,
      rw (c.self.invariant.0, c.seat.invariant.1, bit c.seat.inside.session first.1)
          (leave_allowed c.self.inside.size _ _ _ _ holds first.0),
    )
