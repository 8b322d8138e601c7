use Rattle.std.proofs.Common.{◌≡◌, ◌+◌, All, vec_len}
use Rattle.goal_board.specs.Seats.{IsNewSeat}
use Rattle.goal_board.proofs.board.GoalBoard.seats.Given as goal

abbrev pub invariant-loop : goal.invariant-loop
invariant-loop l = IsNewSeat l.self l.first × (l.first.view.low ≡ 0) × (l.first.view.high + l.counter ≡ l.workers + 1) ×
    (vec_len l.seats ≡ l.counter) × All (IsNewSeat l.self) l.seats.items
