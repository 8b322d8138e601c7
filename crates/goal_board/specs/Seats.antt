-- A board and a seat as contracts see them.
use Rattle.std.specs.Prelude.{◌≡◌, ℕ, ◌+◌, ◌<◌, true, false, []}
use Rattle.atomic_table.specs.Seated.{TableId}
use Rattle.goal_board.specs.declared.view.BoardView.{BoardView}
use Rattle.goal_board.specs.Words.{IsFirst}

-- which board it is, and how many goals and sessions it has
pub record BoardState : Type 0 where
  pub id : TableId
  pub goals : ℕ
  pub sessions : ℕ

-- the places of the count of claims and of the set of the sessions left, behind the words of the goals
abbrev pub claims_place : BoardState → ℕ
claims_place b = b.goals

abbrev pub left_place : BoardState → ℕ
left_place b = b.goals + 1

-- which board it is of, and its view
pub record SeatState : Type 0 where
  pub board : TableId
  pub view : BoardView

-- the seat is one of the board
abbrev pub IsSeatOf : BoardState → SeatState → Type 0
IsSeatOf b s = (s.board ≡ b.id) × (s.view.goals ≡ b.goals) × (s.view.sessions ≡ b.sessions)

-- it has seen no final word, claimed no session and taken no step
abbrev pub IsUnused : BoardView → Type 0
IsUnused v = (v.finals ≡ []) × (v.claimed ≡ []) × (v.holds ≡ false) × (v.none ≡ false) × (v.steps ≡ 0)

-- a seat of the board that has done nothing yet
abbrev pub IsNewSeat : BoardState → SeatState → Type 0
IsNewSeat b s = IsSeatOf b s × IsUnused s.view

-- the session that a seat holds is the one that its view claimed last
abbrev pub Holds : BoardView → ℕ → Type 0
Holds v session = v.holds ≡ true → IsFirst v.claimed session × (session < 64)
