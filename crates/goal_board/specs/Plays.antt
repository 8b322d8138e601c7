-- The rule as `atomic_table` takes it, and what each step tells its caller.
use Rattle.std.specs.Prelude.{◌≡◌, ◌≢◌, ℕ, ◌+◌, ◌≤◌, count_ones}
use Rattle.std.specs.Int.{bit_at}
use Rattle.atomic_table.specs.Table.{State, Step, Me}
use Rattle.goal_board.specs.declared.view.Size.{Size}
use Rattle.goal_board.specs.declared.view.BoardView.{BoardView}
use Rattle.goal_board.specs.Words.{word_at, Has, IsGoalWord, left_there}
use Rattle.goal_board.specs.Views.{unused, stepped, told, claims, leaves, left_by}
use Rattle.goal_board.specs.Rule.{IsBoard}

abbrev pub IsTable : Size → State (Unit {0}) BoardView → Type 0
IsTable z s = IsBoard z s.words s.views

-- the first seat has all seat numbers
abbrev pub first_view : Size → BoardView
first_view z = unused z.goals z.sessions 0 (z.workers + 1)

-- A final word that the seat had seen is the word found, and any word found is one of the goal: 0 to 4,
-- or 5 + c for another goal c of the board
abbrev pub Finds : BoardView → ℕ → ℕ → Type 0
Finds v g found = (word_at v.finals g ≢ 0 → found ≡ word_at v.finals g) × IsGoalWord v.goals g found

-- a step on a goal's word that found one word and left another, or the same
abbrev pub Tells : BoardView → ℕ → ℕ → ℕ → BoardView → Type 0
Tells v g found there w = (w ≡ told v g found there) × Finds v g found

-- the set of the sessions left has each one that the seat has left
abbrev pub FindsLeft : BoardView → ℕ → Type 0
FindsLeft v found = (k : ℕ) → Has (left_by v) k → bit_at found k ≡ 1

abbrev pub Looks : Step (Unit {0}) → Me (Unit {0}) BoardView → ℕ → Me (Unit {0}) BoardView → Type 0
Looks t v found w = Tells v.0 t.word found found w.0 × (w.1 ≡ v.1)

abbrev pub Ends : Step (Unit {0}) → Me (Unit {0}) BoardView → ℕ → Me (Unit {0}) BoardView → Type 0
Ends t v found w = Tells v.0 t.word found (left_there found t.second) w.0 × (w.1 ≡ v.1)

abbrev pub Claims : Step (Unit {0}) → Me (Unit {0}) BoardView → ℕ → Me (Unit {0}) BoardView → Type 0
Claims t v found w = w ≡ (claims v.0 t.word found, v.1)

abbrev pub Leaves : Step (Unit {0}) → Me (Unit {0}) BoardView → ℕ → Me (Unit {0}) BoardView → Type 0
Leaves t v found w = w ≡ (leaves v.0 t.word found, v.1)

-- no more sessions were left than there are, and those that the seat left are among them
abbrev pub Counts : Step (Unit {0}) → Me (Unit {0}) BoardView → ℕ → Me (Unit {0}) BoardView → Type 0
Counts t v found w = (w ≡ (stepped v.0 t.word found, v.1)) × (count_ones found ≤ v.0.sessions) × FindsLeft v.0 found
