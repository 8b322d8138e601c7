-- The rule of the board: the goals' words, and behind them a turnstile of two words, the count of claims
-- and the set of the sessions that were left.
use Rattle.std.specs.Prelude.{◌≡◌, ◌≢◌, ◌⊎◌, ℕ, ◌+◌, ◌-◌, ◌<◌, ◌≤◌, List, length, sum_by, if◌then◌else◌}
use Rattle.std.specs.Int.{bit_at}
use mathlib.Core.Option.{some}
use lib.ListN.{get_elem?}
use Rattle.goal_board.specs.declared.view.Size.{Size}
use Rattle.goal_board.specs.declared.view.BoardView.{BoardView}
use Rattle.goal_board.specs.Words.{word_at, Has, IsGoalWord}
use Rattle.goal_board.specs.Views.{left_by}

-- the words of the turnstile
abbrev pub claim_count : Size → List ℕ → ℕ
claim_count z words = word_at words z.goals

abbrev pub left_set : Size → List ℕ → ℕ
left_set z words = word_at words (z.goals + 1)

-- how many seat numbers a view has, and whether it was answered that no session is left
abbrev pub span : BoardView → ℕ
span v = v.high - v.low

abbrev pub spent : BoardView → ℕ
spent v = if v.none then 1 else 0

-- R holds of any two of these views
abbrev pub AnyTwo : (BoardView → BoardView → Type 0) → List BoardView → Type 0
AnyTwo R views = (id other : ℕ) (v w : BoardView) → id ≢ other → get_elem? views id ≡ some v → get_elem? views other ≡ some w → R v w

-- What a view knows is so: its final words are the goals' words, its range isn't empty, what it claimed
-- is below the count of claims and below the number of sessions, and what it left is in the set
pub record IsViewOf (z : Size) (words : List ℕ) (v : BoardView) : Type 0 where
  pub finals : (g : ℕ) → word_at v.finals g ≢ 0 → (g < z.goals) × (word_at words g ≡ word_at v.finals g)
  pub size : (v.goals ≡ z.goals) × (v.sessions ≡ z.sessions)
  pub range : (v.low < v.high) × (v.high ≤ z.workers + 1)
  pub claimed : (k : ℕ) → Has v.claimed k → (k < claim_count z words) × (k < z.sessions)
  pub left : (k : ℕ) → Has (left_by v) k → bit_at (left_set z words) k ≡ 1

-- A goal's word is 0 or final, and 5 + c only where c is another goal, whose word is 2. Each view is one of
-- this board, no two of them share a seat number, and no two have claimed one session. Only what some view
-- claimed is in the set of the sessions left. The count of claims is at most the number of sessions plus that
-- of the views that were answered None; there are no more views than seat numbers, so it never wraps.
pub record IsBoard (z : Size) (words : List ℕ) (views : List BoardView) : Type 0 where
  pub limits : (z.sessions ≤ 64) × (z.workers ≤ 16) × (z.goals ≤ 65536)
  pub size : length words ≡ z.goals + 2
  pub goals : (g : ℕ) → g < z.goals → IsGoalWord z.goals g (word_at words g)
  pub cancelled : (g c : ℕ) → g < z.goals → word_at words g ≡ 5 + c → word_at words c ≡ 2
  pub each : (id : ℕ) (v : BoardView) → get_elem? views id ≡ some v → IsViewOf z words v
  pub apart : AnyTwo (λ v w. (v.high ≤ w.low) ⊎ (w.high ≤ v.low)) views
  pub once : AnyTwo (λ v w. (k : ℕ) → Has v.claimed k → Has w.claimed k → ⊥) views
  pub left : (k : ℕ) → bit_at (left_set z words) k ≡ 1 → (id : ℕ) × (v : BoardView) × (get_elem? views id ≡ some v) × Has v.claimed k
  pub count : claim_count z words ≤ z.sessions + sum_by spent views
  pub seats : sum_by span views ≤ z.workers + 1

-- The words that a seat with this view may give the goal g: 1 to 4, or that of a goal cancelled by another
-- one that the seat has seen to be false
abbrev pub MayEnd : BoardView → ℕ → ℕ → Type 0
MayEnd v g word = ((0 < word) × (word ≤ 4)) ⊎ ((c : ℕ) × (word ≡ 5 + c) × (c ≢ g) × (word_at v.finals c ≡ 2))
