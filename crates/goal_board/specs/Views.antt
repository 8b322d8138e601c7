-- What a seat knows after each of its steps, and after its range is cut.
use Rattle.std.specs.Prelude.{◌≡◌, ◌≢◌, ℕ, ◌+◌, ◌-◌, true, false, List, [], ◌∷◌, nat_lt, if◌then◌else◌}
use Rattle.goal_board.specs.declared.view.BoardView.{BoardView}
use Rattle.goal_board.specs.Words.{word_at, learnt, rest}

-- a seat with the numbers from low up to high that has done nothing yet
abbrev pub unused : ℕ → ℕ → ℕ → ℕ → BoardView
unused goals sessions low high = record {
  goals = goals;
  sessions = sessions;
  low = low;
  high = high;
  finals = [];
  claimed = [];
  holds = false;
  none = false;
  steps = 0;
  place = 0;
  found = 0;
}

-- after a step on the word at this place, which found this
abbrev pub stepped : BoardView → ℕ → ℕ → BoardView
stepped v place found = record v { steps = v.steps + 1; place = place; found = found }

-- after a step on the word of the goal g, which found one word and left another, or the same
abbrev pub told : BoardView → ℕ → ℕ → ℕ → BoardView
told v g found there = record (stepped v g found) { finals = learnt v.finals g there }

-- after a claim that got the session of this number, and after one that got none
abbrev pub gains : BoardView → ℕ → ℕ → BoardView
gains v place found = record (stepped v place found) { claimed = found ∷ v.claimed; holds = true }

abbrev pub misses : BoardView → ℕ → ℕ → BoardView
misses v place found = record (stepped v place found) { none = true }

-- after a claim that found this count
abbrev pub claims : BoardView → ℕ → ℕ → BoardView
claims v place found = if nat_lt found v.sessions then gains v place found else misses v place found

-- after the session that it holds was left
abbrev pub leaves : BoardView → ℕ → ℕ → BoardView
leaves v place found = record (stepped v place found) { holds = false }

-- the sessions that it has left: all that it claimed, but the last one where it holds that still
abbrev pub left_by : BoardView → List ℕ
left_by v = if v.holds then rest v.claimed else v.claimed

-- each final word that was seen stays
abbrev pub Stays : BoardView → BoardView → Type 0
Stays v w = (g : ℕ) → word_at v.finals g ≢ 0 → word_at w.finals g ≡ word_at v.finals g

-- a range cut in two: all of its numbers but the last one, and that one, whose seat has done nothing yet
abbrev pub kept_part : BoardView → BoardView
kept_part v = record v { high = v.high - 1 }

abbrev pub cut_part : BoardView → BoardView
cut_part v = unused v.goals v.sessions (v.high - 1) v.high
