-- How many events of a list are steps or turns of a goal that fit what it has in hand, and how many loads and
-- claims a script needs.
use Rattle.std.specs.Prelude.{ℕ, zero, suc, ◌+◌, ◌*◌, Bool, true, false, ◌&&◌, List, [], ◌∷◌, length, nat_eq, if◌then◌else◌}
use Rattle.gate_shape.specs.Edge.{Gate}
use Rattle.gate_probe.specs.Moves.{moves_left}
use Rattle.search_learn.specs.declared.Turn.{Turn as SearchTurn}
use Rattle.search_learn.specs.declared.Turn.TheVariants as turn
use Rattle.search_learn.specs.Machine.{Machine, advance}
use Rattle.gate_world.specs.Work.{Problem, Work, Loading, Probing, Walking, Searching, Ended, cone_of}
use Rattle.gate_world.specs.World.{Event, Step, Turn, Cancel, Memory, Actor, World, actor_at, happens}

-- for each gate at most two loads of fanins, and a load and a claim of each of the n words; and a load for each
-- gate of the cone
abbrev pub steps_for : ℕ → Problem → List Gate → ℕ
steps_for n p gs = length gs * (2 * n + 2) + length (cone_of p)

-- how many loads and claims a goal can still need, with n words
abbrev pub steps_left : ℕ → Problem → Work → ℕ
steps_left n p (Loading e es g gs) = 1 + length es + 2 * n + steps_for n p gs
steps_left n p (Probing g gs probe) = moves_left probe + steps_for n p gs
steps_left n p (Walking e es) = 1 + length es
steps_left n p (Searching m) = 0
steps_left n p (Ended end) = 0

abbrev pub goes_on : SearchTurn → Bool
goes_on turn.More = true
goes_on turn.Sat = false
goes_on turn.Unsat = false
goes_on (turn.Budget spent) = false

-- how many of so many machine steps come before the machine's end
unfoldable pub turns_within : ℕ → ℕ → Machine → ℕ
turns_within zero budget m = 0
turns_within (suc n) budget m = if goes_on m.state.end then 1 + turns_within n budget (advance budget m) else 0

-- how many machine steps a goal can still need
abbrev pub turns_left : ℕ → Work → ℕ
turns_left budget (Loading e es g gs) = budget + 1
turns_left budget (Probing g gs probe) = budget + 1
turns_left budget (Walking e es) = budget + 1
turns_left budget (Searching m) = turns_within (budget + 1) budget m
turns_left budget (Ended end) = 0

-- how many events all goals can still need
abbrev pub all_left : ℕ → ℕ → List Actor → ℕ
all_left n budget [] = 0
all_left n budget (a ∷ more) = steps_left n a.problem a.work + turns_left budget a.work + all_left n budget more

abbrev pub events_left : World → ℕ
events_left w = all_left (length w.words) w.budget w.actors

-- the goal builds or walks
abbrev pub takes_steps : Work → Bool
takes_steps (Loading e es g gs) = true
takes_steps (Probing g gs probe) = true
takes_steps (Walking e es) = true
takes_steps (Searching m) = false
takes_steps (Ended end) = false

abbrev pub takes_turns : Work → Bool
takes_turns (Loading e es g gs) = false
takes_turns (Probing g gs probe) = false
takes_turns (Walking e es) = false
takes_turns (Searching m) = true
takes_turns (Ended end) = false

-- is the event a step of this goal, and does it fit?
abbrev pub steps_goal : ℕ → World → Event → Bool
steps_goal g w (Step k) = nat_eq k g && takes_steps (actor_at w g).work
steps_goal g w (Turn k) = false
steps_goal g w (Cancel k cause) = false
steps_goal g w (Memory k) = false

-- a turn of this goal that fits?
abbrev pub turns_goal : ℕ → World → Event → Bool
turns_goal g w (Step k) = false
turns_goal g w (Turn k) = nat_eq k g && takes_turns (actor_at w g).work
turns_goal g w (Cancel k cause) = false
turns_goal g w (Memory k) = false

-- how many of the events are so, each judged where it comes
abbrev pub count_fitting : (World → Event → Bool) → List Event → World → ℕ
count_fitting fits [] w = 0
count_fitting fits (e ∷ es) w = (if fits w e then 1 else 0) + count_fitting fits es (happens w e)

-- does the event fit, as a step or a turn?
abbrev pub fits : World → Event → Bool
fits w (Step g) = takes_steps (actor_at w g).work
fits w (Turn g) = takes_turns (actor_at w g).work
fits w (Cancel g cause) = false
fits w (Memory g) = false
