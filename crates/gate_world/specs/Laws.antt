-- What holds of every list of events.
use Rattle.std.specs.Prelude.{◌≡◌, ℕ, ◌+◌, ◌≤◌, ◌<◌, List, length, if◌then◌else◌}
use Rattle.gate_shape.specs.Edge.{Edge}
use Rattle.cone_walk.specs.Cone.{cone_nodes}
use Rattle.cone_walk.specs.Numbered.{gates_in}
use Rattle.gate_world.specs.Literals.{cone_gates}
use Rattle.gate_world.specs.Work.{Problem, script_of}
use Rattle.gate_world.specs.World.{Event, begun, run, happens}
use Rattle.gate_world.specs.Right.{IsRight, AreScripted, problem_at}
use Rattle.gate_world.specs.Bound.{steps_for, steps_goal, turns_goal, count_fitting, fits, events_left}

-- whatever the events and their order, the words stay sound and each goal ends as it does alone, or out of
-- memory, or for want of a word, or cancelled by a false goal
abbrev pub StaysRight : Type 0
StaysRight = (problems : List Problem) (n budget : ℕ) (events : List Event) → 1 ≤ n → n ≤ 4000000 → AreScripted problems → IsRight problems n budget (run events (begun problems n budget))

-- at most so many steps of a goal fit, in any list of events
abbrev pub StepsAreBounded : Type 0
StepsAreBounded = (problems : List Problem) (n budget : ℕ) (events : List Event) (g : ℕ) → 1 ≤ n → n ≤ 4000000 → AreScripted problems → g < length problems
    → let p = problem_at problems g in count_fitting (steps_goal g) events (begun problems n budget) ≤ steps_for n p (script_of p)

-- and at most budget + 1 turns
abbrev pub TurnsAreBounded : Type 0
TurnsAreBounded = (problems : List Problem) (n budget : ℕ) (events : List Event) (g : ℕ) → count_fitting (turns_goal g) events (begun problems n budget) ≤ budget + 1

-- each step or turn that fits leaves less to do, and no event leaves more: so a schedule that goes on with an
-- unended goal comes to an end
abbrev pub EventsLower : Type 0
EventsLower = (problems : List Problem) (n budget : ℕ) (events : List Event) (e : Event) → 1 ≤ n → n ≤ 4000000 → AreScripted problems
    → let w = run events (begun problems n budget) in (if fits w e then 1 else 0) + events_left (happens w e) ≤ events_left w

-- a walk loads as many words as the cone has gates
abbrev pub ConesAgree : Type 0
ConesAgree = (e : Edge) → length (cone_gates e) ≡ gates_in (cone_nodes e)
