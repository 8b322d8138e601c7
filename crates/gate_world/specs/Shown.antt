-- Which world of the model a value shows. What a goal has seen and how it came there isn't in memory: so a value shows a
-- world, and what becomes of that world is said of each world that it shows.
use Rattle.std.specs.Prelude.{◌≡◌, ◌⊎◌, ◌<◌, ℕ, List, [], ◌∷◌, length, map}
use Rattle.bv_expr.specs.declared.goal.Goal.{Goal}
use Rattle.gate_world.specs.Work.{Work, Loading, Probing, Walking, Searching, Ended}
use Rattle.gate_world.specs.World.{Event, Step, Turn, Cancel, Memory, World, run, happens}
pub use Rattle.gate_world.specs.Reached.{problems_of, AreIn, IsWorld}
use Rattle.gate_world.specs.declared.event.Event.{Event as CodeEvent}
use Rattle.gate_world.specs.declared.event.Event.TheVariants as code
use Rattle.gate_world.specs.declared.event.Phase.{Phase}
use Rattle.gate_world.specs.declared.event.Phase.TheVariants as phase
use Rattle.gate_world.specs.declared.world.World.{World as CodeWorld}

abbrev pub phase_of : Work → Phase
phase_of (Loading e es g gs) = phase.Building
phase_of (Probing g gs q) = phase.Building
phase_of (Walking e es) = phase.Walking
phase_of (Searching m) = phase.Searching
phase_of (Ended end) = phase.Ended

abbrev pub event_of : CodeEvent → Event
event_of (code.Step g) = Step g
event_of (code.Turn g) = Turn g
event_of (code.Cancel g cause) = Cancel g cause

-- the event is of one of so many goals
abbrev pub NamesGoals : ℕ → CodeEvent → Type 0
NamesGoals n (code.Step g) = g < n
NamesGoals n (code.Turn g) = g < n
NamesGoals n (code.Cancel g cause) = (g < n) × (cause < n)

-- What an event may make of a world: what the model says, or that the goal ran out of memory in it
abbrev pub MayBecome : Event → World → World → Type 0
MayBecome (Step g) w v = (v ≡ happens w (Step g)) ⊎ (v ≡ happens w (Memory g))
MayBecome (Turn g) w v = (v ≡ happens w (Turn g)) ⊎ (v ≡ happens w (Memory g))
MayBecome (Cancel g cause) w v = v ≡ happens w (Cancel g cause)
MayBecome (Memory g) w v = v ≡ happens w (Memory g)

-- the same events, where a goal's running out of memory stands in the place of the event in which it did
abbrev pub IsWithMemory : Event → Event → Type 0
IsWithMemory (Step g) e = (e ≡ Step g) ⊎ (e ≡ Memory g)
IsWithMemory (Turn g) e = (e ≡ Turn g) ⊎ (e ≡ Memory g)
IsWithMemory (Cancel g cause) e = e ≡ Cancel g cause
IsWithMemory (Memory g) e = e ≡ Memory g

abbrev pub AreWithMemory : List Event → List Event → Type 0
AreWithMemory [] [] = Unit {0}
AreWithMemory [] (f ∷ fs) = ⊥
AreWithMemory (e ∷ es) [] = ⊥
AreWithMemory (e ∷ es) (f ∷ fs) = IsWithMemory e f × AreWithMemory es fs

abbrev pub goals_of : CodeWorld → List Goal
goals_of c = map (λ g. g.now) c.goals.items

-- the value shows this world
abbrev pub Shows : CodeWorld → World → Type 0
Shows c w = AreIn (goals_of c) c.words.items c.budget c.tasks.items w

-- It is over the same goals, with as many words and the same budget.
pub record IsSameWorld (old new : CodeWorld) : Type 0 where
  pub goals : goals_of new ≡ goals_of old
  pub size : length new.words.items ≡ length old.words.items
  pub budget : new.budget ≡ old.budget

-- behind an event
abbrev pub Happens : CodeEvent → CodeWorld → CodeWorld → Type 0
Happens e old new = (w : World) → Shows old w → (v : World) × MayBecome (event_of e) w v × Shows new v

-- behind a list of events
abbrev pub AllHappen : List CodeEvent → CodeWorld → CodeWorld → Type 0
AllHappen es old new = (w : World) → Shows old w → (fs : List Event) × AreWithMemory (map event_of es) fs × Shows new (run fs w)
