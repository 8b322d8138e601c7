-- What a schedule tells: how its goals ended by the events that a generator draws, and the gates that it counts.
use Rattle.std.specs.Prelude.{◌≡◌, ℕ, Bool, true, false, List, [], ◌∷◌, ◌++◌, length, map, Option, Some, None, ⊤, if◌then◌else◌}
use Rattle.gate_shape.specs.Edge.{Edge}
use Rattle.cone_walk.specs.Order.{firsts}
use Rattle.goal_alone.specs.Alone.{Answer}
use Rattle.gate_world.specs.Work.{Problem, End, Ended, Replied, OutOfMemory as NoMemory, NoRoom, CancelledBy, cone_of}
use Rattle.gate_world.specs.World.{Event, Actor, World, begun, run}
use Rattle.gate_world.specs.Drawn.{generator, AreDrawn}
use Rattle.bv_expr.specs.Statement.{Statement}
use Rattle.bvd_words.specs.Requests.{Command, Prove, Alone, Check, Schedule, Cnf, Show, Request}
use Rattle.bvd_report.specs.Report.{Told, Proved, False, Budget, Deep, Large, Full, Cancelled, OutOfMemory, Clauses, Replayed, AbsentCertificate, Nothing, Line, Part, Gates, report, all_goals}

-- a goal without its name
abbrev pub problem_in : Statement → Problem
problem_in goal = record { binders = goal.binders; hyps = goal.hyps; concl = goal.concl }

abbrev pub answer_told : Answer → Told
answer_told a = elim a [ Answer.Proved text ↦ Proved text | Answer.False values ↦ False values | Answer.Budget spent ↦ Budget spent | Answer.Deep ↦ Deep | Answer.Large ↦ Large ]

-- what is told of a goal that has ended so
abbrev pub end_told : End → Told
end_told (Replied a) = answer_told a
end_told NoMemory = OutOfMemory
end_told NoRoom = Full
end_told (CancelledBy c) = Cancelled c

-- the goals have ended as these lines tell
abbrev pub AreEndsTold : List Actor → List Line → Type 0
AreEndsTold [] [] = ⊤
AreEndsTold [] (line ∷ lines) = ⊥
AreEndsTold (a ∷ more) [] = ⊥
AreEndsTold (a ∷ more) (line ∷ lines) = ((end : End) × (a.work ≡ Ended end) × (line.told ≡ end_told end)) × AreEndsTold more lines

-- The goals of all files begin over an empty table of so many words, and the generator of the seed draws their events until
-- all have ended.
pub record IsSchedule (seed table steps : ℕ) (lines : List Line) : Type 0 where
  pub events : List Event
  pub drawn : AreDrawn (generator seed) (begun (map (λ line. problem_in line.goal) lines) table steps) events
  pub told : AreEndsTold (run events (begun (map (λ line. problem_in line.goal) lines) table steps)).actors lines

-- what a command's goals have to do with one another: nothing but in a schedule
abbrev pub AreToldTogether : Request → List Line → Type 0
AreToldTogether request lines = elim request.command as (λ _. Type 0) [ Schedule ↦ IsSchedule request.seed request.table request.steps lines | Prove ↦ ⊤ | Alone ↦ ⊤ | Check ↦ ⊤ | Cnf ↦ ⊤ | Show ↦ ⊤ ]

-- ---- the gates

-- the goal was searched to an end
abbrev pub is_searched : Told → Bool
is_searched (Proved text) = true
is_searched (False values) = true
is_searched (Budget spent) = true
is_searched told = false

-- the gates of the cones of the goals that were searched to an end, a gate as often as it is in a cone
abbrev pub cones_told : List Line → List Edge
cones_told [] = []
cones_told (line ∷ rest) = (if is_searched line.told then cone_of (problem_in line.goal) else []) ++ cones_told rest

-- the gates that a command counts, gates being trees
abbrev pub gates_of : Command → List Line → Option Gates
gates_of Schedule lines = Some (record { in_cones = length (cones_told lines); distinct = length (firsts [] (cones_told lines)) })
gates_of Prove lines = None
gates_of Alone lines = None
gates_of Check lines = None
gates_of Cnf lines = None
gates_of Show lines = None

-- the report of a request, with its gates
abbrev pub report_of : Request → List Part → List ℕ
report_of request parts = report request parts (gates_of request.command (all_goals parts))
