-- The gates that a report counts: those in the cones of the goals that were searched to an end.
use Rattle.std.specs.Prelude.{ℕ, Bool, true, false, List, [], ◌∷◌, ◌++◌, length, if◌then◌else◌}
use Rattle.gate_shape.specs.Edge.{Edge}
use Rattle.cone_walk.specs.Order.{firsts}
use Rattle.goal_alone.specs.Alone.{Answer}
use Rattle.gate_world.specs.Work.{Work, End, Loading, Probing, Walking, Searching, Ended, Replied, OutOfMemory, NoRoom, CancelledBy, cone_of}
use Rattle.gate_world.specs.World.{Actor}

-- the goal is proved or false, or its budget is spent
abbrev pub is_searched : Answer → Bool
is_searched a = elim a [ Answer.Proved text ↦ true | Answer.False values ↦ true | Answer.Budget spent ↦ true | Answer.Deep ↦ false | Answer.Large ↦ false ]

abbrev pub end_searched : End → Bool
end_searched (Replied a) = is_searched a
end_searched OutOfMemory = false
end_searched NoRoom = false
end_searched (CancelledBy c) = false

abbrev pub work_searched : Work → Bool
work_searched (Loading e es g gs) = false
work_searched (Probing g gs p) = false
work_searched (Walking e es) = false
work_searched (Searching m) = false
work_searched (Ended end) = end_searched end

-- the gates of the goal's cone, if it counts
abbrev pub cone_counted : Actor → List Edge
cone_counted a = if work_searched a.work then cone_of a.problem else []

-- those of all goals, a gate as often as it is in a cone
abbrev pub cones_counted : List Actor → List Edge
cones_counted [] = []
cones_counted (a ∷ more) = cone_counted a ++ cones_counted more

-- how many gates there are in the cones together
abbrev pub gates_in_cones : List Actor → ℕ
gates_in_cones actors = length (cones_counted actors)

-- and how many different ones, gates being trees
abbrev pub distinct_gates : List Actor → ℕ
distinct_gates actors = length (firsts [] (cones_counted actors))
