-- Which worlds of the model the goals, words and tasks of a value in memory are those of. What a goal has seen and how it
-- came there isn't in memory.
use Rattle.std.specs.Prelude.{◌≡◌, ◌⊎◌, ◌≤◌, ◌^◌, ℕ, List, [], length, map, Some, slice_get}
use Rattle.bv_expr.specs.declared.goal.Goal.{Goal}
use Rattle.gate_world.specs.Work.{Problem}
use Rattle.gate_world.specs.World.{Event, World, actor_at, begun, run}
use Rattle.gate_world.specs.Right.{AreScripted}
use Rattle.gate_world.specs.Coding.{problem_of}
use Rattle.gate_world.specs.Tasks.{IsTask, IsBroken, TaskMoves, TaskTurns}
use Rattle.goal_reply.specs.declared.reply.Outcome.TheVariants as outcome
use Rattle.gate_world.specs.declared.task.Task.{Task}
use Rattle.gate_world.specs.declared.task.Task.TheVariants as task

abbrev pub problems_of : List Goal → List Problem
problems_of goals = map problem_of goals

-- these goals, words and tasks are those of a world that some events lead to
pub record AreIn (goals : List Goal) (words : List ℕ) (budget : ℕ) (tasks : List Task) (w : World) : Type 0 where
  pub events : List Event
  pub reached : w ≡ run events (begun (problems_of goals) (length words) budget)
  pub words_are : w.words ≡ words
  pub count : length tasks ≡ length goals
  pub tasks_are : (g : ℕ) (goal : Goal) (t : Task) → slice_get goals g ≡ Some goal → slice_get tasks g ≡ Some t → IsTask (actor_at w g) words budget goal t

-- what the type keeps
pub record IsWorld (goals : List Goal) (words : List ℕ) (budget : ℕ) (tasks : List Task) : Type 0 where
  pub some : 1 ≤ length words
  pub few : length words ≤ 4000000
  pub few_goals : length goals ≤ 65536
  pub steps : budget ≤ 2 ^ 62
  pub scripted : AreScripted (problems_of goals)
  pub world : World
  pub shown : AreIn goals words budget tasks world

-- behind a load or claim, or the goal ran out of memory in it
abbrev pub StepsTo : List ℕ → ℕ → Goal → Task → List ℕ → Task → Type 0
StepsTo old budget g t new next = TaskMoves old budget g t new next ⊎ (IsBroken next × (new ≡ old))

-- behind a machine step, or the goal ran out of memory in it
abbrev pub TurnsTo : Goal → Task → Task → Type 0
TurnsTo g t next = ((budget : ℕ) → TaskTurns budget g t next) ⊎ IsBroken next

-- the goal is cancelled
abbrev pub IsCancelled : ℕ → Task → Type 0
IsCancelled cause (task.Building b) = ⊥
IsCancelled cause (task.Walking k) = ⊥
IsCancelled cause (task.Searching s nodes) = ⊥
IsCancelled cause (task.Ended o nodes) = (o ≡ outcome.Cancelled cause) × (nodes.items ≡ [])
