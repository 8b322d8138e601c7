-- What a goal has in hand in code, whichever work that is, and what becomes of it by an event.
use Rattle.std.specs.Prelude.{◌≡◌, ◌≤◌, ℕ, List, [], length, Option, Some, None, if◌then◌else◌}
use Rattle.gate_probe.specs.Sound.{IsSound, IsWithin}
use Rattle.gate_probe.specs.declared.prober.Move.{Move}
use Rattle.gate_probe.specs.declared.prober.Move.TheVariants.{Load, Claim, Found, Full}
use Rattle.bv_expr.specs.declared.goal.Goal.{Goal}
use Rattle.goal_reply.specs.declared.reply.Reply.TheVariants as reply
use Rattle.goal_reply.specs.declared.reply.Outcome.{Outcome}
use Rattle.goal_reply.specs.declared.reply.Outcome.TheVariants as outcome
use Rattle.goal_alone.specs.Alone.{Deep}
use Rattle.gate_world.specs.Work.{Problem, Work, Loading, Probing, Walking, Searching, Ended, Replied, NoRoom, cone_of, to_walk}
use Rattle.gate_world.specs.World.{Actor, moved, turned, with_work}
use Rattle.gate_world.specs.Right.{IsScripted}
use Rattle.gate_world.specs.Doing.{IsDoing}
use Rattle.gate_world.specs.Counted.{end_searched}
use Rattle.gate_world.specs.Coding.{problem_of, ShowsBuilding}
use Rattle.gate_world.specs.Cone.{ShowsWalk, ShowsWalked, HasBuilt, AreNodesOf}
use Rattle.gate_world.specs.Solving.{ShowsSearch, IsOutcomeOf, IsOutcomeBacked}
use Rattle.gate_world.specs.declared.build.Stage.{Stage}
use Rattle.gate_world.specs.declared.build.Stage.TheVariants as stage
use Rattle.gate_world.specs.declared.build.Work.{Work as CodeWork}
use Rattle.gate_world.specs.declared.build.Work.TheVariants as code
use Rattle.gate_world.specs.declared.walk.Walked.{Walked}
use Rattle.gate_world.specs.declared.task.Task.{Task}
use Rattle.gate_world.specs.declared.task.Task.TheVariants as task

-- the goal has ended so; where it was searched to an end these are the nodes of its cone
abbrev pub ShowsEnd : Goal → List ℕ → Outcome → List ℕ → Work → Type 0
ShowsEnd g seen o nodes (Loading e es h gs) = ⊥
ShowsEnd g seen o nodes (Probing h gs q) = ⊥
ShowsEnd g seen o nodes (Walking e es) = ⊥
ShowsEnd g seen o nodes (Searching m) = ⊥
ShowsEnd g seen o nodes (Ended end) = IsOutcomeOf o end × IsOutcomeBacked g o × AreNodesOf seen (if end_searched end then cone_of (problem_of g) else []) nodes

abbrev pub ShowsTask : Goal → ℕ → List ℕ → List ℕ → Task → Work → Type 0
ShowsTask g budget words seen (task.Building b) w = ShowsBuilding (problem_of g) words b w
ShowsTask g budget words seen (task.Walking k) w = ShowsWalk (problem_of g) seen k w
ShowsTask g budget words seen (task.Searching s nodes) w = ShowsSearch (problem_of g) budget s w × AreNodesOf seen (cone_of (problem_of g)) nodes.items
ShowsTask g budget words seen (task.Ended o nodes) w = ShowsEnd g seen o nodes.items w

abbrev nobody : ℕ → Type 0
nobody c = Unit {0}

-- The goal is this actor of a world with these words, and what it has in hand is that actor's work.
pub record IsTask (a : Actor) (words : List ℕ) (budget : ℕ) (g : Goal) (t : Task) : Type 0 where
  pub problem : a.problem ≡ problem_of g
  pub shows : ShowsTask g budget words a.seen t a.work
  pub sound : IsSound words
  pub some : 1 ≤ length words
  pub few : length words ≤ 4000000
  pub within : IsWithin a.seen words
  pub scripted : IsScripted a.problem
  pub doing : IsDoing (length words) budget words nobody a.problem a.seen a.work

-- behind a load or claim
abbrev pub TaskMoves : List ℕ → ℕ → Goal → Task → List ℕ → Task → Type 0
TaskMoves old budget g t new next = (a : Actor) → IsTask a old budget g t → (new ≡ (moved old a a.work).words) × IsTask (moved old a a.work).actor new budget g next

-- behind a machine step
abbrev pub TaskTurns : ℕ → Goal → Task → Task → Type 0
TaskTurns budget g t next = (a : Actor) (words : List ℕ) → IsTask a words budget g t → IsTask (with_work a (turned budget a.problem a.work)) words budget g next

-- which work a task is, whichever actor's it is
abbrev pub IsOf : Goal → Task → (Work → Type 0) → Type 0
IsOf g t P = (a : Actor) (words : List ℕ) (budget : ℕ) → IsTask a words budget g t → P a.work

-- the outcome of a task that has ended
abbrev pub outcome_in : Task → Option Outcome
outcome_in (task.Building b) = None
outcome_in (task.Walking k) = None
outcome_in (task.Searching s nodes) = None
outcome_in (task.Ended o nodes) = Some o

-- the nodes of a task that has ended
abbrev pub nodes_of : Task → List ℕ
nodes_of (task.Building b) = []
nodes_of (task.Walking k) = []
nodes_of (task.Searching s nodes) = []
nodes_of (task.Ended o nodes) = nodes.items

-- the goal ran out of memory
abbrev pub IsBroken : Task → Type 0
IsBroken (task.Building b) = ⊥
IsBroken (task.Walking k) = ⊥
IsBroken (task.Searching s nodes) = ⊥
IsBroken (task.Ended o nodes) = (o ≡ outcome.Replied reply.Memory) × (nodes.items ≡ [])

-- What is known of the actor of a goal, whatever it has in hand.
pub record IsHeld (a : Actor) (words : List ℕ) (budget : ℕ) (g : Goal) : Type 0 where
  pub problem : a.problem ≡ problem_of g
  pub sound : IsSound words
  pub some : 1 ≤ length words
  pub few : length words ≤ 4000000
  pub within : IsWithin a.seen words
  pub scripted : IsScripted a.problem
  pub doing : IsDoing (length words) budget words nobody a.problem a.seen a.work

-- the task of a goal that walks, or has walked its cone
abbrev pub FollowsWalk : ℕ → Walked → Task → Type 0
FollowsWalk budget walked t = (g : Goal) (a : Actor) (words : List ℕ) → IsHeld a words budget g → ShowsWalked (problem_of g) a.seen walked a.work → IsTask a words budget g t

-- what a goal that builds, or has built, has in hand; what it has built it has seen
abbrev pub ShowsBuilt : Problem → List ℕ → List ℕ → CodeWork → Work → Type 0
ShowsBuilt p words seen (code.Building b) w = ShowsBuilding p words b w
ShowsBuilt p words seen (code.Built c) w = (w ≡ to_walk p (cone_of p)) × HasBuilt p words seen c
ShowsBuilt p words seen code.Deep w = w ≡ Ended (Replied Deep)
ShowsBuilt p words seen code.Full w = w ≡ Ended NoRoom

-- the task of a goal that builds, or has built its circuit
abbrev pub FollowsBuild : ℕ → CodeWork → Task → Type 0
FollowsBuild budget work t = (g : Goal) (a : Actor) (words : List ℕ) → IsHeld a words budget g → ShowsBuilt (problem_of g) words a.seen work a.work → IsTask a words budget g t

-- a goal that has built its circuit can walk its cone
abbrev pub MayWalk : CodeWork → Type 0
MayWalk (code.Building b) = Unit {0}
MayWalk (code.Built c) = (p : Problem) × (words : List ℕ) × (seen : List ℕ) × HasBuilt p words seen c
MayWalk code.Deep = Unit {0}
MayWalk code.Full = Unit {0}

-- the place that the next step claims; where it claims none, the first
abbrev pub claimed_by : Move → ℕ
claimed_by (Load s) = 0
claimed_by (Claim s wanted) = s
claimed_by (Found node) = 0
claimed_by Full = 0

abbrev pub claim_of : Stage → ℕ
claim_of stage.Left = 0
claim_of (stage.Right first) = 0
claim_of (stage.Probe q) = claimed_by q.last
