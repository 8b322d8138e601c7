-- Whichever world a value shows: the same goals are unended in it, and more many events are left. Both are counted here by
-- what the value has in hand.
use Rattle.std.proofs.Common.{◌≡◌, ℕ, suc, ◌+◌, ◌-◌, ◌*◌, ◌<◌, Bool, true, false, List, [], ◌∷◌, length, drop, slice_index_or, slice_get, Some, refl, sym, ap, ◌∙◌, subst, arith, if◌then◌else◌}
use Rattle.std.proofs.lemmas.List.{length-map, drop_at}
use Rattle.std.proofs.lemmas.Option.{slice_get-get_or}
use Rattle.gate_shape.specs.Edge.{Edge, Gate}
use Rattle.gate_probe.specs.Moves.{moves_left}
use Rattle.cone_walk.specs.Walk.{asks_made}
use Rattle.bv_expr.specs.declared.goal.Goal.{Goal}
use Rattle.goal_reply.specs.declared.reply.Outcome.{Outcome}
use Rattle.gate_world.specs.Literals.{if_gate, fanin_gates}
use Rattle.gate_world.specs.Work.{Problem, Work, Loading, Probing, Walking, Searching, Ended, script_of, cone_of}
use Rattle.gate_world.specs.World.{Event, Actor, World, nobody, happens, run, begun_at, begun}
use Rattle.gate_world.specs.Right.{IsScripted, AreScripted}
use Rattle.gate_world.specs.Bound.{steps_for, steps_left, turns_left, turns_within, all_left, events_left}
use Rattle.gate_world.specs.Drawn.{has_ended, unended_from, unended}
use Rattle.gate_world.specs.Coding.{IsCalls, IsStage, ShowsBuilding, problem_of}
use Rattle.gate_world.specs.Cone.{ShowsWalk}
use Rattle.gate_world.specs.Solving.{ShowsSearch}
use Rattle.gate_world.specs.Tasks.{ShowsTask, ShowsEnd, IsTask}
use Rattle.gate_world.specs.Shown.{problems_of, goals_of, Shows}
use Rattle.gate_world.specs.declared.build.Calls.{Calls}
use Rattle.gate_world.specs.declared.build.Stage.{Stage}
use Rattle.gate_world.specs.declared.build.Stage.TheVariants as stage
use Rattle.gate_world.specs.declared.build.Building.{Building}
use Rattle.gate_world.specs.declared.walk.Walking.{Walking as CodeWalking}
use Rattle.gate_world.specs.declared.solve.Solving.{Solving}
use Rattle.gate_world.specs.declared.task.Task.{Task}
use Rattle.gate_world.specs.declared.task.Task.TheVariants as task
use Rattle.gate_world.specs.declared.world.World.{World as CodeWorld}
use Rattle.gate_world.proofs.Running.{mapped_at, event_stays}

-- ---- what a task has left

abbrev building_left : ℕ → ℕ → Problem → Stage → List Gate → ℕ
building_left n budget p s [] = 0
building_left n budget p stage.Left (g ∷ gs) = length (fanin_gates g) + 2 * n + steps_for n p gs + (budget + 1)
building_left n budget p (stage.Right first) (g ∷ gs) = length (if_gate g.right) + 2 * n + steps_for n p gs + (budget + 1)
building_left n budget p (stage.Probe q) (g ∷ gs) = moves_left q + steps_for n p gs + (budget + 1)

abbrev task_left : ℕ → ℕ → Goal → Task → ℕ
task_left n budget g (task.Building b) = building_left n budget (problem_of g) b.stage (drop b.calls.call (script_of (problem_of g)))
task_left n budget g (task.Walking k) = 1 + (length (cone_of (problem_of g)) - asks_made k.walk) + (budget + 1)
task_left n budget g (task.Searching s nodes) = turns_within (budget + 1) budget s.search.machine
task_left n budget g (task.Ended o nodes) = 0

abbrev task_ended : Task → Bool
task_ended (task.Building b) = false
task_ended (task.Walking k) = false
task_ended (task.Searching s nodes) = false
task_ended (task.Ended o nodes) = true

abbrev tasks_left : ℕ → ℕ → List Goal → List Task → ℕ
tasks_left n budget [] ts = 0
tasks_left n budget (g ∷ gs) [] = 0
tasks_left n budget (g ∷ gs) (t ∷ ts) = task_left n budget g t + tasks_left n budget gs ts

abbrev tasks_unended : ℕ → List Task → List ℕ
tasks_unended base [] = []
tasks_unended base (t ∷ ts) = if task_ended t then tasks_unended (base + 1) ts else base ∷ tasks_unended (base + 1) ts

-- how many events the goals can still need
abbrev pub world_left : CodeWorld → ℕ
world_left c = tasks_left (length c.words.items) c.budget (goals_of c) c.tasks.items

-- ---- the same of each work that a task shows

-- the calls that are still to be made
ahead_is : (p : Problem) (words : List ℕ) (done ahead : List Gate) (c : Calls) → IsCalls p words done ahead c → ahead ≡ drop c.call (script_of p)
ahead_is p words done ahead c h = sym (ap (drop c.call) h.cut ∙ drop_at done ahead c.call (sym h.at))

record SameLeft (n budget : ℕ) (p : Problem) (w : Work) (ended : Bool) (left : ℕ) : Type 0 where
  over : has_ended w ≡ ended
  as_many : steps_left n p w + turns_left budget w ≡ left

fanins_left : (es : List Edge) (e : Edge) (fs : List Edge) (n r b : ℕ) → (e ∷ es) ≡ fs → 1 + length es + 2 * n + r + b ≡ length fs + 2 * n + r + b
fanins_left es e fs n r b is = let l : suc (length es) ≡ length fs = ap (length {A = Edge}) is in omega arith

stage_left : (n budget : ℕ) (p : Problem) (s : Stage) (e : Edge) (es : List Edge) (g : Gate) (gs : List Gate) → IsStage g s (e ∷ es) → steps_left n p (Loading e es g gs) + (budget + 1) ≡ building_left n budget p s (g ∷ gs)
stage_left n budget p stage.Left e es g gs h = fanins_left es e (fanin_gates g) n (steps_for n p gs) (budget + 1) h.1
stage_left n budget p (stage.Right first) e es g gs h = fanins_left es e (if_gate g.right) n (steps_for n p gs) (budget + 1) h.1
stage_left n budget p (stage.Probe q) e es g gs h = absurd h

building_same : (n budget : ℕ) (p : Problem) (words : List ℕ) (b : Building) (w : Work) → ShowsBuilding p words b w → SameLeft n budget p w false (building_left n budget p b.stage (drop b.calls.call (script_of p)))
building_same n budget p words b (Loading e es g gs) h = record {
  over = refl;
  as_many = stage_left n budget p b.stage e es g gs h.2 ∙ ap (building_left n budget p b.stage) (ahead_is p words h.0 (g ∷ gs) b.calls h.1);
}
building_same n budget p words b (Probing g gs q) h = record {
  over = refl;
  as_many = ap (λ s. building_left n budget p s (g ∷ gs)) (sym h.2) ∙ ap (building_left n budget p b.stage) (ahead_is p words h.0 (g ∷ gs) b.calls h.1);
}
building_same n budget p words b (Walking e es) h = absurd h
building_same n budget p words b (Searching m) h = absurd h
building_same n budget p words b (Ended end) h = absurd h

walk_same : (n budget : ℕ) (p : Problem) (seen : List ℕ) (k : CodeWalking) (w : Work) → ShowsWalk p seen k w → SameLeft n budget p w false (1 + (length (cone_of p) - asks_made k.walk) + (budget + 1))
walk_same n budget p seen k (Loading e es g gs) h = absurd h
walk_same n budget p seen k (Probing g gs q) h = absurd h
walk_same n budget p seen k (Walking e es) h = record {
  over = refl;
  as_many = (let c : asks_made k.walk + length es ≡ length (cone_of p) = h.2.count in omega arith);
}
walk_same n budget p seen k (Searching m) h = absurd h
walk_same n budget p seen k (Ended end) h = absurd h

search_same : (n budget : ℕ) (p : Problem) (s : Solving) (w : Work) → ShowsSearch p budget s w → SameLeft n budget p w false (turns_within (budget + 1) budget s.search.machine)
search_same n budget p s (Loading e es g gs) h = absurd h
search_same n budget p s (Probing g gs q) h = absurd h
search_same n budget p s (Walking e es) h = absurd h
search_same n budget p s (Searching m) h = record {
  over = refl;
  as_many = (let e : turns_within (budget + 1) budget m ≡ turns_within (budget + 1) budget s.search.machine = ap (turns_within (budget + 1) budget) (sym h.machine) in omega arith);
}
search_same n budget p s (Ended end) h = absurd h

end_same : (n budget : ℕ) (g : Goal) (seen nodes : List ℕ) (o : Outcome) (w : Work) → ShowsEnd g seen o nodes w → SameLeft n budget (problem_of g) w true 0
end_same n budget g seen nodes o (Loading e es h gs) s = absurd s
end_same n budget g seen nodes o (Probing h gs q) s = absurd s
end_same n budget g seen nodes o (Walking e es) s = absurd s
end_same n budget g seen nodes o (Searching m) s = absurd s
end_same n budget g seen nodes o (Ended end) s = record { over = refl; as_many = refl }

task_same : (n budget : ℕ) (g : Goal) (words seen : List ℕ) (t : Task) (w : Work) → ShowsTask g budget words seen t w → SameLeft n budget (problem_of g) w (task_ended t) (task_left n budget g t)
task_same n budget g words seen (task.Building b) w h = building_same n budget (problem_of g) words b w h
task_same n budget g words seen (task.Walking k) w h = walk_same n budget (problem_of g) seen k w h
task_same n budget g words seen (task.Searching s nodes) w h = search_same n budget (problem_of g) s w h.0
task_same n budget g words seen (task.Ended o nodes) w h = end_same n budget g seen nodes.items o w h

actor_same : (n : ℕ) (a : Actor) (words : List ℕ) (budget : ℕ) (g : Goal) (t : Task) → IsTask a words budget g t → SameLeft n budget a.problem a.work (task_ended t) (task_left n budget g t)
actor_same n a words budget g t h = subst (λ (p : Problem). SameLeft n budget p a.work (task_ended t) (task_left n budget g t)) (sym h.problem) (task_same n budget g words a.seen t a.work h.shows)

-- ---- of all goals

module _ (n : ℕ) (words : List ℕ) (budget : ℕ) where
  abbrev AreTasks : List Goal → List Task → List Actor → Type 0
  AreTasks goals tasks actors = (k : ℕ) (g : Goal) (t : Task) → slice_get goals k ≡ Some g → slice_get tasks k ≡ Some t → IsTask (slice_index_or actors k nobody) words budget g t

  unended_same : (base : ℕ) (goals : List Goal) (tasks : List Task) (actors : List Actor) → length tasks ≡ length goals → length actors ≡ length goals → AreTasks goals tasks actors → unended_from base actors ≡ tasks_unended base tasks
  unended_same base [] [] [] l m f = refl
  unended_same base [] [] (a ∷ more) l m f = absurd (omega arith)
  unended_same base [] (t ∷ ts) more l m f = absurd (omega arith)
  unended_same base (g ∷ gs) [] more l m f = absurd (omega arith)
  unended_same base (g ∷ gs) (t ∷ ts) [] l m f = absurd (omega arith)
  unended_same base (g ∷ gs) (t ∷ ts) (a ∷ more) l m f =
      let one : SameLeft n budget a.problem a.work (task_ended t) (task_left n budget g t) = actor_same n a words budget g t (f 0 g t refl refl) in
      let rest : unended_from (base + 1) more ≡ tasks_unended (base + 1) ts = unended_same (base + 1) gs ts more (omega arith) (omega arith) (λ k. f (suc k)) in
      ap (λ b. if b then unended_from (base + 1) more else base ∷ unended_from (base + 1) more) one.over ∙ ap (λ xs. if task_ended t then xs else base ∷ xs) rest

  left_same : (goals : List Goal) (tasks : List Task) (actors : List Actor) → length tasks ≡ length goals → length actors ≡ length goals → AreTasks goals tasks actors → all_left n budget actors ≡ tasks_left n budget goals tasks
  left_same [] [] [] l m f = refl
  left_same [] [] (a ∷ more) l m f = absurd (omega arith)
  left_same [] (t ∷ ts) more l m f = absurd (omega arith)
  left_same (g ∷ gs) [] more l m f = absurd (omega arith)
  left_same (g ∷ gs) (t ∷ ts) [] l m f = absurd (omega arith)
  left_same (g ∷ gs) (t ∷ ts) (a ∷ more) l m f =
      let one : SameLeft n budget a.problem a.work (task_ended t) (task_left n budget g t) = actor_same n a words budget g t (f 0 g t refl refl) in
      let rest : all_left n budget more ≡ tasks_left n budget gs ts = left_same gs ts more (omega arith) (omega arith) (λ k. f (suc k)) in
      ap (λ i. i + all_left n budget more) one.as_many ∙ ap (λ i. task_left n budget g t + i) rest

-- ---- of a world that is shown

-- one of the elements, where there are any
at_least : {A : Type 0} (xs : List A) (k : ℕ) → k < length xs → A
at_least [] k l = absurd (omega arith)
at_least (x ∷ xs) k l = x

pub run_count : (w : World) (events : List Event) → length (run events w).actors ≡ length w.actors
run_count w [] = refl
run_count w (e ∷ es) = run_count (happens w e) es ∙ (event_stays w e).count

pub run_budget : (w : World) (events : List Event) → (run events w).budget ≡ w.budget
run_budget w [] = refl
run_budget w (e ∷ es) = run_budget (happens w e) es ∙ (event_stays w e).budget

pub begun_count : (goals : List Goal) (n budget : ℕ) → length (begun (problems_of goals) n budget).actors ≡ length goals
begun_count goals n budget = length-map (problems_of goals) (begun_at n) ∙ length-map goals problem_of

pub shown_count : (c : CodeWorld) (w : World) → Shows c w → length w.actors ≡ length (goals_of c)
shown_count c w h = ap (λ (v : World). length v.actors) h.reached ∙ run_count (begun (problems_of (goals_of c)) (length c.words.items) c.budget) h.events ∙ begun_count (goals_of c) (length c.words.items) c.budget

pub shown_budget : (c : CodeWorld) (w : World) → Shows c w → w.budget ≡ c.budget
shown_budget c w h = ap (λ (v : World). v.budget) h.reached ∙ run_budget (begun (problems_of (goals_of c)) (length c.words.items) c.budget) h.events

-- the goals' scripts are those of goals
pub shown_scripted : (c : CodeWorld) (w : World) → Shows c w → AreScripted (problems_of (goals_of c))
shown_scripted c w h = λ g l.
    let goals : List Goal = goals_of c in
    let inside : g < length goals = subst (λ k. g < k) (length-map goals problem_of) l in
    let d : Goal = at_least goals g inside in
    let own : slice_get goals g ≡ Some (slice_index_or goals g d) = slice_get-get_or goals g d inside in
    let there : g < length c.tasks.items = subst (λ k. g < k) (sym h.count) inside in
    let u : Task = at_least c.tasks.items g there in
    let t = h.tasks_are g (slice_index_or goals g d) (slice_index_or c.tasks.items g u) own (slice_get-get_or c.tasks.items g u there) in
    subst (λ (p : Problem). IsScripted p) (t.problem ∙ sym (mapped_at problem_of goals g d nobody.problem inside)) t.scripted

shown_unended : (c : CodeWorld) (w : World) → Shows c w → unended w ≡ tasks_unended 0 c.tasks.items
shown_unended c w h = unended_same 0 c.words.items c.budget 0 (goals_of c) c.tasks.items w.actors h.count (shown_count c w h) h.tasks_are

pub same_unended : (c : CodeWorld) (w v : World) → Shows c w → Shows c v → unended w ≡ unended v
same_unended c w v h k = shown_unended c w h ∙ sym (shown_unended c v k)

pub shown_left : (c : CodeWorld) (w : World) → Shows c w → events_left w ≡ world_left c
shown_left c w h =
    ap (λ b. all_left (length w.words) b w.actors) (shown_budget c w h) ∙ ap (λ (ws : List ℕ). all_left (length ws) c.budget w.actors) h.words_are
    ∙ left_same (length c.words.items) c.words.items c.budget (goals_of c) c.tasks.items w.actors h.count (shown_count c w h) h.tasks_are
