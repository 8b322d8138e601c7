-- A goal's task stays that goal's while other goals write, and where the goal is cut off.
use Rattle.std.proofs.Common.{◌≡◌, ℕ, ◌≤◌, Bool, true, false, List, [], ◌∷◌, length, refl, sym, subst, true≢false, Some, None}
use Rattle.std.specs.declared.alloc.Global.{Global}
use Rattle.std.specs.declared.vec.Vec.{Vec}
use Rattle.gate_probe.specs.Sound.{IsSound, IsWithin}
use Rattle.bv_expr.specs.declared.goal.Goal.{Goal}
use Rattle.goal_reply.specs.declared.reply.Outcome.{Outcome}
use Rattle.goal_reply.specs.declared.reply.Outcome.TheVariants as outcome
use Rattle.gate_world.specs.Work.{Problem, Work, End, Loading, Probing, Walking, Searching, Ended, OutOfMemory, CancelledBy, cut_off}
use Rattle.gate_world.specs.World.{Actor, with_work}
use Rattle.gate_world.specs.Doing.{IsEnding, IsDoing}
use Rattle.gate_world.specs.Drawn.{has_ended}
use Rattle.gate_world.specs.Coding.{problem_of, ShowsBuilding}
use Rattle.gate_world.specs.Cone.{AreNodesOf}
use Rattle.gate_world.specs.Solving.{IsOutcomeOf, IsOutcomeBacked}
use Rattle.gate_world.specs.Tasks.{IsTask, IsBroken, ShowsEnd, ShowsTask, outcome_in}
use Rattle.gate_world.specs.declared.build.Building.{Building}
use Rattle.gate_world.specs.declared.task.Task.{Task}
use Rattle.gate_world.specs.declared.task.Task.TheVariants as task
use Rattle.gate_world.proofs.Keeping.{IsActor, actor_more, cuts}
use Rattle.gate_world.proofs.Coded.{calls_more}

abbrev anyone : ℕ → Type 0
anyone c = Unit {0}

building_more : (p : Problem) (words more : List ℕ) (b : Building) (w : Work) → IsWithin words more → ShowsBuilding p words b w → ShowsBuilding p more b w
building_more p words more b (Loading e es g gs) grows h = (h.0, calls_more p words more h.0 (g ∷ gs) b.calls grows h.1, h.2)
building_more p words more b (Probing g gs q) grows h = (h.0, calls_more p words more h.0 (g ∷ gs) b.calls grows h.1, h.2)
building_more p words more b (Walking e es) grows h = h
building_more p words more b (Searching m) grows h = h
building_more p words more b (Ended end) grows h = h

shown_more : (g : Goal) (budget : ℕ) (words more seen : List ℕ) (t : Task) (w : Work) → IsWithin words more → ShowsTask g budget words seen t w → ShowsTask g budget more seen t w
shown_more g budget words more seen (task.Building b) w grows h = building_more (problem_of g) words more b w grows h
shown_more g budget words more seen (task.Walking k) w grows h = h
shown_more g budget words more seen (task.Searching s nodes) w grows h = h
shown_more g budget words more seen (task.Ended o nodes) w grows h = h

-- where others have written
pub task_more : (a : Actor) (words more : List ℕ) (budget : ℕ) (g : Goal) (t : Task) → IsTask a words budget g t → IsSound more → length more ≡ length words → IsWithin words more → IsTask a more budget g t
task_more a words more budget g t h sound size grows =
    let now : IsActor (length words) budget more anyone a = actor_more (length words) budget words more anyone anyone a grows (λ c f. f) (record { within = h.within; scripted = h.scripted; doing = h.doing }) in
    let some = h.some in
    let few = h.few in
    record {
      problem = h.problem;
      shows = shown_more g budget words more a.seen t a.work grows h.shows;
      sound = sound;
      some = subst (λ x. 1 ≤ x) (sym size) some;
      few = subst (λ x. x ≤ 4000000) (sym size) few;
      within = now.within;
      scripted = h.scripted;
      doing = subst (λ x. IsDoing x budget more anyone a.problem a.seen a.work) (sym size) now.doing;
    }

-- ---- an end from outside

pub no_nodes : (seen nodes : List ℕ) → nodes ≡ [] → AreNodesOf seen [] nodes
no_nodes seen nodes e = subst (AreNodesOf seen []) (sym e) none
  where
    none : AreNodesOf seen [] []
    none = record { count = refl; each = λ n h. absurd (true≢false (sym h)); all = λ x h. absurd (true≢false (sym h)) }

cut_open : (end : End) (w : Work) → has_ended w ≡ false → cut_off end w ≡ Ended end
cut_open end (Loading e es g gs) h = refl
cut_open end (Probing g gs q) h = refl
cut_open end (Walking e es) h = refl
cut_open end (Searching m) h = refl
cut_open end (Ended old) h = absurd (true≢false h)

-- a goal that has ended stays as it is
pub cut_ended : (end : End) (w : Work) → has_ended w ≡ true → cut_off end w ≡ w
cut_ended end (Loading e es g gs) h = absurd (true≢false (sym h))
cut_ended end (Probing g gs q) h = absurd (true≢false (sym h))
cut_ended end (Walking e es) h = absurd (true≢false (sym h))
cut_ended end (Searching m) h = absurd (true≢false (sym h))
cut_ended end (Ended old) h = refl

-- and its task is still its task
pub task_stays : (a : Actor) (words : List ℕ) (budget : ℕ) (g : Goal) (t : Task) (end : End) → IsTask a words budget g t → has_ended a.work ≡ true → IsTask (with_work a (cut_off end a.work)) words budget g t
task_stays a words budget g t end h over = subst (λ (w : Work). IsTask (with_work a w) words budget g t) (sym (cut_ended end a.work over)) h

ends_so : (a : Actor) (words : List ℕ) (budget : ℕ) (g : Goal) (t next : Task) (end : End) → IsTask a words budget g t → has_ended a.work ≡ false → IsEnding (length words) budget words anyone a.problem end → ShowsTask g budget words a.seen next (Ended end)
    → IsTask (with_work a (cut_off end a.work)) words budget g next
ends_so a words budget g t next end h open' ending shows = record {
  problem = h.problem;
  shows = subst (λ (w : Work). ShowsTask g budget words a.seen next w) (sym (cut_open end a.work open')) shows;
  sound = h.sound;
  some = h.some;
  few = h.few;
  within = h.within;
  scripted = h.scripted;
  doing = cuts (length words) budget words anyone a.problem a.seen end a.work ending h.doing;
}

-- the goal is cancelled
pub task_cut : (a : Actor) (words : List ℕ) (budget : ℕ) (g : Goal) (t : Task) (cause : ℕ) (nodes : Vec ℕ Global) → IsTask a words budget g t → has_ended a.work ≡ false → nodes.items ≡ []
    → IsTask (with_work a (cut_off (CancelledBy cause) a.work)) words budget g (task.Ended (outcome.Cancelled cause) nodes)
task_cut a words budget g t cause nodes h open' none = ends_so a words budget g t (task.Ended (outcome.Cancelled cause) nodes) (CancelledBy cause) h open' tt (refl, tt, no_nodes a.seen nodes.items none)

broken_shows : (g : Goal) (budget : ℕ) (words seen : List ℕ) (t : Task) → IsBroken t → ShowsTask g budget words seen t (Ended OutOfMemory)
broken_shows g budget words seen (task.Building b) h = absurd h
broken_shows g budget words seen (task.Walking k) h = absurd h
broken_shows g budget words seen (task.Searching s nodes) h = absurd h
broken_shows g budget words seen (task.Ended o nodes) h =
    subst (λ (x : Outcome). ShowsEnd g seen x nodes.items (Ended OutOfMemory)) (sym h.0)
    (refl, record { proved = tt; accepted = tt; refuted = tt }, no_nodes seen nodes.items h.1)

-- the goal has run out of memory
pub task_broken : (a : Actor) (words : List ℕ) (budget : ℕ) (g : Goal) (t next : Task) → IsTask a words budget g t → has_ended a.work ≡ false → IsBroken next → IsTask (with_work a (cut_off OutOfMemory a.work)) words budget g next
task_broken a words budget g t next h open' broken = ends_so a words budget g t next OutOfMemory h open' tt (broken_shows g budget words a.seen next broken)

-- ---- whether a goal has ended

abbrev task_ended : Task → Bool
task_ended (task.Building b) = false
task_ended (task.Walking k) = false
task_ended (task.Searching s nodes) = false
task_ended (task.Ended o nodes) = true

ended_shown : (g : Goal) (budget : ℕ) (words seen : List ℕ) (t : Task) (w : Work) → ShowsTask g budget words seen t w → has_ended w ≡ task_ended t
ended_shown g budget words seen (task.Building b) (Loading e es h gs) s = refl
ended_shown g budget words seen (task.Building b) (Probing h gs q) s = refl
ended_shown g budget words seen (task.Building b) (Walking e es) s = absurd s
ended_shown g budget words seen (task.Building b) (Searching m) s = absurd s
ended_shown g budget words seen (task.Building b) (Ended end) s = absurd s
ended_shown g budget words seen (task.Walking k) (Loading e es h gs) s = absurd s
ended_shown g budget words seen (task.Walking k) (Probing h gs q) s = absurd s
ended_shown g budget words seen (task.Walking k) (Walking e es) s = refl
ended_shown g budget words seen (task.Walking k) (Searching m) s = absurd s
ended_shown g budget words seen (task.Walking k) (Ended end) s = absurd s
ended_shown g budget words seen (task.Searching z nodes) (Loading e es h gs) s = absurd s.0
ended_shown g budget words seen (task.Searching z nodes) (Probing h gs q) s = absurd s.0
ended_shown g budget words seen (task.Searching z nodes) (Walking e es) s = absurd s.0
ended_shown g budget words seen (task.Searching z nodes) (Searching m) s = refl
ended_shown g budget words seen (task.Searching z nodes) (Ended end) s = absurd s.0
ended_shown g budget words seen (task.Ended o nodes) (Loading e es h gs) s = absurd s
ended_shown g budget words seen (task.Ended o nodes) (Probing h gs q) s = absurd s
ended_shown g budget words seen (task.Ended o nodes) (Walking e es) s = absurd s
ended_shown g budget words seen (task.Ended o nodes) (Searching m) s = absurd s
ended_shown g budget words seen (task.Ended o nodes) (Ended end) s = refl

-- a goal whose task has no outcome hasn't ended
pub goes_on : (a : Actor) (words : List ℕ) (budget : ℕ) (g : Goal) (t : Task) → IsTask a words budget g t → outcome_in t ≡ None → has_ended a.work ≡ false
goes_on a words budget g t h none = go t (ended_shown g budget words a.seen t a.work h.shows) none
  where
    go : (x : Task) → has_ended a.work ≡ task_ended x → outcome_in x ≡ None → has_ended a.work ≡ false
    go (task.Building b) e n = e
    go (task.Walking k) e n = e
    go (task.Searching s nodes) e n = e
    go (task.Ended o nodes) e n = absurd (cc)

-- and one whose task has one has ended so
pub ended_as : (a : Actor) (words : List ℕ) (budget : ℕ) (g : Goal) (o : Outcome) (nodes : Vec ℕ Global) → IsTask a words budget g (task.Ended o nodes) → (end : End) × (a.work ≡ Ended end) × IsOutcomeOf o end × IsOutcomeBacked g o
ended_as a words budget g o nodes h = go a.work h.shows
  where
    go : (w : Work) → ShowsEnd g a.seen o nodes.items w → (end : End) × (w ≡ Ended end) × IsOutcomeOf o end × IsOutcomeBacked g o
    go (Loading e es k gs) s = absurd s
    go (Probing k gs q) s = absurd s
    go (Walking e es) s = absurd s
    go (Searching m) s = absurd s
    go (Ended end) s = (end, refl, s.0, s.1)

pub outcome_as : (a : Actor) (words : List ℕ) (budget : ℕ) (g : Goal) (t : Task) (o : Outcome) → IsTask a words budget g t → outcome_in t ≡ Some o → (end : End) × (a.work ≡ Ended end) × IsOutcomeOf o end × IsOutcomeBacked g o
outcome_as a words budget g (task.Building b) o h e = absurd (cc)
outcome_as a words budget g (task.Walking k) o h e = absurd (cc)
outcome_as a words budget g (task.Searching s nodes) o h e = absurd (cc)
outcome_as a words budget g (task.Ended x nodes) o h e =
    let is : x ≡ o = cc in
    subst (λ (y : Outcome). (end : End) × (a.work ≡ Ended end) × IsOutcomeOf y end × IsOutcomeBacked g y) is (ended_as a words budget g x nodes h)
