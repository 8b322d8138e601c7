-- What becomes of a world that goals, words and tasks in memory are those of, behind an event.
use Rattle.std.proofs.Common.{◌≡◌, ◌≢◌, ℕ, zero, suc, ◌<◌, ◌≤◌, Bool, true, false, Bor, List, [], ◌∷◌, ◌++◌, length, map, set, take, drop, get_or, slice_get, slice_index_or, option_map, Option, Some, None, is_some, refl, sym, ap, ◌∙◌, subst, arith, length-set, if◌then◌else◌, inl, inr}
use Rattle.std.proofs.lemmas.List.{get_or-set_same, get_or-set_other, length-map, append-nil}
use Rattle.std.proofs.lemmas.Option.{slice_get_within, slice_get_read, slice_get-map}
use mathlib.Core.Logic.{dite}
use native.Mathlib.Decide.{ℕ_discrete}
use Rattle.gate_probe.specs.Sound.{IsSound, IsWithin}
use Rattle.bv_expr.specs.declared.goal.Goal.{Goal}
use Rattle.gate_world.specs.Work.{Work, OutOfMemory, CancelledBy, cut_off, is_false}
use Rattle.gate_world.specs.World.{Actor, Moved, World, Event, Step, Turn, Cancel, Memory, nobody, actor_at, with_work, moved, turned, put, put_work, put_moved, happens, run, begun_at, begun}
use Rattle.gate_world.specs.Right.{AreScripted, IsRight}
use Rattle.gate_world.specs.Drawn.{has_ended}
use Rattle.gate_world.specs.Coding.{problem_of}
use Rattle.goal_reply.specs.declared.reply.Outcome.{Outcome}
use Rattle.gate_world.specs.Tasks.{IsTask, IsBroken, IsOf, TaskMoves, TaskTurns, outcome_in}
use Rattle.gate_world.specs.Reached.{AreIn, IsCancelled, IsWorld, StepsTo, TurnsTo, problems_of}
use Rattle.gate_world.specs.Shown.{MayBecome}
use Rattle.gate_world.specs.declared.task.Task.{Task}
use Rattle.gate_world.specs.declared.task.Task.TheVariants as task
use Rattle.gate_world.proofs.Keeping.{IsActor, Moves, moves}
use Rattle.gate_world.proofs.Running.{IsGood, Stays, event_stays, run_good, begun_good, stays_right}
use Rattle.gate_world.proofs.Tasked.{task_more, task_cut, task_broken, goes_on, outcome_as}

-- ---- lists with one element changed

pub get_same : {A : Type 0} (xs : List A) (g : ℕ) (x : A) → g < length xs → slice_get (set xs g x) g ≡ Some x
get_same [] g x l = absurd (omega arith)
get_same (y ∷ ys) zero x l = refl
get_same (y ∷ ys) (suc g) x l = get_same ys g x (omega arith)

pub get_other : {A : Type 0} (xs : List A) (g k : ℕ) (x : A) → k ≢ g → slice_get (set xs g x) k ≡ slice_get xs k
get_other [] g k x ne = refl
get_other (y ∷ ys) zero zero x ne = absurd (ne refl)
get_other (y ∷ ys) zero (suc k) x ne = refl
get_other (y ∷ ys) (suc g) zero x ne = refl
get_other (y ∷ ys) (suc g) (suc k) x ne = get_other ys g k x (λ e. ne (ap suc e))

some_same : {A : Type 0} {x y : A} → Some x ≡ Some y → x ≡ y
some_same e = cc

-- the tasks behind a change of one
pub record OneIs (tasks after : List Task) (g : ℕ) (next : Task) : Type 0 where
  pub count : length after ≡ length tasks
  pub here : slice_get after g ≡ Some next
  pub others : (k : ℕ) → k ≢ g → slice_get after k ≡ slice_get tasks k

pub one_set : (tasks : List Task) (g : ℕ) (next : Task) → g < length tasks → OneIs tasks (set tasks g next) g next
one_set tasks g next l = record { count = length-set tasks g next; here = get_same tasks g next l; others = λ k ne. get_other tasks g k next ne }

pub one_stays : (tasks : List Task) (g : ℕ) (t : Task) → slice_get tasks g ≡ Some t → OneIs tasks tasks g t
one_stays tasks g t e = record { count = refl; here = e; others = λ k ne. refl }

-- ---- lists of events

pub run_push : (events : List Event) (e : Event) (w : World) → run (events ++ e ∷ []) w ≡ happens (run events w) e
run_push [] e w = refl
run_push (x ∷ xs) e w = run_push xs e (happens w x)

run_keeps : (events : List Event) (w : World) → Stays w (run events w)
run_keeps [] w = record { size = refl; budget = refl; count = refl; problems = λ g. refl }
run_keeps (e ∷ es) w =
    let a = event_stays w e in
    let b = run_keeps es (happens w e) in
    record { size = b.size ∙ a.size; budget = b.budget ∙ a.budget; count = b.count ∙ a.count; problems = λ g. b.problems g ∙ a.problems g }

-- ---- a world that is shown

module _ (goals : List Goal) (words : List ℕ) (budget : ℕ) (tasks : List Task) (w : World) (h : AreIn goals words budget tasks w) where
  abbrev first : World
  first = begun (problems_of goals) (length words) budget

  pub kept : Stays first w
  kept = subst (Stays first) (sym h.reached) (run_keeps h.events first)

  pub budget_is : w.budget ≡ budget
  budget_is = kept.budget

  pub many : length w.actors ≡ length goals
  many = kept.count ∙ length-map (problems_of goals) (begun_at (length words)) ∙ length-map goals problem_of

  pub good : 1 ≤ length words → length words ≤ 4000000 → AreScripted (problems_of goals) → IsGood w
  good some few scripted = subst IsGood (sym h.reached) (run_good first h.events (begun_good (problems_of goals) (length words) budget some few scripted))

  pub right : 1 ≤ length words → length words ≤ 4000000 → AreScripted (problems_of goals) → IsRight (problems_of goals) (length w.words) w.budget w
  right some few scripted =
      let r : IsRight (problems_of goals) (length words) budget w = subst (IsRight (problems_of goals) (length words) budget) (sym h.reached) (stays_right (problems_of goals) (length words) budget h.events some few scripted) in
      let n : length words ≡ length w.words = ap length (sym h.words_are) in
      subst (λ k. IsRight (problems_of goals) k w.budget w) n (subst (λ b. IsRight (problems_of goals) (length words) b w) (sym budget_is) r)

  module _ (g : ℕ) (goal : Goal) (t : Task) (its_goal : slice_get goals g ≡ Some goal) (its_task : slice_get tasks g ≡ Some t) where
    pub its : IsTask (actor_at w g) words budget goal t
    its = h.tasks_are g goal t its_goal its_task

    inside : g < length w.actors
    inside = let l = slice_get_within goals g goal its_goal in let m = many in omega arith

    -- one goal goes on, and the others stay
    pub put_shown : (e : Event) (more : List ℕ) (a : Actor) (after : List Task) (next : Task) → happens w e ≡ put w g more a → length more ≡ length words → IsSound more → IsWithin words more → IsTask a more budget goal next → OneIs tasks after g next
        → AreIn goals more budget after (happens w e)
    put_shown e more a after next is size sound grows task one =
        let each : (k : ℕ) (x : Goal) (s : Task) → slice_get goals k ≡ Some x → slice_get after k ≡ Some s → IsTask (actor_at (put w g more a) k) more budget x s =
        (λ k x s p q. dite (ℕ_discrete k g)
        (λ (same : k ≡ g).
        let gx : goal ≡ x = some_same (sym its_goal ∙ ap (slice_get goals) (sym same) ∙ p) in
        let ns : next ≡ s = some_same (sym one.here ∙ ap (slice_get after) (sym same) ∙ q) in
        let at : actor_at (put w g more a) k ≡ a = ap (λ j. slice_index_or (set w.actors g a) j nobody) same ∙ get_or-set_same w.actors g a nobody inside in
        subst (λ (y : Actor). IsTask y more budget x s) (sym at) (subst (λ (y : Goal). IsTask a more budget y s) gx (subst (λ (y : Task). IsTask a more budget goal y) ns task)))
        (λ (ne : k ≢ g).
        let at : actor_at (put w g more a) k ≡ actor_at w k = get_or-set_other w.actors g k a nobody ne in
        subst (λ (y : Actor). IsTask y more budget x s) (sym at) (task_more (actor_at w k) words more budget x s (h.tasks_are k x s p (sym (one.others k ne) ∙ q)) sound size grows))) in
        record {
          events = h.events ++ e ∷ [];
          reached = ap (λ (v : World). happens v e) h.reached ∙ sym (run_push h.events e first) ∙ ap (λ n. run (h.events ++ e ∷ []) (begun (problems_of goals) n budget)) (sym size);
          words_are = ap (λ (v : World). v.words) is;
          count = one.count ∙ h.count;
          tasks_are = λ k x s p q. subst (λ (v : World). IsTask (actor_at v k) more budget x s) (sym is) (each k x s p q);
        }

    -- a load or claim
    pub moves_shown : (new : List ℕ) (after : List Task) (next : Task) → TaskMoves words budget goal t new next → OneIs tasks after g next → AreIn goals new budget after (happens w (Step g))
    moves_shown new after next move one =
        let a : Actor = actor_at w g in
        let m : Moved = moved words a a.work in
        let m' : Moved = moved w.words a a.work in
        let actor : IsActor (length words) budget words (λ _. Unit {0}) a = record { within = its.within; scripted = its.scripted; doing = its.doing } in
        let k : Moves (length words) budget words (λ _. Unit {0}) a m = moves (length words) budget (λ _. Unit {0}) its.some its.few words a a.work refl its.sound actor refl its.doing in
        let to = move a its in
        let is : put_moved w g m' ≡ put w g new m.actor = ap (λ ws. put_moved w g (moved ws a a.work)) h.words_are ∙ ap (λ ws. put w g ws m.actor) (sym to.0) in
        put_shown (Step g) new m.actor after next is (ap length to.0 ∙ k.size) (subst IsSound (sym to.0) k.sound) (subst (λ ws. IsWithin words ws) (sym to.0) k.grows) to.1 one

    -- what changes the goal's work alone
    pub work_shown : (e : Event) (work : Work) (after : List Task) (next : Task) → happens w e ≡ put_work w g work → IsTask (with_work (actor_at w g) work) words budget goal next → OneIs tasks after g next → AreIn goals words budget after (happens w e)
    work_shown e work after next is task one =
        put_shown e words (with_work (actor_at w g) work) after next (is ∙ ap (λ ws. put w g ws (with_work (actor_at w g) work)) h.words_are) refl its.sound (λ s z. refl) task one

    -- a machine step
    pub turns_shown : (after : List Task) (next : Task) → TaskTurns budget goal t next → OneIs tasks after g next → AreIn goals words budget after (happens w (Turn g))
    turns_shown after next turn one =
        let a : Actor = actor_at w g in
        let to : IsTask (with_work a (turned w.budget a.problem a.work)) words budget goal next = subst (λ b. IsTask (with_work a (turned b a.problem a.work)) words budget goal next) (sym budget_is) (turn a words its) in
        work_shown (Turn g) (turned w.budget a.problem a.work) after next refl to one

    -- the task of a goal that has ended stays
    pub stays_shown : (e : Event) → happens w e ≡ put w g w.words (actor_at w g) → AreIn goals words budget tasks (happens w e)
    stays_shown e is = put_shown e words (actor_at w g) tasks t (is ∙ ap (λ ws. put w g ws (actor_at w g)) h.words_are) refl its.sound (λ s z. refl) its (one_stays tasks g t its_task)

  -- an event that changes nothing
  pub idle_shown : (e : Event) → happens w e ≡ w → AreIn goals words budget tasks (happens w e)
  idle_shown e is = record {
    events = h.events ++ e ∷ [];
    reached = ap (λ (v : World). happens v e) h.reached ∙ sym (run_push h.events e first);
    words_are = ap (λ (v : World). v.words) is ∙ h.words_are;
    count = h.count;
    tasks_are = λ k x s p q. subst (λ (v : World). IsTask (actor_at v k) words budget x s) (sym is) (h.tasks_are k x s p q);
  }

-- ---- what an event makes of the parts of a value

abbrev pub PartsBecome : Event → List Goal → List ℕ → ℕ → List Task → List ℕ → List Task → Type 0
PartsBecome e goals old budget tasks new after = (w : World) → AreIn goals old budget tasks w → (v : World) × MayBecome e w v × AreIn goals new budget after v

pub world_on : (e : Event) (goals : List Goal) (old : List ℕ) (budget : ℕ) (tasks : List Task) (new : List ℕ) (after : List Task) → IsWorld goals old budget tasks → length new ≡ length old → PartsBecome e goals old budget tasks new after → IsWorld goals new budget after
world_on e goals old budget tasks new after h size on =
    let next = on h.world h.shown in
    let some = h.some in
    let few = h.few in
    record { some = omega arith; few = omega arith; few_goals = h.few_goals; steps = h.steps; scripted = h.scripted; world = next.0; shown = next.2 }

pub one_set_twice : (tasks after : List Task) (g : ℕ) (mid next : Task) → g < length tasks → after ≡ set (set tasks g mid) g next → OneIs tasks after g next
one_set_twice tasks after g mid next l e =
    let size : length (set tasks g mid) ≡ length tasks = length-set tasks g mid in
    subst (λ (ts : List Task). OneIs tasks ts g next) (sym e) (record {
      count = length-set (set tasks g mid) g next ∙ size;
      here = get_same (set tasks g mid) g next (subst (λ n. g < n) (sym size) l);
      others = λ k ne. get_other (set tasks g mid) g k next ne ∙ get_other tasks g k mid ne;
    })

some_outcome : (o : Option Outcome) → is_some o ≡ true → (x : Outcome) × (o ≡ Some x)
some_outcome (Some x) e = (x, refl)
some_outcome None e = absurd (cc)

no_outcome : (o : Option Outcome) → is_some o ≡ false → o ≡ None
no_outcome (Some x) e = absurd (cc)
no_outcome None e = refl

cancelled_is : (g : Goal) (budget : ℕ) (words : List ℕ) (a : Actor) (t next : Task) (cause : ℕ) → IsTask a words budget g t → has_ended a.work ≡ false → IsCancelled cause next → IsTask (with_work a (cut_off (CancelledBy cause) a.work)) words budget g next
cancelled_is g budget words a t (task.Building b) cause h open' c = absurd c
cancelled_is g budget words a t (task.Walking k) cause h open' c = absurd c
cancelled_is g budget words a t (task.Searching s nodes) cause h open' c = absurd c
cancelled_is g budget words a t (task.Ended o nodes) cause h open' c =
    subst (λ (x : Outcome). IsTask (with_work a (cut_off (CancelledBy cause) a.work)) words budget g (task.Ended x nodes)) (sym c.0) (task_cut a words budget g t cause nodes h open' c.1)

module _ (goals : List Goal) (words : List ℕ) (budget : ℕ) (tasks : List Task) (g : ℕ) (goal : Goal) (t : Task) (its_goal : slice_get goals g ≡ Some goal) (its_task : slice_get tasks g ≡ Some t) where
  -- the goal has ended: a load, claim or machine step changes nothing
  pub ended_loads : is_some (outcome_in t) ≡ true → PartsBecome (Step g) goals words budget tasks words tasks
  ended_loads over w h =
      let x = some_outcome (outcome_in t) over in
      let a : Actor = actor_at w g in
      let r = outcome_as a words budget goal t x.0 (h.tasks_are g goal t its_goal its_task) x.1 in
      let is : happens w (Step g) ≡ put w g w.words a = ap (λ (work : Work). put_moved w g (moved w.words a work)) r.1 in
      (happens w (Step g), inl refl, stays_shown goals words budget tasks w h g goal t its_goal its_task (Step g) is)

  pub ended_turns : is_some (outcome_in t) ≡ true → PartsBecome (Turn g) goals words budget tasks words tasks
  ended_turns over w h =
      let x = some_outcome (outcome_in t) over in
      let a : Actor = actor_at w g in
      let r = outcome_as a words budget goal t x.0 (h.tasks_are g goal t its_goal its_task) x.1 in
      let is : happens w (Turn g) ≡ put w g w.words a = ap (λ (work : Work). put_work w g (turned w.budget a.problem work)) r.1 ∙ ap (λ (work : Work). put_work w g work) (sym r.1) in
      (happens w (Turn g), inl refl, stays_shown goals words budget tasks w h g goal t its_goal its_task (Turn g) is)

  pub ended_stays : (cause : ℕ) → is_some (outcome_in t) ≡ true → ((w : World) → AreIn goals words budget tasks w → is_false (actor_at w cause).work ≡ true) → PartsBecome (Cancel g cause) goals words budget tasks words tasks
  ended_stays cause over false' w h =
      let x = some_outcome (outcome_in t) over in
      let a : Actor = actor_at w g in
      let r = outcome_as a words budget goal t x.0 (h.tasks_are g goal t its_goal its_task) x.1 in
      let cut : put_work w g (cut_off (CancelledBy cause) a.work) ≡ put w g w.words a = ap (λ (work : Work). put_work w g (cut_off (CancelledBy cause) work)) r.1 ∙ ap (λ (work : Work). put_work w g work) (sym r.1) in
      let is : happens w (Cancel g cause) ≡ put w g w.words a = ap (λ b. if b then put_work w g (cut_off (CancelledBy cause) a.work) else w) (false' w h) ∙ cut in
      (happens w (Cancel g cause), refl, stays_shown goals words budget tasks w h g goal t its_goal its_task (Cancel g cause) is)

  -- the goal goes on
  module _ (open' : is_some (outcome_in t) ≡ false) (after : List Task) (next : Task) (one : OneIs tasks after g next) where
    unended : (w : World) → AreIn goals words budget tasks w → has_ended (actor_at w g).work ≡ false
    unended w h = goes_on (actor_at w g) words budget goal t (h.tasks_are g goal t its_goal its_task) (no_outcome (outcome_in t) open')

    out_of_memory : (w : World) (h : AreIn goals words budget tasks w) → IsBroken next → AreIn goals words budget after (happens w (Memory g))
    out_of_memory w h broken =
        let a : Actor = actor_at w g in
        work_shown goals words budget tasks w h g goal t its_goal its_task (Memory g) (cut_off OutOfMemory a.work) after next refl (task_broken a words budget goal t next (h.tasks_are g goal t its_goal its_task) (unended w h) broken) one

    pub loads_on : (new : List ℕ) → StepsTo words budget goal t new next → PartsBecome (Step g) goals words budget tasks new after
    loads_on new steps w h = elim steps [
      | inl move ↦ (happens w (Step g), inl refl, moves_shown goals words budget tasks w h g goal t its_goal its_task new after next move one)
      | inr broken ↦ (happens w (Memory g), inr refl, subst (λ ws. AreIn goals ws budget after (happens w (Memory g))) (sym broken.1) (out_of_memory w h broken.0))
    ]

    pub turns_on : TurnsTo goal t next → PartsBecome (Turn g) goals words budget tasks words after
    turns_on turns w h = elim turns [
      | inl turn ↦ (happens w (Turn g), inl refl, turns_shown goals words budget tasks w h g goal t its_goal its_task after next (turn budget) one)
      | inr broken ↦ (happens w (Memory g), inr refl, out_of_memory w h broken)
    ]

    pub cancels_on : (cause : ℕ) → IsCancelled cause next → ((w : World) → AreIn goals words budget tasks w → is_false (actor_at w cause).work ≡ true) → PartsBecome (Cancel g cause) goals words budget tasks words after
    cancels_on cause cancelled false' w h =
        let a : Actor = actor_at w g in
        let is : happens w (Cancel g cause) ≡ put_work w g (cut_off (CancelledBy cause) a.work) = ap (λ b. if b then put_work w g (cut_off (CancelledBy cause) a.work) else w) (false' w h) in
        (happens w (Cancel g cause), refl, work_shown goals words budget tasks w h g goal t its_goal its_task (Cancel g cause) (cut_off (CancelledBy cause) a.work) after next is (cancelled_is goal budget words a t next cause (h.tasks_are g goal t its_goal its_task) (unended w h) cancelled) one)

-- the cause isn't replied false
pub none_cancelled : (goals : List Goal) (words : List ℕ) (budget : ℕ) (tasks : List Task) (g cause : ℕ) → ((w : World) → AreIn goals words budget tasks w → is_false (actor_at w cause).work ≡ false) → PartsBecome (Cancel g cause) goals words budget tasks words tasks
none_cancelled goals words budget tasks g cause true' w h =
    let is : happens w (Cancel g cause) ≡ w = ap (λ b. if b then put_work w g (cut_off (CancelledBy cause) (actor_at w g).work) else w) (true' w h) in
    (happens w (Cancel g cause), refl, idle_shown goals words budget tasks w h (Cancel g cause) is)

-- what is told of the cause
pub cause_is : (goals : List Goal) (words : List ℕ) (budget : ℕ) (tasks : List Task) (cause : ℕ) (goal : Goal) (t : Task) (b : Bool) → slice_get goals cause ≡ Some goal → slice_get tasks cause ≡ Some t → IsOf goal t (λ work. b ≡ is_false work) → (w : World) → AreIn goals words budget tasks w → is_false (actor_at w cause).work ≡ b
cause_is goals words budget tasks cause goal t b p q of w h = sym (of (actor_at w cause) words budget (h.tasks_are cause goal t p q))

-- ---- by what the code has read

pub there : {A : Type 0} (xs : List A) (g : ℕ) → g < length xs → (x : A) × (slice_get xs g ≡ Some x)
there [] g l = absurd (omega arith)
there (x ∷ xs) zero l = (x, refl)
there (x ∷ xs) (suc g) l = there xs g (omega arith)

module _ (goals : List Goal) (words : List ℕ) (budget : ℕ) (tasks : List Task) (h : IsWorld goals words budget tasks) (g : ℕ) (l : g < length goals) where
  pub in_tasks : g < length tasks
  in_tasks = let n = h.shown.count in omega arith

  goal_there : (goal : Goal) × (slice_get goals g ≡ Some goal)
  goal_there = there goals g l

  task_there : (t : Task) × (slice_get tasks g ≡ Some t)
  task_there = there tasks g in_tasks

  pub load_ended : (b : Bool) → b ≡ true → ((t : Task) → slice_get tasks g ≡ Some t → b ≡ is_some (outcome_in t)) → PartsBecome (Step g) goals words budget tasks words tasks
  load_ended b so f = ended_loads goals words budget tasks g goal_there.0 task_there.0 goal_there.1 task_there.1 (sym (f task_there.0 task_there.1) ∙ so)

  pub turn_ended : (b : Bool) → b ≡ true → ((t : Task) → slice_get tasks g ≡ Some t → b ≡ is_some (outcome_in t)) → PartsBecome (Turn g) goals words budget tasks words tasks
  turn_ended b so f = ended_turns goals words budget tasks g goal_there.0 task_there.0 goal_there.1 task_there.1 (sym (f task_there.0 task_there.1) ∙ so)

  pub its_task_is : (goal : Goal) (t : Task) → slice_get goals g ≡ Some goal → slice_get tasks g ≡ Some t → IsTask (actor_at h.world g) words budget goal t
  its_task_is goal t p q = h.shown.tasks_are g goal t p q

  module _ (b : Bool) (off : b ≡ false) (f : (t : Task) → slice_get tasks g ≡ Some t → b ≡ is_some (outcome_in t)) where
    pub loads_set : (goal : Goal) (t mid next : Task) (new : List ℕ) (after : List Task) → slice_get goals g ≡ Some goal → slice_get tasks g ≡ Some t → after ≡ set (set tasks g mid) g next → StepsTo words budget goal t new next → PartsBecome (Step g) goals words budget tasks new after
    loads_set goal t mid next new after p q e steps = loads_on goals words budget tasks g goal t p q (sym (f t q) ∙ off) after next (one_set_twice tasks after g mid next in_tasks e) new steps

    pub turns_set : (goal : Goal) (t mid next : Task) (after : List Task) → slice_get goals g ≡ Some goal → slice_get tasks g ≡ Some t → after ≡ set (set tasks g mid) g next → TurnsTo goal t next → PartsBecome (Turn g) goals words budget tasks words after
    turns_set goal t mid next after p q e turns = turns_on goals words budget tasks g goal t p q (sym (f t q) ∙ off) after next (one_set_twice tasks after g mid next in_tasks e) turns

  module _ (cause : ℕ) (in_goals : cause < length goals) (b : Bool) (told : (t : Task) (x : Goal) → slice_get tasks cause ≡ Some t → IsOf x t (λ work. b ≡ is_false work)) where
    its_cause : (w : World) → AreIn goals words budget tasks w → is_false (actor_at w cause).work ≡ b
    its_cause =
        let x = there goals cause in_goals in
        let y = there tasks cause (let n = h.shown.count in omega arith) in
        cause_is goals words budget tasks cause x.0 y.0 b x.1 y.1 (told y.0 x.0 y.1)

    pub cancel_none : b ≡ false → PartsBecome (Cancel g cause) goals words budget tasks words tasks
    cancel_none off = none_cancelled goals words budget tasks g cause (λ w k. its_cause w k ∙ off)

    pub cancel_ended : b ≡ true → (o : Bool) → o ≡ true → ((t : Task) → slice_get tasks g ≡ Some t → o ≡ is_some (outcome_in t)) → PartsBecome (Cancel g cause) goals words budget tasks words tasks
    cancel_ended so o over f = ended_stays goals words budget tasks g goal_there.0 task_there.0 goal_there.1 task_there.1 cause (sym (f task_there.0 task_there.1) ∙ over) (λ w k. its_cause w k ∙ so)

    pub cancel_set : b ≡ true → (o : Bool) → o ≡ false → ((t : Task) → slice_get tasks g ≡ Some t → o ≡ is_some (outcome_in t)) → (next : Task) (after : List Task) → IsCancelled cause next → after ≡ set tasks g next → PartsBecome (Cancel g cause) goals words budget tasks words after
    cancel_set so o off f next after cancelled e =
        cancels_on goals words budget tasks g goal_there.0 task_there.0 goal_there.1 task_there.1 (sym (f task_there.0 task_there.1) ∙ off) after next (subst (λ (ts : List Task). OneIs tasks ts g next) (sym e) (one_set tasks g next in_tasks)) cause cancelled (λ w k. its_cause w k ∙ so)

-- what is read of a list of references
pub read_goal : (xs : List (Bor Goal)) (g : ℕ) (x : Bor Goal) → g < length (map (λ y. y.now) xs) → x ≡ get_or xs g x → slice_get (map (λ y. y.now) xs) g ≡ Some x.now
read_goal xs g x l e =
    let n : length (map (λ y. y.now) xs) ≡ length xs = length-map xs (λ y. y.now) in
    let at : slice_get xs g ≡ Some x = slice_get_read xs (length xs) g x refl (subst (λ k. g < k) n l) e in
    slice_get-map (λ y. y.now) xs g ∙ ap (option_map (λ y. y.now)) at

-- the words of a vector whose slice was lent
pub lent_words : (n : ℕ) (new old : List ℕ) → n ≡ length old → length new ≡ length old → take n (new ++ drop (length new) old) ≡ new
lent_words n new old is size =
    let none : drop (length new) old ≡ [] = subst (λ k. drop k old ≡ []) (sym size) (drop_whole old) in
    subst (λ xs. take n (new ++ xs) ≡ new) (sym none) (append_none new ∙ is_whole)
  where
    drop_whole : (xs : List ℕ) → drop (length xs) xs ≡ []
    drop_whole [] = refl
    drop_whole (x ∷ xs) = drop_whole xs

    take_whole : (xs : List ℕ) → take (length xs) xs ≡ xs
    take_whole [] = refl
    take_whole (x ∷ xs) = ap (λ ys. x ∷ ys) (take_whole xs)

    append_none : (xs : List ℕ) → take n (xs ++ []) ≡ take n xs
    append_none xs = ap (take n) (append-nil xs)

    is_whole : take n new ≡ new
    is_whole = subst (λ k. take k new ≡ new) (sym (is ∙ sym size)) (take_whole new)

pub read_task : (xs : List Task) (g : ℕ) (x : Task) → g < length xs → x ≡ get_or xs g x → slice_get xs g ≡ Some x
read_task xs g x l e = slice_get_read xs (length xs) g x refl l e

pub count_mapped : (xs : List (Bor Goal)) (n : ℕ) → length xs ≤ n → length (map (λ y. y.now) xs) ≤ n
count_mapped xs n l = subst (λ k. k ≤ n) (sym (length-map xs (λ y. y.now))) l
