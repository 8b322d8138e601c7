-- Values that show worlds: at first, behind events, and at the end.
use Rattle.std.proofs.Common.{◌≡◌, ◌≢◌, ℕ, zero, suc, ◌+◌, ◌<◌, ◌≤◌, ◌^◌, Bor, true, List, [], ◌∷◌, ◌++◌, length, map, replicate, take, get_or, slice_get, slice_index_or, IfSome, IfNone, Option, Some, None, refl, sym, ap, ◌∙◌, subst, arith, true≢false, All, ◌⊎◌, inl, inr}
use Rattle.std.proofs.lemmas.List.{length-map, length-replicate}
use Rattle.std.proofs.lemmas.Grind.{take_at_read}
use Rattle.std.proofs.lemmas.Option.{slice_get-get_or}
use Rattle.gate_probe.specs.Words.{word_at}
use Rattle.gate_probe.specs.Sound.{IsSound}
use Rattle.bv_expr.specs.declared.goal.Goal.{Goal}
use Rattle.goal_reply.specs.declared.reply.Outcome.{Outcome}
use Rattle.gate_world.specs.Work.{Problem, Work, End, Loading, Probing, Walking, Searching, Ended}
use Rattle.gate_world.specs.World.{Actor, World, Event, Step, Turn, Cancel, Memory, nobody, actor_at, happens, run, begun_at, begun}
use Rattle.gate_world.specs.Right.{AreScripted, IsScripted, problem_at}
use Rattle.gate_world.specs.Drawn.{has_ended}
use Rattle.gate_world.specs.Coding.{problem_of}
use Rattle.gate_world.specs.Solving.{IsOutcomeOf, IsOutcomeBacked}
use Rattle.gate_world.specs.Tasks.{IsTask, outcome_in}
use Rattle.gate_world.specs.Reached.{AreIn, IsWorld, problems_of}
use Rattle.gate_world.specs.Scheduled.{AreOutcomesOf, AreBacked}
use Rattle.gate_world.specs.Shown.{MayBecome, IsWithMemory, AreWithMemory, AllHappen, Happens, IsSameWorld, Shows, event_of, phase_of}
use Rattle.gate_world.specs.declared.task.Task.{Task}
use Rattle.gate_world.specs.declared.event.Event.{Event as CodeEvent}
use Rattle.gate_world.specs.declared.event.Phase.TheVariants as phase
use Rattle.gate_world.specs.declared.world.World.{World as CodeWorld}
use Rattle.gate_world.proofs.Tasked.{goes_on, outcome_as}
use Rattle.gate_world.proofs.Shown.{many, run_push}

-- ---- at first

no_word : (n s : ℕ) → word_at (replicate n 0) s ≡ 0
no_word zero s = refl
no_word (suc n) zero = refl
no_word (suc n) (suc s) = no_word n s

pub empty_sound : (n : ℕ) → IsSound (replicate n 0)
empty_sound n s h = absurd (h (no_word n s))

begun_actor : (n : ℕ) (goals : List Goal) (g : ℕ) (goal : Goal) → slice_get goals g ≡ Some goal → slice_index_or (map (begun_at n) (problems_of goals)) g nobody ≡ begun_at n (problem_of goal)
begun_actor n [] g goal e = absurd (cc)
begun_actor n (x ∷ xs) zero goal e = ap (λ (y : Goal). begun_at n (problem_of y)) (some_is e)
  where
    some_is : Some x ≡ Some goal → x ≡ goal
    some_is q = cc
begun_actor n (x ∷ xs) (suc g) goal e = begun_actor n xs g goal e

-- so many goals are begun
pub record AreBegun (goals : List Goal) (n budget i : ℕ) (tasks : List Task) : Type 0 where
  pub count : length tasks ≡ i
  pub scripted : (k : ℕ) (goal : Goal) → k < i → slice_get goals k ≡ Some goal → IsScripted (problem_of goal)
  pub tasks_are : (k : ℕ) (goal : Goal) (t : Task) → slice_get goals k ≡ Some goal → slice_get tasks k ≡ Some t → IsTask (begun_at n (problem_of goal)) (replicate n 0) budget goal t

pub none_begun : (goals : List Goal) (n budget : ℕ) → AreBegun goals n budget 0 []
none_begun goals n budget = record { count = refl; scripted = λ k goal l. absurd (omega arith); tasks_are = λ k goal t p q. absurd (nothing q) }
  where
    nothing : {t : Task} → None ≡ Some t → ⊥
    nothing e = cc

last_or_before : {A : Type 0} (xs : List A) (x : A) (k : ℕ) (y : A) → slice_get (xs ++ x ∷ []) k ≡ Some y → (slice_get xs k ≡ Some y) ⊎ ((k ≡ length xs) × (x ≡ y))
last_or_before [] x zero y e = inr (refl, some_is e)
  where
    some_is : Some x ≡ Some y → x ≡ y
    some_is q = cc
last_or_before [] x (suc k) y e = absurd (cc)
last_or_before (z ∷ zs) x zero y e = inl e
last_or_before (z ∷ zs) x (suc k) y e = elim (last_or_before zs x k y e) [ inl p ↦ inl p | inr p ↦ inr (ap suc p.0 ∙ grow (length zs), p.1) ]
  where
    grow : (n : ℕ) → suc n ≡ suc n
    grow n = refl

get_one : {A : Type 0} (xs : List A) (k : ℕ) (x y : A) → slice_get xs k ≡ Some x → slice_get xs k ≡ Some y → x ≡ y
get_one xs k x y p q = some_is (sym p ∙ q)
  where
    some_is : Some x ≡ Some y → x ≡ y
    some_is e = cc

pub begun_push : (goals : List Goal) (n budget i : ℕ) (tasks : List Task) (goal : Goal) (t : Task) → AreBegun goals n budget i tasks → slice_get goals i ≡ Some goal → IsScripted (problem_of goal) → IsTask (begun_at n (problem_of goal)) (replicate n 0) budget goal t
    → AreBegun goals n budget (i + 1) (tasks ++ t ∷ [])
begun_push goals n budget i tasks goal t h at scripted task = record {
  count = more;
  scripted = λ k x l e. elim (below k l) [ inl p ↦ h.scripted k x p e | inr p ↦ subst (λ (y : Goal). IsScripted (problem_of y)) (get_one goals i goal x at (ap (slice_get goals) (sym p) ∙ e)) scripted ];
  tasks_are = λ k x s p q. elim (last_or_before tasks t k s q) [
    | inl r ↦ h.tasks_are k x s p r
    | inr r ↦
        let here : k ≡ i = r.0 ∙ h.count in
        subst (λ (y : Goal). IsTask (begun_at n (problem_of y)) (replicate n 0) budget y s) (get_one goals i goal x at (ap (slice_get goals) (sym here) ∙ p)) (subst (λ (y : Task). IsTask (begun_at n (problem_of goal)) (replicate n 0) budget goal y) r.1 task)
  ];
}
  where
    more : length (tasks ++ t ∷ []) ≡ i + 1
    more = grown tasks i h.count
      where
        grown : (ts : List Task) (j : ℕ) → length ts ≡ j → length (ts ++ t ∷ []) ≡ j + 1
        grown ts j e = let l = longer ts in omega arith
          where
            longer : (us : List Task) → length (us ++ t ∷ []) ≡ length us + 1
            longer [] = refl
            longer (u ∷ us) = let r = longer us in omega arith

    below : (k : ℕ) → k < i + 1 → (k < i) ⊎ (k ≡ i)
    below k l = apart k i (omega arith)
      where
        apart : (a b : ℕ) → a ≤ b → (a < b) ⊎ (a ≡ b)
        apart zero zero l = inr refl
        apart zero (suc b) l = inl (omega arith)
        apart (suc a) zero l = absurd (omega arith)
        apart (suc a) (suc b) l = elim (apart a b (omega arith)) [ inl p ↦ inl (omega arith) | inr p ↦ inr (ap suc p) ]

pub begun_shown : (goals : List Goal) (n budget : ℕ) (tasks : List Task) → AreBegun goals n budget (length goals) tasks → AreIn goals (replicate n 0) budget tasks (begun (problems_of goals) n budget)
begun_shown goals n budget tasks h = record {
  events = [];
  reached = ap (λ k. begun (problems_of goals) k budget) (sym (length-replicate n 0));
  words_are = refl;
  count = h.count;
  tasks_are = λ g goal t p q. subst (λ (a : Actor). IsTask a (replicate n 0) budget goal t) (sym (begun_actor n goals g goal p)) (h.tasks_are g goal t p q);
}

problem_of_one : (goals : List Goal) (g : ℕ) → g < length goals → (goal : Goal) × (slice_get goals g ≡ Some goal) × (problem_at (problems_of goals) g ≡ problem_of goal)
problem_of_one [] g l = absurd (omega arith)
problem_of_one (x ∷ xs) zero l = (x, refl, refl)
problem_of_one (x ∷ xs) (suc g) l = problem_of_one xs g (omega arith)

pub begun_scripted : (goals : List Goal) (n budget : ℕ) (tasks : List Task) → AreBegun goals n budget (length goals) tasks → AreScripted (problems_of goals)
begun_scripted goals n budget tasks h g l =
    let l' : g < length goals = subst (λ k. g < k) (length-map goals problem_of) l in
    let p = problem_of_one goals g l' in
    subst (λ (y : Problem). IsScripted y) (sym p.2) (h.scripted g p.0 l' p.1)

-- ---- behind events

-- the event that stands for what became of the world
became : (e : Event) (w v : World) → MayBecome e w v → (f : Event) × IsWithMemory e f × (v ≡ happens w f)
became (Step g) w v m = elim m [ inl p ↦ (Step g, inl refl, p) | inr p ↦ (Memory g, inr refl, p) ]
became (Turn g) w v m = elim m [ inl p ↦ (Turn g, inl refl, p) | inr p ↦ (Memory g, inr refl, p) ]
became (Cancel g cause) w v m = (Cancel g cause, refl, m)
became (Memory g) w v m = (Memory g, refl, m)

with_push : (es : List CodeEvent) (e : CodeEvent) (fs : List Event) (f : Event) → AreWithMemory (map event_of es) fs → IsWithMemory (event_of e) f → AreWithMemory (map event_of (es ++ e ∷ [])) (fs ++ f ∷ [])
with_push [] e [] f h k = (k, tt)
with_push [] e (x ∷ xs) f h k = absurd h
with_push (y ∷ ys) e [] f h k = absurd h
with_push (y ∷ ys) e (x ∷ xs) f h k = (h.0, with_push ys e xs f h.1 k)

pub all_push : (es : List CodeEvent) (e : CodeEvent) (old mid new : CodeWorld) → AllHappen es old mid → Happens e mid new → AllHappen (es ++ e ∷ []) old new
all_push es e old mid new h k w s =
    let a = h w s in
    let b = k (run a.0 w) a.2 in
    let f = became (event_of e) (run a.0 w) b.0 b.1 in
    (a.0 ++ f.0 ∷ [], with_push es e a.0 f.0 a.1 f.1, subst (Shows new) (f.2 ∙ sym (run_push a.0 f.0 w)) b.2)

-- so many of the events have happened
pub record HaveHappened (events : List CodeEvent) (old new : CodeWorld) : Type 0 where
  pub happen : AllHappen events old new
  pub same : IsSameWorld old new

pub none_happened : (w : CodeWorld) → HaveHappened [] w w
none_happened w = record { happen = λ v s. ([], tt, s); same = record { goals = refl; size = refl; budget = refl } }

pub one_more : (es : List CodeEvent) (e : CodeEvent) (old mid new : CodeWorld) → HaveHappened es old mid → Happens e mid new → IsSameWorld mid new → HaveHappened (es ++ e ∷ []) old new
one_more es e old mid new h k s = record { happen = all_push es e old mid new h.happen k; same = record { goals = s.goals ∙ h.same.goals; size = s.size ∙ h.same.size; budget = s.budget ∙ h.same.budget } }

-- ---- at the end

phase_over : (w : Work) → phase_of w ≡ phase.Ended → has_ended w ≡ true
phase_over (Loading e es g gs) h = absurd (cc)
phase_over (Probing g gs q) h = absurd (cc)
phase_over (Walking e es) h = absurd (cc)
phase_over (Searching m) h = absurd (cc)
phase_over (Ended end) h = refl

-- a goal without an outcome hasn't ended
pub not_over : (a : Actor) (words : List ℕ) (budget : ℕ) (g : Goal) (t : Task) → IsTask a words budget g t → outcome_in t ≡ None → phase_of a.work ≢ phase.Ended
not_over a words budget g t h none over = true≢false (sym (phase_over a.work over) ∙ goes_on a words budget g t h none)

-- one of two lists of which one is as long as the other
pub get_there : {A B : Type 0} (xs : List A) (ys : List B) (g : ℕ) (y : B) → length xs ≡ length ys → slice_get ys g ≡ Some y → (x : A) × (slice_get xs g ≡ Some x)
get_there [] [] g y n e = absurd (cc)
get_there [] (y' ∷ ys) g y n e = absurd (omega arith)
get_there (x ∷ xs) [] g y n e = absurd (omega arith)
get_there (x ∷ xs) (y' ∷ ys) zero y n e = (x, refl)
get_there (x ∷ xs) (y' ∷ ys) (suc g) y n e = get_there xs ys g y (omega arith) e

pub all_over : (goals : List Goal) (words : List ℕ) (budget : ℕ) (tasks : List Task) (w : World) → AreIn goals words budget tasks w → All (λ (a : Actor). phase_of a.work ≡ phase.Ended) w.actors → All (λ t. outcome_in t ≢ None) tasks
all_over goals words budget tasks w h over k d l none =
    let x = get_there goals tasks k (slice_index_or tasks k d) (sym h.count) (slice_get-get_or tasks k d l) in
    let task : IsTask (actor_at w k) words budget x.0 (slice_index_or tasks k d) = h.tasks_are k x.0 (slice_index_or tasks k d) x.1 (slice_get-get_or tasks k d l) in
    let m = many goals words budget tasks w h in
    let n = h.count in
    not_over (actor_at w k) words budget x.0 (slice_index_or tasks k d) task none (over k nobody (omega arith))

task_at : (tasks : List Task) (os : List Outcome) (g : ℕ) (o : Outcome) → map outcome_in tasks ≡ map (λ o. Some o) os → slice_get os g ≡ Some o → (t : Task) × (slice_get tasks g ≡ Some t) × (outcome_in t ≡ Some o)
task_at [] [] g o e p = absurd (cc)
task_at [] (y ∷ ys) g o e p = absurd (cc)
task_at (t ∷ ts) [] g o e p = absurd (cc)
task_at (t ∷ ts) (y ∷ ys) zero o e p = (t, refl, front e ∙ p)
  where
    front : outcome_in t ∷ map outcome_in ts ≡ Some y ∷ map (λ o. Some o) ys → outcome_in t ≡ Some y
    front q = cc
task_at (t ∷ ts) (y ∷ ys) (suc g) o e p = task_at ts ys g o (behind e) p
  where
    behind : outcome_in t ∷ map outcome_in ts ≡ Some y ∷ map (λ o. Some o) ys → map outcome_in ts ≡ map (λ o. Some o) ys
    behind q = cc

as_long : (tasks : List Task) (os : List Outcome) → map outcome_in tasks ≡ map (λ o. Some o) os → length tasks ≡ length os
as_long tasks os e = sym (length-map tasks outcome_in) ∙ ap length e ∙ length-map os (λ o. Some o)

are_outcomes : (actors : List Actor) (os : List Outcome) → length actors ≡ length os → ((g : ℕ) (o : Outcome) → slice_get os g ≡ Some o → (end : End) × ((slice_index_or actors g nobody).work ≡ Ended end) × IsOutcomeOf o end) → AreOutcomesOf actors os
are_outcomes [] [] n f = tt
are_outcomes [] (o ∷ os) n f = absurd (omega arith)
are_outcomes (a ∷ more) [] n f = absurd (omega arith)
are_outcomes (a ∷ more) (o ∷ os) n f = (f 0 o refl, are_outcomes more os (omega arith) (λ g x e. f (suc g) x e))

are_backed : (goals : List Goal) (os : List Outcome) → length goals ≡ length os → ((g : ℕ) (goal : Goal) (o : Outcome) → slice_get goals g ≡ Some goal → slice_get os g ≡ Some o → IsOutcomeBacked goal o) → AreBacked goals os
are_backed [] [] n f = tt
are_backed [] (o ∷ os) n f = absurd (omega arith)
are_backed (x ∷ xs) [] n f = absurd (omega arith)
are_backed (x ∷ xs) (o ∷ os) n f = (f 0 x o refl refl, are_backed xs os (omega arith) (λ g y z p q. f (suc g) y z p q))

module _ (goals : List Goal) (words : List ℕ) (budget : ℕ) (tasks : List Task) (w : World) (h : AreIn goals words budget tasks w) (os : List Outcome) (e : map outcome_in tasks ≡ map (λ o. Some o) os) where
  pub ended_so : AreOutcomesOf w.actors os
  ended_so = are_outcomes w.actors os (many goals words budget tasks w h ∙ sym h.count ∙ as_long tasks os e) (λ g o p.
      let t = task_at tasks os g o e p in
      let x = get_there goals tasks g t.0 (sym h.count) t.1 in
      let r = outcome_as (actor_at w g) words budget x.0 t.0 o (h.tasks_are g x.0 t.0 x.1 t.1) t.2 in
      (r.0, r.1, r.2))

  pub backed_so : AreBacked goals os
  backed_so = are_backed goals os (sym h.count ∙ as_long tasks os e) (λ g goal o p q.
      let t = task_at tasks os g o e q in
      (outcome_as (actor_at w g) words budget goal t.0 o (h.tasks_are g goal t.0 p t.1) t.2).3)

-- ---- lists and options

pub take_past : {A : Type 0} (xs : List A) (n : ℕ) → length xs ≤ n → take n xs ≡ xs
take_past [] zero l = refl
take_past [] (suc n) l = refl
take_past (x ∷ xs) zero l = absurd (omega arith)
take_past (x ∷ xs) (suc n) l = ap (λ ys. x ∷ ys) (take_past xs n (omega arith))

pub outcomes_push : (tasks : List Task) (os : List Outcome) (t : Task) (o : Outcome) → map outcome_in tasks ≡ map (λ x. Some x) os → outcome_in t ≡ Some o → map outcome_in (tasks ++ t ∷ []) ≡ map (λ x. Some x) (os ++ o ∷ [])
outcomes_push tasks os t o e p = pushed tasks ∙ ap (λ xs. xs ++ outcome_in t ∷ []) e ∙ ap (λ x. map (λ y. Some y) os ++ x ∷ []) p ∙ sym (mapped os)
  where
    pushed : (ts : List Task) → map outcome_in (ts ++ t ∷ []) ≡ map outcome_in ts ++ outcome_in t ∷ []
    pushed [] = refl
    pushed (u ∷ us) = ap (λ xs. outcome_in u ∷ xs) (pushed us)

    mapped : (xs : List Outcome) → map (λ y. Some y) (xs ++ o ∷ []) ≡ map (λ y. Some y) xs ++ Some o ∷ []
    mapped [] = refl
    mapped (x ∷ xs) = ap (λ ys. Some x ∷ ys) (mapped xs)

pub if_some : {T : Type 0} (r : Option T) (P Q : T → Type 0) → ((x : T) → P x → Q x) → IfSome r P → IfSome r Q
if_some (Some x) P Q f h = f x h
if_some None P Q f h = tt

pub if_none : {T : Type 0} (r : Option T) (P Q : Type 0) → (P → Q) → IfNone r P → IfNone r Q
if_none (Some x) P Q f h = tt
if_none None P Q f h = f h

-- the goals that are lent, and one more
pub lent_push : (lent more : List (Bor Goal)) (b : Bor Goal) (goals : List Goal) (i : ℕ) → more ≡ lent ++ b ∷ [] → map (λ g. g.now) lent ≡ take i goals → i < length goals → b.now ≡ get_or goals i b.now → map (λ g. g.now) more ≡ take (i + 1) goals
lent_push lent more b goals i e h l at =
    ap (map (λ g. g.now)) e ∙ pushed lent ∙ ap (λ xs. xs ++ b.now ∷ []) h ∙ ap (λ x. take i goals ++ x ∷ []) at ∙ sym (take_at_read goals i b.now l).1
  where
    pushed : (xs : List (Bor Goal)) → map (λ g. g.now) (xs ++ b ∷ []) ≡ map (λ g. g.now) xs ++ b.now ∷ []
    pushed [] = refl
    pushed (x ∷ xs) = ap (λ ys. x.now ∷ ys) (pushed xs)

pub world_begun : (goals : List Goal) (words : List ℕ) (n budget : ℕ) (tasks : List Task) → 1 ≤ n → n ≤ 4000000 → length goals ≤ 65536 → budget ≤ 2 ^ 62 → words ≡ replicate n 0 → AreScripted (problems_of goals) → AreIn goals words budget tasks (begun (problems_of goals) n budget) → IsWorld goals words budget tasks
world_begun goals words n budget tasks some few few_goals steps is scripted shown =
    let size : length words ≡ n = ap length is ∙ length-replicate n 0 in
    record {
      some = subst (λ k. 1 ≤ k) (sym size) some;
      few = subst (λ k. k ≤ 4000000) (sym size) few;
      few_goals = few_goals;
      steps = steps;
      scripted = scripted;
      world = begun (problems_of goals) n budget;
      shown = shown;
    }
