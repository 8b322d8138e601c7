-- Each event that fits leaves less to do.
use Rattle.std.proofs.Common.{◌≡◌, ◌≢◌, ℕ, zero, suc, ◌+◌, ◌<◌, ◌≤◌, Bool, true, false, List, [], ◌∷◌, length, set, slice_index_or, refl, sym, ap, ◌∙◌, subst, arith, nat_eq, if◌then◌else◌}
use Rattle.gate_shape.specs.Edge.{Edge, Gate, gate_level}
use Rattle.gate_probe.specs.Words.{word_at}
use Rattle.gate_probe.specs.Views.{learnt}
use Rattle.gate_probe.specs.Moves.{Probe, probe_after, started}
use Rattle.gate_probe.specs.declared.prober.Move.{Move}
use Rattle.gate_probe.specs.declared.prober.Move.TheVariants.{Load, Claim, Found, Full}
use Rattle.search_learn.specs.declared.Turn.{Turn as SearchTurn}
use Rattle.search_learn.specs.declared.Turn.TheVariants.{More, Sat, Unsat, Budget}
use Rattle.search_learn.specs.Machine.{Machine, machine, steps, advance}
use Rattle.search_learn.proofs.Cases.{steps_last}
use Rattle.search_learn.proofs.Runs.{run_ends}
use Rattle.cdcl_solver.specs.Progress.{Progress, opened, turned as search_turned}
use Rattle.cdcl_solver.proofs.Going.{turned_ended, steps_more}
use Rattle.goal_alone.specs.Alone.{Deep}
use Rattle.goal_alone.specs.Formula.{goal_clauses, goal_variables}
use Rattle.gate_world.specs.Literals.{literal_in, place_in, fanin_gates}
use Rattle.gate_world.specs.Work.{Problem, Work, End, Loading, Probing, Walking, Searching, Ended, Replied, CancelledBy, OutOfMemory, cone_of, to_walk, to_probe, to_load, to_build, search_at, cut_off, is_false}
use Rattle.gate_world.specs.World.{Actor, World, Event, Step, Turn, Cancel, Memory, nobody, actor_at, with_work, search_goes, claims, probes, moved, turned, put, put_work, happens, run, begun}
use Rattle.gate_world.specs.Bound.{steps_left, turns_left, turns_within, goes_on, all_left, events_left, takes_steps, takes_turns, fits}
use Rattle.gate_world.specs.Right.{AreScripted}
use Rattle.gate_world.specs.Doing.{IsDoing}
use Rattle.gate_world.proofs.Bounding.{moved_lowers, turned_left, cut_left}
use Rattle.gate_world.proofs.Running.{IsGood, run_good, begun_good, within_goals, event_stays}

-- machine steps
few_within : (n budget : ℕ) (m : Machine) → turns_within n budget m ≤ n
unfolding turns_within
few_within zero budget m = omega arith
few_within (suc n) budget m = go (goes_on m.state.end) (few_within n budget (advance budget m))
  where
    go : (b : Bool) → turns_within n budget (advance budget m) ≤ n → (if b then 1 + turns_within n budget (advance budget m) else 0) ≤ suc n
    go true l = omega arith
    go false l = omega arith

ended_stops : (t : SearchTurn) → t ≢ More → goes_on t ≡ false
ended_stops More n = absurd (n refl)
ended_stops Sat n = refl
ended_stops Unsat n = refl
ended_stops (Budget spent) n = refl

-- a machine that ends within n steps
settled : (n budget : ℕ) (m : Machine) → (steps n budget m).state.end ≢ More → turns_within (suc n) budget m ≤ turns_within n budget m
unfolding turns_within
settled zero budget m over = let e = ended_stops m.state.end over in rw e (omega arith)
settled (suc n) budget m over = go (goes_on m.state.end) (settled n budget (advance budget m) over)
  where
    go : (b : Bool) → turns_within (suc n) budget (advance budget m) ≤ turns_within n budget (advance budget m)
        → (if b then 1 + turns_within (suc n) budget (advance budget m) else 0) ≤ (if b then 1 + turns_within n budget (advance budget m) else 0)
    go true l = omega arith
    go false l = omega arith

module _ (budget : ℕ) (p : Problem) where
  abbrev first : Machine
  first = machine (goal_variables p.hyps p.concl) (goal_clauses p.hyps p.concl)

  -- behind a step the machine ends within the budget
  ends_within : (k : ℕ) (m : Machine) → m ≡ steps (suc k) budget first → (steps budget budget m).state.end ≢ More
  ends_within k m is more =
      let s : Progress = opened (goal_variables p.hyps p.concl) (goal_clauses p.hyps p.concl) budget in
      let over = run_ends (goal_variables p.hyps p.concl) (goal_clauses p.hyps p.concl) budget in
      let low : budget + 1 ≤ suc k + budget = omega arith in
      let same : search_turned (budget + 1) s ≡ search_turned (suc k + budget) s = turned_ended (budget + 1) (suc k + budget) s low over in
      let whole : steps budget budget m ≡ steps (suc k + budget) budget first = ap (steps budget budget) is ∙ steps_more budget (suc k) budget first in
      over (ap (λ (x : Progress). x.machine.state.end) same ∙ sym (ap (λ (x : Machine). x.state.end) whole) ∙ more)

  search_turns : (k : ℕ) (m : Machine) (t : SearchTurn) → m ≡ steps (suc k) budget first → turns_left budget (search_at p m t) ≤ turns_within budget budget m
  search_turns k m More is =
      let one : suc budget ≡ budget + 1 = omega arith in
      subst (λ n. turns_within n budget m ≤ turns_within budget budget m) one (settled budget budget m (ends_within k m is))
  search_turns k m Sat is = omega arith
  search_turns k m Unsat is = omega arith
  search_turns k m (Budget spent) is = omega arith

  going_turns : (m : Machine) → m.state.end ≡ More → turns_within (budget + 1) budget m ≡ 1 + turns_within budget budget (advance budget m)
  unfolding turns_within
  going_turns m e =
      let one : budget + 1 ≡ suc budget = omega arith in
      ap (λ n. turns_within n budget m) one ∙ ap (λ t. if goes_on t then 1 + turns_within budget budget (advance budget m) else 0) e

  turned_turns : (n : ℕ) (words : List ℕ) (F : ℕ → Type 0) (seen : List ℕ) (work : Work) → IsDoing n budget words F p seen work → (if takes_turns work then 1 else 0) + turns_left budget (turned budget p work) ≤ turns_left budget work
  turned_turns n words F seen (Loading e es g gs) d = omega arith
  turned_turns n words F seen (Probing g gs q) d = omega arith
  turned_turns n words F seen (Walking e es) d = omega arith
  turned_turns n words F seen (Searching m) d =
      let is : advance budget m ≡ steps (suc d.taken) budget first = ap (advance budget) d.reached ∙ sym (steps_last d.taken budget first) in
      let l = search_turns d.taken (advance budget m) (advance budget m).state.end is in
      let g = going_turns m d.going in
      omega arith
  turned_turns n words F seen (Ended end) d = omega arith

  cut_turns : (end : End) (work : Work) → turns_left budget (cut_off end work) ≤ turns_left budget work
  cut_turns end (Loading e es g gs) = omega arith
  cut_turns end (Probing g gs q) = omega arith
  cut_turns end (Walking e es) = omega arith
  cut_turns end (Searching m) = omega arith
  cut_turns end (Ended old) = omega arith

  walk_turns : (es : List Edge) → turns_left budget (to_walk p es) ≤ budget + 1
  walk_turns [] = few_within (budget + 1) budget first
  walk_turns (e ∷ es) = omega arith

  probe_turns : (n : ℕ) (seen : List ℕ) (g : Gate) (gs : List Gate) → turns_left budget (to_probe n seen g gs) ≤ budget + 1
  probe_turns n seen g gs = go (nat_eq (gate_level g) 262144)
    where
      go : (t : Bool) → turns_left budget (if t then Ended (Replied Deep) else Probing g gs (started n (literal_in seen g.left) (literal_in seen g.right) (gate_level g))) ≤ budget + 1
      go true = omega arith
      go false = omega arith

  load_turns : (n : ℕ) (seen : List ℕ) (es : List Edge) (g : Gate) (gs : List Gate) → turns_left budget (to_load n seen es g gs) ≤ budget + 1
  load_turns n seen [] g gs = probe_turns n seen g gs
  load_turns n seen (e ∷ es) g gs = omega arith

  build_turns : (n : ℕ) (seen : List ℕ) (gs : List Gate) → turns_left budget (to_build n p seen gs) ≤ budget + 1
  build_turns n seen [] = walk_turns (cone_of p)
  build_turns n seen (g ∷ gs) = load_turns n seen (fanin_gates g) g gs

  goes_turns : (n : ℕ) (seen : List ℕ) (g : Gate) (gs : List Gate) (q : Probe) (move : Move) → turns_left budget (search_goes n p seen g gs q move) ≤ budget + 1
  goes_turns n seen g gs q (Load s) = omega arith
  goes_turns n seen g gs q (Claim s w) = omega arith
  goes_turns n seen g gs q (Found node) = build_turns n seen gs
  goes_turns n seen g gs q Full = omega arith

claims_turns : (budget : ℕ) (words : List ℕ) (a : Actor) (g : Gate) (gs : List Gate) (q : Probe) (s wanted found : ℕ) → turns_left budget (claims words a g gs q s wanted found).actor.work ≤ budget + 1
claims_turns budget words a g gs q s wanted zero = goes_turns budget a.problem (length words) (learnt a.seen s wanted) g gs (probe_after q wanted) (probe_after q wanted).last
claims_turns budget words a g gs q s wanted (suc found) = goes_turns budget a.problem (length words) (learnt a.seen s (suc found)) g gs (probe_after q (suc found)) (probe_after q (suc found)).last

probes_turns : (budget : ℕ) (words : List ℕ) (a : Actor) (g : Gate) (gs : List Gate) (q : Probe) (move : Move) → turns_left budget a.work ≤ budget + 1 → turns_left budget (probes words a g gs q move).actor.work ≤ budget + 1
probes_turns budget words a g gs q (Load s) h = goes_turns budget a.problem (length words) (learnt a.seen s (word_at words s)) g gs (probe_after q (word_at words s)) (probe_after q (word_at words s)).last
probes_turns budget words a g gs q (Claim s wanted) h = claims_turns budget words a g gs q s wanted (word_at words s)
probes_turns budget words a g gs q (Found node) h = h
probes_turns budget words a g gs q Full h = h

moved_turns : (budget : ℕ) (words : List ℕ) (a : Actor) (work : Work) → a.work ≡ work → turns_left budget (moved words a work).actor.work ≤ turns_left budget work
moved_turns budget words a (Loading e es g gs) is = load_turns budget a.problem (length words) (learnt a.seen (place_in a.seen e) (word_at words (place_in a.seen e))) es g gs
moved_turns budget words a (Probing g gs q) is = probes_turns budget words a g gs q q.last (subst (λ (x : Work). turns_left budget x ≤ budget + 1) (sym is) (omega arith))
moved_turns budget words a (Walking e es) is = walk_turns budget a.problem es
moved_turns budget words a (Searching m) is = rw is (omega arith)
moved_turns budget words a (Ended end) is = rw is (omega arith)

-- what is left of one goal, and of all
abbrev one_left : ℕ → ℕ → Actor → ℕ
one_left n budget a = steps_left n a.problem a.work + turns_left budget a.work

set_left : (n budget : ℕ) (actors : List Actor) (g : ℕ) (a : Actor) (c : ℕ) → g < length actors → c + one_left n budget a ≤ one_left n budget (slice_index_or actors g nobody) → c + all_left n budget (set actors g a) ≤ all_left n budget actors
set_left n budget [] g a c l h = absurd (omega arith)
set_left n budget (x ∷ xs) zero a c l h = omega arith
set_left n budget (x ∷ xs) (suc g) a c l h = let r = set_left n budget xs g a c (omega arith) h in omega arith

set_past : (n budget : ℕ) (actors : List Actor) (g : ℕ) (a : Actor) → length actors ≤ g → all_left n budget (set actors g a) ≡ all_left n budget actors
set_past n budget [] g a l = refl
set_past n budget (x ∷ xs) zero a l = absurd (omega arith)
set_past n budget (x ∷ xs) (suc g) a l = let r = set_past n budget xs g a (omega arith) in omega arith

-- behind a change of one goal
put_lowers : (w : World) (g : ℕ) (words : List ℕ) (a : Actor) (c : ℕ) → length words ≡ length w.words → (g < length w.actors → c + one_left (length w.words) w.budget a ≤ one_left (length w.words) w.budget (actor_at w g)) → (length w.actors ≤ g → c ≡ 0)
    → c + events_left (put w g words a) ≤ events_left w
put_lowers w g words a c size less none =
    subst (λ n. c + all_left n w.budget (set w.actors g a) ≤ events_left w) (sym size)
    (within_goals w g (c + all_left (length w.words) w.budget (set w.actors g a) ≤ events_left w)
    (λ inside. set_left (length w.words) w.budget w.actors g a c inside (less inside))
    (λ nobody_there past. let e = set_past (length w.words) w.budget w.actors g a past in let z = none past in omega arith))

no_steps : (a : Actor) → a ≡ nobody → ◌≡◌ {A = ℕ} (if takes_steps a.work then 1 else 0) 0
no_steps a e = ap {A = Actor} {B = ℕ} (λ (x : Actor). if takes_steps x.work then 1 else 0) e

no_turns : (a : Actor) → a ≡ nobody → ◌≡◌ {A = ℕ} (if takes_turns a.work then 1 else 0) 0
no_turns a e = ap {A = Actor} {B = ℕ} (λ (x : Actor). if takes_turns x.work then 1 else 0) e

nothing_there : (w : World) (g : ℕ) {P : Type 0} → (actor_at w g ≡ nobody → P) → length w.actors ≤ g → P
nothing_there w g {P} f past = within_goals w g P (λ inside. absurd (omega arith)) (λ none p. f none)

step_less : (w : World) (g : ℕ) → IsGood w → (if takes_steps (actor_at w g).work then 1 else 0) + events_left (happens w (Step g)) ≤ events_left w
step_less w g good =
    let a : Actor = actor_at w g in
    put_lowers w g (moved w.words a a.work).words (moved w.words a a.work).actor (if takes_steps a.work then 1 else 0) (event_stays w (Step g)).size
    (λ inside.
    let h = good.actors g inside in
    let s = moved_lowers (length w.words) w.words a w.budget (λ c. is_false (actor_at w c).work ≡ true) a.work refl refl h.doing in
    let t = moved_turns w.budget w.words a a.work refl in
    omega arith)
    (nothing_there w g (no_steps (actor_at w g)))

turn_less : (w : World) (g : ℕ) → IsGood w → (if takes_turns (actor_at w g).work then 1 else 0) + events_left (happens w (Turn g)) ≤ events_left w
turn_less w g good =
    let a : Actor = actor_at w g in
    put_lowers w g w.words (with_work a (turned w.budget a.problem a.work)) (if takes_turns a.work then 1 else 0) refl
    (λ inside.
    let h = good.actors g inside in
    let s = turned_left (length w.words) w.budget a.problem a.work in
    let t = turned_turns w.budget a.problem (length w.words) w.words (λ c. is_false (actor_at w c).work ≡ true) a.seen a.work h.doing in
    omega arith)
    (nothing_there w g (no_turns (actor_at w g)))

cut_less : (w : World) (g : ℕ) (end : End) → 0 + events_left (put_work w g (cut_off end (actor_at w g).work)) ≤ events_left w
cut_less w g end =
    let a : Actor = actor_at w g in
    put_lowers w g w.words (with_work a (cut_off end a.work)) 0 refl
    (λ inside. let s = cut_left (length w.words) a.problem end a.work in let t = cut_turns w.budget a.problem end a.work in omega arith)
    (λ past. refl)

cancel_less : (w : World) (g cause : ℕ) (b : Bool) → 0 + events_left (if b then put_work w g (cut_off (CancelledBy cause) (actor_at w g).work) else w) ≤ events_left w
cancel_less w g cause true = cut_less w g (CancelledBy cause)
cancel_less w g cause false = omega arith

pub event_less : (w : World) (e : Event) → IsGood w → (if fits w e then 1 else 0) + events_left (happens w e) ≤ events_left w
event_less w (Step g) good = step_less w g good
event_less w (Turn g) good = turn_less w g good
event_less w (Cancel g cause) good = cancel_less w g cause (is_false (actor_at w cause).work)
event_less w (Memory g) good = cut_less w g OutOfMemory

pub events_lower : (problems : List Problem) (n budget : ℕ) (events : List Event) (e : Event) → 1 ≤ n → n ≤ 4000000 → AreScripted problems
    → let w = run events (begun problems n budget) in (if fits w e then 1 else 0) + events_left (happens w e) ≤ events_left w
events_lower problems n budget events e some few scripted = event_less (run events (begun problems n budget)) e (run_good (begun problems n budget) events (begun_good problems n budget some few scripted))
