-- Only so many turns of a goal fit.
use Rattle.std.proofs.Common.{◌≡◌, ◌≢◌, ℕ, zero, suc, ◌+◌, ◌<◌, ◌≤◌, Bool, true, false, ◌&&◌, List, [], ◌∷◌, length, map, set, slice_index_or, refl, sym, ap, ◌∙◌, subst, arith, length-set, lt_of_not-le, nat_eq, if◌then◌else◌}
use Rattle.std.proofs.lemmas.List.{get_or-set_same, get_or-set_other, length-map}
use mathlib.Core.Logic.{dite}
use native.Mathlib.Decide.{dec_le, ℕ_discrete}
use Rattle.gate_shape.specs.Edge.{Edge, Gate, gate_level}
use Rattle.gate_probe.specs.Words.{word_at}
use Rattle.gate_probe.specs.Views.{learnt}
use Rattle.gate_probe.specs.Moves.{Probe, probe_after, started}
use Rattle.gate_probe.specs.declared.prober.Move.{Move}
use Rattle.gate_probe.specs.declared.prober.Move.TheVariants.{Load, Claim, Found, Full}
use Rattle.search_learn.specs.declared.Turn.{Turn as SearchTurn}
use Rattle.search_learn.specs.declared.Turn.TheVariants.{More, Sat, Unsat, Budget}
use Rattle.search_learn.specs.Machine.{Machine, machine, steps, advance}
use Rattle.search_learn.proofs.Cases.{steps_last}
use Rattle.search_learn.proofs.Runs.{run_ends}
use Rattle.cdcl_solver.specs.Progress.{Progress, opened, turned as search_turned}
use Rattle.cdcl_solver.proofs.Going.{turned_ended}
use Rattle.goal_alone.specs.Alone.{Deep}
use Rattle.goal_alone.specs.Formula.{goal_clauses, goal_variables}
use Rattle.gate_world.specs.Literals.{literal_in, place_in, fanin_gates}
use Rattle.gate_world.specs.Work.{Problem, Work, End, Loading, Probing, Walking, Searching, Ended, Replied, CancelledBy, OutOfMemory, cone_of, script_of, to_walk, to_probe, to_load, to_build, search_at, cut_off, is_false}
use Rattle.gate_world.specs.World.{Actor, World, Event, Step, Turn, Cancel, Memory, nobody, actor_at, with_work, search_goes, told, claims, probes, moved, turned, put_work, happens, begun_at, begun}
use Rattle.gate_world.specs.Bound.{takes_turns, turns_goal, count_fitting}
use Rattle.gate_world.proofs.Standing.{number_self, number_other}
use Rattle.gate_world.proofs.Running.{past_end, mapped_at, event_stays}

abbrev first : Problem → Machine
first p = machine (goal_variables p.hyps p.concl) (goal_clauses p.hyps p.concl)

-- a machine that goes on has taken no more steps than the budget
going_few : (p : Problem) (budget k : ℕ) (m : Machine) → m ≡ steps k budget (first p) → m.state.end ≡ More → k ≤ budget
going_few p budget k m is going = dite (dec_le k budget) (λ l. l)
    (λ more.
    let low : budget + 1 ≤ k = (let l = lt_of_not-le more in omega arith) in
    let s : Progress = opened (goal_variables p.hyps p.concl) (goal_clauses p.hyps p.concl) budget in
    let over = run_ends (goal_variables p.hyps p.concl) (goal_clauses p.hyps p.concl) budget in
    let same : search_turned (budget + 1) s ≡ search_turned k s = turned_ended (budget + 1) k s low over in
    absurd (over (ap (λ (x : Progress). x.machine.state.end) same ∙ (sym (ap (λ (x : Machine). x.state.end) is) ∙ going))))

-- a goal with this work has had k turns
abbrev HasHad : ℕ → Problem → ℕ → Work → Type 0
HasHad budget p k (Loading e es g gs) = k ≡ 0
HasHad budget p k (Probing g gs q) = k ≡ 0
HasHad budget p k (Walking e es) = k ≡ 0
HasHad budget p k (Searching m) = (m ≡ steps k budget (first p)) × (m.state.end ≡ More)
HasHad budget p k (Ended end) = k ≤ budget + 1

few_had : (budget : ℕ) (p : Problem) (k : ℕ) (work : Work) → HasHad budget p k work → k ≤ budget + 1
few_had budget p k (Loading e es g gs) h = omega arith
few_had budget p k (Probing g gs q) h = omega arith
few_had budget p k (Walking e es) h = omega arith
few_had budget p k (Searching m) h = let l = going_few p budget k m h.0 h.1 in omega arith
few_had budget p k (Ended end) h = h

module _ (budget : ℕ) (p : Problem) where
  walk_had : (es : List Edge) → HasHad budget p 0 (to_walk p es)
  walk_had [] = (refl, refl)
  walk_had (e ∷ es) = refl

  probe_had : (n : ℕ) (seen : List ℕ) (g : Gate) (gs : List Gate) → HasHad budget p 0 (to_probe n seen g gs)
  probe_had n seen g gs = go (nat_eq (gate_level g) 262144)
    where
      go : (t : Bool) → HasHad budget p 0 (if t then Ended (Replied Deep) else Probing g gs (started n (literal_in seen g.left) (literal_in seen g.right) (gate_level g)))
      go true = omega arith
      go false = refl

  load_had : (n : ℕ) (seen : List ℕ) (es : List Edge) (g : Gate) (gs : List Gate) → HasHad budget p 0 (to_load n seen es g gs)
  load_had n seen [] g gs = probe_had n seen g gs
  load_had n seen (e ∷ es) g gs = refl

  build_had : (n : ℕ) (seen : List ℕ) (gs : List Gate) → HasHad budget p 0 (to_build n p seen gs)
  build_had n seen [] = walk_had (cone_of p)
  build_had n seen (g ∷ gs) = load_had n seen (fanin_gates g) g gs

  goes_had : (n : ℕ) (seen : List ℕ) (g : Gate) (gs : List Gate) (q : Probe) (move : Move) → HasHad budget p 0 (search_goes n p seen g gs q move)
  goes_had n seen g gs q (Load s) = refl
  goes_had n seen g gs q (Claim s w) = refl
  goes_had n seen g gs q (Found node) = build_had n seen gs
  goes_had n seen g gs q Full = omega arith

  cut_had : (k : ℕ) (end : End) (work : Work) → HasHad budget p k work → HasHad budget p k (cut_off end work)
  cut_had k end (Loading e es g gs) h = few_had budget p k (Loading e es g gs) h
  cut_had k end (Probing g gs q) h = few_had budget p k (Probing g gs q) h
  cut_had k end (Walking e es) h = few_had budget p k (Walking e es) h
  cut_had k end (Searching m) h = few_had budget p k (Searching m) h
  cut_had k end (Ended old) h = h

  search_had : (k : ℕ) (m : Machine) (t : SearchTurn) → m ≡ steps (suc k) budget (first p) → m.state.end ≡ t → k ≤ budget → HasHad budget p (suc k) (search_at p m t)
  search_had k m More is end l = (is, end)
  search_had k m Sat is end l = omega arith
  search_had k m Unsat is end l = omega arith
  search_had k m (Budget spent) is end l = omega arith

  turned_had : (k : ℕ) (work : Work) → HasHad budget p k work → HasHad budget p ((if takes_turns work then 1 else 0) + k) (turned budget p work)
  turned_had k (Loading e es g gs) h = omega arith
  turned_had k (Probing g gs q) h = omega arith
  turned_had k (Walking e es) h = omega arith
  turned_had k (Searching m) h =
      let one : 1 + k ≡ suc k = omega arith in
      let is : advance budget m ≡ steps (suc k) budget (first p) = ap (advance budget) h.0 ∙ sym (steps_last k budget (first p)) in
      subst (λ j. HasHad budget p j (search_at p (advance budget m) (advance budget m).state.end)) (sym one) (search_had k (advance budget m) (advance budget m).state.end is refl (going_few p budget k m h.0 h.1))
  turned_had k (Ended end) h = let z : 0 + k ≡ k = omega arith in omega arith

claims_had : (budget k : ℕ) (words : List ℕ) (a : Actor) (g : Gate) (gs : List Gate) (q : Probe) (s wanted found : ℕ) → k ≡ 0 → HasHad budget (claims words a g gs q s wanted found).actor.problem k (claims words a g gs q s wanted found).actor.work
claims_had budget k words a g gs q s wanted zero h = subst (λ j. HasHad budget a.problem j (told (length words) a g gs q s wanted).work) (sym h) (goes_had budget a.problem (length words) (learnt a.seen s wanted) g gs (probe_after q wanted) (probe_after q wanted).last)
claims_had budget k words a g gs q s wanted (suc found) h = subst (λ j. HasHad budget a.problem j (told (length words) a g gs q s (suc found)).work) (sym h) (goes_had budget a.problem (length words) (learnt a.seen s (suc found)) g gs (probe_after q (suc found)) (probe_after q (suc found)).last)

probes_had : (budget k : ℕ) (words : List ℕ) (a : Actor) (g : Gate) (gs : List Gate) (q : Probe) (move : Move) → k ≡ 0 → HasHad budget a.problem k a.work → HasHad budget (probes words a g gs q move).actor.problem k (probes words a g gs q move).actor.work
probes_had budget k words a g gs q (Load s) h old = subst (λ j. HasHad budget a.problem j (told (length words) a g gs q s (word_at words s)).work) (sym h) (goes_had budget a.problem (length words) (learnt a.seen s (word_at words s)) g gs (probe_after q (word_at words s)) (probe_after q (word_at words s)).last)
probes_had budget k words a g gs q (Claim s wanted) h old = claims_had budget k words a g gs q s wanted (word_at words s) h
probes_had budget k words a g gs q (Found node) h old = old
probes_had budget k words a g gs q Full h old = old

moved_had : (budget k : ℕ) (words : List ℕ) (a : Actor) (work : Work) → a.work ≡ work → HasHad budget a.problem k a.work → HasHad budget a.problem k work → HasHad budget (moved words a work).actor.problem k (moved words a work).actor.work
moved_had budget k words a (Loading e es g gs) is old h =
    subst (λ j. HasHad budget a.problem j (moved words a (Loading e es g gs)).actor.work) (sym h) (load_had budget a.problem (length words) (learnt a.seen (place_in a.seen e) (word_at words (place_in a.seen e))) es g gs)
moved_had budget k words a (Probing g gs q) is old h = probes_had budget k words a g gs q q.last h old
moved_had budget k words a (Walking e es) is old h = subst (λ j. HasHad budget a.problem j (moved words a (Walking e es)).actor.work) (sym h) (walk_had budget a.problem es)
moved_had budget k words a (Searching m) is old h = old
moved_had budget k words a (Ended end) is old h = old

abbrev Had : ℕ → ℕ → Actor → Type 0
Had budget k a = HasHad budget a.problem k a.work

at_put : (actors : List Actor) (k : ℕ) (a : Actor) (g : ℕ) (P : Actor → Type 0) → (g ≡ k → P a) → (g ≢ k → P (slice_index_or actors g nobody)) → (length actors ≤ g → P nobody) → P (slice_index_or (set actors k a) g nobody)
at_put actors k a g P mine other none = dite (dec_le (suc g) (length actors))
    (λ (inside : suc g ≤ length actors). dite (ℕ_discrete g k)
    (λ (is : g ≡ k).
    let in' : k < length actors = subst (λ m. m < length actors) is inside in
    let at : slice_index_or (set actors k a) g nobody ≡ a = ap (λ j. slice_index_or (set actors k a) j nobody) is ∙ get_or-set_same actors k a nobody in' in
    subst P (sym at) (mine is))
    (λ ne. subst P (sym (get_or-set_other actors k g a nobody ne)) (other ne)))
    (λ out.
    let past : length actors ≤ g = (let l = lt_of_not-le out in omega arith) in
    let past' : length (set actors k a) ≤ g = subst (λ m. m ≤ g) (sym (length-set actors k a)) past in
    subst P (sym (past_end (set actors k a) g nobody past')) (none past))

-- a change of one goal, which may have had a turn
put_had : (w : World) (j g k c : ℕ) (words : List ℕ) (a : Actor) → Had w.budget k (actor_at w g) → (g ≡ j → Had w.budget (c + k) a) → (g ≢ j → c ≡ 0) → (length w.actors ≤ g → c ≡ 0) → Had w.budget (c + k) (slice_index_or (set w.actors j a) g nobody)
put_had w j g k c words a h mine other none =
    at_put w.actors j a g (Had w.budget (c + k)) mine
    (λ ne. let z : c + k ≡ k = (let e = other ne in omega arith) in subst (λ i. Had w.budget i (actor_at w g)) (sym z) h)
    (λ past. let e = none past in let l = few_had w.budget (actor_at w g).problem k (actor_at w g).work h in omega arith)

abbrev one : Bool → ℕ
one b = if b then 1 else 0

alike : (b t : Bool) → b ≡ true → one (b && t) ≡ one t
alike b t e = rw e refl

apart : (b t : Bool) → b ≡ false → one (b && t) ≡ 0
apart b t e = rw e refl

never : (b : Bool) → one (b && false) ≡ 0
never true = refl
never false = refl

same_had : (w : World) (j g k : ℕ) (work : Work) → Had w.budget k (actor_at w g) → (HasHad w.budget (actor_at w j).problem k (actor_at w j).work → HasHad w.budget (actor_at w j).problem k work) → Had w.budget (0 + k) (actor_at (put_work w j work) g)
same_had w j g k work h f =
    put_had w j g k 0 w.words (with_work (actor_at w j) work) h
    (λ is. let z : 0 + k ≡ k = omega arith in subst (λ i. HasHad w.budget (actor_at w j).problem i work) (sym z) (f (subst (λ i. Had w.budget k (actor_at w i)) is h)))
    (λ _. refl) (λ _. refl)

cancel_had : (w : World) (j cause g k : ℕ) (b : Bool) → Had w.budget k (actor_at w g) → Had w.budget (0 + k) (actor_at (if b then put_work w j (cut_off (CancelledBy cause) (actor_at w j).work) else w) g)
cancel_had w j cause g k true h = same_had w j g k (cut_off (CancelledBy cause) (actor_at w j).work) h (cut_had w.budget (actor_at w j).problem k (CancelledBy cause) (actor_at w j).work)
cancel_had w j cause g k false h = let z : 0 + k ≡ k = omega arith in subst (λ i. Had w.budget i (actor_at w g)) (sym z) h

event_had : (w : World) (e : Event) (g k : ℕ) → Had w.budget k (actor_at w g) → Had w.budget (one (turns_goal g w e) + k) (actor_at (happens w e) g)
event_had w (Step j) g k h =
    let a : Actor = actor_at w j in
    put_had w j g k 0 (moved w.words a a.work).words (moved w.words a a.work).actor h
    (λ is. let z : 0 + k ≡ k = omega arith in let mine : Had w.budget k a = subst (λ i. Had w.budget k (actor_at w i)) is h in subst (λ i. Had w.budget i (moved w.words a a.work).actor) (sym z) (moved_had w.budget k w.words a a.work refl mine mine))
    (λ _. refl) (λ _. refl)
event_had w (Turn j) g k h =
    let a : Actor = actor_at w j in
    put_had w j g k (one (nat_eq j g && takes_turns (actor_at w g).work)) w.words (with_work a (turned w.budget a.problem a.work)) h
    (λ is.
    let mine : Had w.budget k a = subst (λ i. Had w.budget k (actor_at w i)) is h in
    let c : one (nat_eq j g && takes_turns (actor_at w g).work) ≡ one (takes_turns a.work) = alike (nat_eq j g) (takes_turns (actor_at w g).work) (ap (nat_eq j) is ∙ number_self j) ∙ ap (λ i. one (takes_turns (actor_at w i).work)) is in
    subst (λ i. HasHad w.budget a.problem (i + k) (turned w.budget a.problem a.work)) (sym c) (turned_had w.budget a.problem k a.work mine))
    (λ ne. apart (nat_eq j g) (takes_turns (actor_at w g).work) (number_other j g (λ e. ne (sym e))))
    (λ past. ap (λ (x : Actor). one (nat_eq j g && takes_turns x.work)) (past_end w.actors g nobody past) ∙ never (nat_eq j g))
event_had w (Cancel j cause) g k h = cancel_had w j cause g k (is_false (actor_at w cause).work) h
event_had w (Memory j) g k h = same_had w j g k (cut_off OutOfMemory (actor_at w j).work) h (cut_had w.budget (actor_at w j).problem k OutOfMemory (actor_at w j).work)

count_had : (events : List Event) (w : World) (g k : ℕ) → Had w.budget k (actor_at w g) → count_fitting (turns_goal g) events w + k ≤ w.budget + 1
count_had [] w g k h = let l = few_had w.budget (actor_at w g).problem k (actor_at w g).work h in omega arith
count_had (e ∷ es) w g k h =
    let c : ℕ = one (turns_goal g w e) in
    let next : Had (happens w e).budget (c + k) (actor_at (happens w e) g) = subst (λ b. Had b (c + k) (actor_at (happens w e) g)) (sym (event_stays w e).budget) (event_had w e g k h) in
    let l = count_had es (happens w e) g (c + k) next in
    let b = (event_stays w e).budget in
    omega arith

begun_had : (problems : List Problem) (n budget g : ℕ) → Had budget 0 (actor_at (begun problems n budget) g)
begun_had problems n budget g = dite (dec_le (suc g) (length problems))
    (λ (l : suc g ≤ length problems).
    let p : Problem = slice_index_or problems g nobody.problem in
    subst (Had budget 0) (sym (mapped_at (begun_at n) problems g nobody.problem nobody l)) (build_had budget p n [] (script_of p)))
    (λ out.
    let past : length (map (begun_at n) problems) ≤ g = (let l = lt_of_not-le out in let m = length-map problems (begun_at n) in omega arith) in
    subst (Had budget 0) (sym (past_end (map (begun_at n) problems) g nobody past)) (omega arith))

pub turns_bounded : (problems : List Problem) (n budget : ℕ) (events : List Event) (g : ℕ) → count_fitting (turns_goal g) events (begun problems n budget) ≤ budget + 1
turns_bounded problems n budget events g = let l = count_had events (begun problems n budget) g 0 (begun_had problems n budget g) in omega arith
