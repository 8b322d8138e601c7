-- Only so many steps of a goal fit.
use Rattle.std.proofs.Common.{◌≡◌, ◌≢◌, ℕ, zero, suc, ◌+◌, ◌-◌, ◌*◌, ◌<◌, ◌≤◌, Bool, true, false, ◌&&◌, ◌||◌, ◌==◌, List, [], ◌∷◌, length, set, slice_index_or, refl, sym, ap, ◌∙◌, subst, arith, suc-mul, length-append, nat_eq, if◌then◌else◌}
use Rattle.std.proofs.lemmas.List.{get_or-set_same, get_or-set_other, length-map, length-replicate}
use native.Mathlib.Decide.{ℕ_discrete}
use mathlib.Core.Logic.{dite}
use Rattle.gate_shape.specs.Edge.{Edge, Gate, constant, input, gate, gate_level}
use Rattle.gate_probe.specs.Words.{word_at}
use Rattle.gate_probe.specs.Views.{learnt}
use Rattle.gate_probe.specs.Moves.{Probe, probe_after, place_of, moves_left, to_go, started, IsMove, IsEnd}
use Rattle.gate_probe.specs.Sound.{probed}
use Rattle.gate_probe.specs.declared.prober.Move.{Move}
use Rattle.gate_probe.specs.declared.prober.Move.TheVariants.{Load, Claim, Found, Full}
use Rattle.search_learn.specs.declared.Turn.{Turn as SearchTurn}
use Rattle.search_learn.specs.declared.Turn.TheVariants.{More, Sat, Unsat, Budget}
use Rattle.search_learn.specs.Machine.{Machine, advance}
use Rattle.goal_alone.specs.Alone.{Deep}
use Rattle.gate_world.specs.Literals.{literal_in, place_in, if_gate, fanin_gates}
use Rattle.gate_world.specs.Work.{Problem, Work, End, Loading, Probing, Walking, Searching, Ended, Replied, CancelledBy, OutOfMemory, script_of, cone_of, to_walk, to_probe, to_load, to_build, search_at, cut_off, is_false}
use Rattle.gate_world.specs.World.{Actor, World, Event, Step, Turn, Cancel, Memory, Moved, nobody, actor_at, with_work, search_goes, told, claims, probes, moved, turned, put_moved, put_work, happens, begun_at, begun}
use Rattle.gate_world.specs.Bound.{steps_for, steps_left, takes_steps, steps_goal, count_fitting}
use Rattle.gate_world.specs.Right.{AreScripted, problem_at}
use Rattle.gate_world.proofs.Standing.{number_other}
use Rattle.gate_world.specs.Doing.{IsDoing, IsProbing}
use Rattle.gate_probe.proofs.Parts.{packed_some}
use Rattle.gate_world.proofs.Calling.{level_some}
use Rattle.gate_world.proofs.Keeping.{moves}
use Rattle.gate_world.proofs.Running.{IsGood, event_good, begun_good, within_goals, mapped_at, event_stays}

module _ (n : ℕ) (p : Problem) where
  walk_left : (es : List Edge) → steps_left n p (to_walk p es) ≤ length es
  walk_left [] = omega arith
  walk_left (e ∷ es) = omega arith

  probe_left : (seen : List ℕ) (g : Gate) (gs : List Gate) → steps_left n p (to_probe n seen g gs) ≤ 2 * n + steps_for n p gs
  probe_left seen g gs = go (nat_eq (gate_level g) 262144)
    where
      go : (t : Bool) → steps_left n p (if t then Ended (Replied Deep) else Probing g gs (started n (literal_in seen g.left) (literal_in seen g.right) (gate_level g))) ≤ 2 * n + steps_for n p gs
      go true = omega arith
      go false = omega arith

  load_left : (seen : List ℕ) (es : List Edge) (g : Gate) (gs : List Gate) → steps_left n p (to_load n seen es g gs) ≤ length es + 2 * n + steps_for n p gs
  load_left seen [] g gs = let l = probe_left seen g gs in omega arith
  load_left seen (e ∷ es) g gs = omega arith

  if_one : (e : Edge) → length (if_gate e) ≤ 1
  if_one (constant s) = omega arith
  if_one (input s k j) = omega arith
  if_one (gate s a b) = omega arith

  two_fanins : (g : Gate) → length (fanin_gates g) ≤ 2
  two_fanins g = let a = if_one g.left in let b = if_one g.right in let c = length-append (if_gate g.left) (if_gate g.right) in omega arith

  more_steps : (g : Gate) (gs : List Gate) → steps_for n p (g ∷ gs) ≡ 2 * n + 2 + steps_for n p gs
  more_steps g gs = let e = suc-mul (length gs) (2 * n + 2) in omega arith

  pub build_left : (seen : List ℕ) (gs : List Gate) → steps_left n p (to_build n p seen gs) ≤ steps_for n p gs
  build_left seen [] = let l = walk_left (cone_of p) in omega arith
  build_left seen (g ∷ gs) = let l = load_left seen (fanin_gates g) g gs in let t = two_fanins g in let m = more_steps g gs in omega arith

-- a search comes nearer to its end
nearer_by : (p : Probe) (w : ℕ) (b c d : Bool) → (p.passed + 1 == p.places) ≡ d → p.passed < p.places
    → to_go (p.places - (if b || c then p.passed else p.passed + 1)) (if b then Found (8193 + place_of p) else if c then Claim (place_of p) p.word else if d then Full else Load (probed p.places p.from (p.passed + 1))) + 1 ≤ 2 * (p.places - p.passed)
nearer_by p w true c d e h = omega arith
nearer_by p w false true d e h = omega arith
nearer_by p w false false true e h = omega arith
nearer_by p w false false false e h = omega arith

nearer_claimed : (p : Probe) (w : ℕ) (b d : Bool) → (p.passed + 1 == p.places) ≡ d → p.passed < p.places
    → to_go (p.places - (if b || false then p.passed else p.passed + 1)) (if b then Found (8193 + place_of p) else if false then Claim (place_of p) p.word else if d then Full else Load (probed p.places p.from (p.passed + 1))) + 1 ≤ 2 * (p.places - p.passed) - 1
nearer_claimed p w true d e h = omega arith
nearer_claimed p w false true e h = omega arith
nearer_claimed p w false false e h = omega arith

loaded_nearer : (p : Probe) (s w : ℕ) → p.last ≡ Load s → p.passed < p.places → moves_left (probe_after p w) + 1 ≤ moves_left p
loaded_nearer p s w last h = subst (λ (m : Move). moves_left (probe_after p w) + 1 ≤ to_go (p.places - p.passed) m) (sym last) (nearer_by p w (w == p.word) (w == 0) (p.passed + 1 == p.places) refl h)

claimed_nearer : (p : Probe) (s x w : ℕ) → p.last ≡ Claim s x → w ≢ 0 → p.passed < p.places → moves_left (probe_after p w) + 1 ≤ moves_left p
claimed_nearer p s x w last some h =
    let e : (w == 0) ≡ false = number_other w 0 some in
    subst (λ (m : Move). moves_left (probe_after p w) + 1 ≤ to_go (p.places - p.passed) m) (sym last)
    (subst (λ (c : Bool). to_go (p.places - (if (w == p.word) || c then p.passed else p.passed + 1)) (if w == p.word then Found (8193 + place_of p) else if c then Claim (place_of p) p.word else if p.passed + 1 == p.places then Full else Load (probed p.places p.from (p.passed + 1))) + 1 ≤ 2 * (p.places - p.passed) - 1) (sym e)
    (nearer_claimed p w (w == p.word) (p.passed + 1 == p.places) refl h))

goes_left : (n : ℕ) (p : Problem) (seen : List ℕ) (g : Gate) (gs : List Gate) (q : Probe) (move : Move) (most : ℕ) → moves_left q + 1 ≤ most → q.last ≡ move → steps_left n p (search_goes n p seen g gs q move) + 1 ≤ most + steps_for n p gs
goes_left n p seen g gs q (Load s) most h last = omega arith
goes_left n p seen g gs q (Claim s w) most h last = omega arith
goes_left n p seen g gs q (Found node) most h last = let l = build_left n p seen gs in omega arith
goes_left n p seen g gs q Full most h last = omega arith

-- each load and claim leaves one less
module _ (n : ℕ) (words : List ℕ) (a : Actor) where
  abbrev left_of_actor : Moved → ℕ
  left_of_actor m = steps_left n m.actor.problem m.actor.work

  claims_lower : (g : Gate) (gs : List Gate) (q : Probe) (s wanted found : ℕ) → length words ≡ n → q.last ≡ Claim s wanted → wanted ≢ 0 → q.passed < q.places → left_of_actor (claims words a g gs q s wanted found) + 1 ≤ moves_left q + steps_for n a.problem gs
  claims_lower g gs q s wanted zero size last some h =
      subst (λ k. steps_left n a.problem (told k a g gs q s wanted).work + 1 ≤ moves_left q + steps_for n a.problem gs) (sym size)
      (goes_left n a.problem (learnt a.seen s wanted) g gs (probe_after q wanted) (probe_after q wanted).last (moves_left q) (claimed_nearer q s wanted wanted last some h) refl)
  claims_lower g gs q s wanted (suc found) size last some h =
      subst (λ k. steps_left n a.problem (told k a g gs q s (suc found)).work + 1 ≤ moves_left q + steps_for n a.problem gs) (sym size)
      (goes_left n a.problem (learnt a.seen s (suc found)) g gs (probe_after q (suc found)) (probe_after q (suc found)).last (moves_left q) (claimed_nearer q s wanted (suc found) last (λ z. absurd (omega arith)) h) refl)

  probes_lower : (g : Gate) (gs : List Gate) (q : Probe) (move : Move) → length words ≡ n → q.last ≡ move → IsMove q move → q.word ≢ 0 → (IsEnd move → ⊥) → left_of_actor (probes words a g gs q move) + 1 ≤ moves_left q + steps_for n a.problem gs
  probes_lower g gs q (Load s) size last m some ended =
      subst (λ k. steps_left n a.problem (told k a g gs q s (word_at words s)).work + 1 ≤ moves_left q + steps_for n a.problem gs) (sym size)
      (goes_left n a.problem (learnt a.seen s (word_at words s)) g gs (probe_after q (word_at words s)) (probe_after q (word_at words s)).last (moves_left q) (loaded_nearer q s (word_at words s) last m.0) refl)
  probes_lower g gs q (Claim s wanted) size last m some ended = claims_lower g gs q s wanted (word_at words s) size last (λ z. some (sym m.2 ∙ z)) m.0
  probes_lower g gs q (Found node) size last m some ended = absurd (ended tt)
  probes_lower g gs q Full size last m some ended = absurd (ended tt)

  pub moved_lowers : (budget : ℕ) (F : ℕ → Type 0) (work : Work) → length words ≡ n → a.work ≡ work → IsDoing n budget words F a.problem a.seen work → (if takes_steps work then 1 else 0) + left_of_actor (moved words a work) ≤ steps_left n a.problem work
  moved_lowers budget F (Loading e es g gs) size is d =
      let seen : List ℕ = learnt a.seen (place_in a.seen e) (word_at words (place_in a.seen e)) in
      let l = load_left n a.problem seen es g gs in
      let l' : steps_left n a.problem (to_load (length words) seen es g gs) ≤ length es + 2 * n + steps_for n a.problem gs = subst (λ k. steps_left n a.problem (to_load k seen es g gs) ≤ length es + 2 * n + steps_for n a.problem gs) (sym size) l in
      omega arith
  moved_lowers budget F (Probing g gs q) size is d =
      let h : IsProbing n a.seen g q = d.3 in
      let l = probes_lower g gs q q.last size refl h.search.move (λ z. packed_some (gate_level g) h.left h.right (level_some g) (sym h.word ∙ z)) d.4 in
      omega arith
  moved_lowers budget F (Walking e es) size is d = let l = walk_left n a.problem es in omega arith
  moved_lowers budget F (Searching m) size is d = rw is (omega arith)
  moved_lowers budget F (Ended end) size is d = rw is (omega arith)

abbrev left : ℕ → Actor → ℕ
left n a = steps_left n a.problem a.work

search_left : (n : ℕ) (p : Problem) (m : Machine) (t : SearchTurn) → steps_left n p (search_at p m t) ≤ 0
search_left n p m More = omega arith
search_left n p m Sat = omega arith
search_left n p m Unsat = omega arith
search_left n p m (Budget spent) = omega arith

pub turned_left : (n budget : ℕ) (p : Problem) (work : Work) → steps_left n p (turned budget p work) ≤ steps_left n p work
turned_left n budget p (Loading e es g gs) = omega arith
turned_left n budget p (Probing g gs q) = omega arith
turned_left n budget p (Walking e es) = omega arith
turned_left n budget p (Searching m) = search_left n p (advance budget m) (advance budget m).state.end
turned_left n budget p (Ended end) = omega arith

pub cut_left : (n : ℕ) (p : Problem) (end : End) (work : Work) → steps_left n p (cut_off end work) ≤ steps_left n p work
cut_left n p end (Loading e es g gs) = omega arith
cut_left n p end (Probing g gs q) = omega arith
cut_left n p end (Walking e es) = omega arith
cut_left n p end (Searching m) = omega arith
cut_left n p end (Ended old) = omega arith

-- what is left of a goal behind a change of one goal
left_put : (w : World) (k : ℕ) (words : List ℕ) (a : Actor) (g : ℕ) (P : ℕ → Type 0) → length words ≡ length w.words → g < length w.actors → (g ≡ k → P (left (length w.words) a)) → (g ≢ k → P (left (length w.words) (actor_at w g)))
    → P (left (length words) (slice_index_or (set w.actors k a) g nobody))
left_put w k words a g P size inside mine other = dite (ℕ_discrete g k)
    (λ (is : g ≡ k).
    let in' : k < length w.actors = subst (λ m. m < length w.actors) is inside in
    let at : slice_index_or (set w.actors k a) g nobody ≡ a = ap (λ j. slice_index_or (set w.actors k a) j nobody) is ∙ get_or-set_same w.actors k a nobody in' in
    subst (λ n. P (left n (slice_index_or (set w.actors k a) g nobody))) (sym size) (subst (λ (b : Actor). P (left (length w.words) b)) (sym at) (mine is)))
    (λ ne. subst (λ n. P (left n (slice_index_or (set w.actors k a) g nobody))) (sym size) (subst (λ (b : Actor). P (left (length w.words) b)) (sym (get_or-set_other w.actors k g a nobody ne)) (other ne)))

counted : (b t : Bool) → (if b && t then 1 else 0) ≤ (if t then 1 else 0)
counted true t = omega arith
counted false true = omega arith
counted false false = omega arith

not_counted : (b t : Bool) → b ≡ false → ◌≡◌ {A = ℕ} (if b && t then 1 else 0) 0
not_counted b t e = rw e refl

step_lowers : (w : World) (k g : ℕ) → IsGood w → g < length w.actors → (if steps_goal g w (Step k) then 1 else 0) + left (length (happens w (Step k)).words) (actor_at (happens w (Step k)) g) ≤ left (length w.words) (actor_at w g)
step_lowers w k g good inside =
    within_goals w k ((if steps_goal g w (Step k) then 1 else 0) + left (length (happens w (Step k)).words) (actor_at (happens w (Step k)) g) ≤ left (length w.words) (actor_at w g))
    (λ in'.
    let a : Actor = actor_at w k in
    let h = good.actors k in' in
    let m = moves (length w.words) w.budget (λ c. is_false (actor_at w c).work ≡ true) good.some good.few w.words a a.work refl good.sound h refl h.doing in
    let lower = moved_lowers (length w.words) w.words a w.budget (λ c. is_false (actor_at w c).work ≡ true) a.work refl refl h.doing in
    left_put w k (moved w.words a a.work).words (moved w.words a a.work).actor g (λ x. (if steps_goal g w (Step k) then 1 else 0) + x ≤ left (length w.words) (actor_at w g)) m.size inside
    (λ is.
    let c = counted (nat_eq k g) (takes_steps (actor_at w g).work) in
    let l : (if takes_steps (actor_at w g).work then 1 else 0) + left (length w.words) (moved w.words a a.work).actor ≤ left (length w.words) (actor_at w g) =
    subst (λ j. (if takes_steps (actor_at w j).work then 1 else 0) + left (length w.words) (moved w.words a a.work).actor ≤ left (length w.words) (actor_at w j)) (sym is) lower in
    omega arith)
    (λ ne. let c = not_counted (nat_eq k g) (takes_steps (actor_at w g).work) (number_other k g (λ e. ne (sym e))) in omega arith))
    (λ none past.
    let ne : g ≢ k = (λ e. absurd (omega arith)) in
    let c = not_counted (nat_eq k g) (takes_steps (actor_at w g).work) (number_other k g (λ e. ne (sym e))) in
    subst (λ (a : Actor). (if steps_goal g w (Step k) then 1 else 0) + left (length (put_moved w k (moved w.words a a.work)).words) (actor_at (put_moved w k (moved w.words a a.work)) g) ≤ left (length w.words) (actor_at w g)) (sym none)
    (left_put w k w.words nobody g (λ x. (if steps_goal g w (Step k) then 1 else 0) + x ≤ left (length w.words) (actor_at w g)) refl inside (λ e. absurd (ne e)) (λ _. omega arith)))

work_left : (w : World) (k g : ℕ) (work : Work) → g < length w.actors → steps_left (length w.words) (actor_at w k).problem work ≤ steps_left (length w.words) (actor_at w k).problem (actor_at w k).work
    → 0 + left (length (put_work w k work).words) (actor_at (put_work w k work) g) ≤ left (length w.words) (actor_at w g)
work_left w k g work inside less =
    left_put w k w.words (with_work (actor_at w k) work) g (λ x. 0 + x ≤ left (length w.words) (actor_at w g)) refl inside
    (λ is. let l = subst (λ j. steps_left (length w.words) (actor_at w k).problem work ≤ left (length w.words) (actor_at w j)) (sym is) less in omega arith)
    (λ ne. omega arith)

cancel_left : (w : World) (k cause g : ℕ) (b : Bool) → g < length w.actors → 0 + left (length (if b then put_work w k (cut_off (CancelledBy cause) (actor_at w k).work) else w).words) (actor_at (if b then put_work w k (cut_off (CancelledBy cause) (actor_at w k).work) else w) g) ≤ left (length w.words) (actor_at w g)
cancel_left w k cause g true inside = work_left w k g (cut_off (CancelledBy cause) (actor_at w k).work) inside (cut_left (length w.words) (actor_at w k).problem (CancelledBy cause) (actor_at w k).work)
cancel_left w k cause g false inside = omega arith

event_lowers : (w : World) (e : Event) (g : ℕ) → IsGood w → g < length w.actors → (if steps_goal g w e then 1 else 0) + left (length (happens w e).words) (actor_at (happens w e) g) ≤ left (length w.words) (actor_at w g)
event_lowers w (Step k) g good inside = step_lowers w k g good inside
event_lowers w (Turn k) g good inside = work_left w k g (turned w.budget (actor_at w k).problem (actor_at w k).work) inside (turned_left (length w.words) w.budget (actor_at w k).problem (actor_at w k).work)
event_lowers w (Cancel k cause) g good inside = cancel_left w k cause g (is_false (actor_at w cause).work) inside
event_lowers w (Memory k) g good inside = work_left w k g (cut_off OutOfMemory (actor_at w k).work) inside (cut_left (length w.words) (actor_at w k).problem OutOfMemory (actor_at w k).work)

count_left : (events : List Event) (w : World) (g : ℕ) → IsGood w → g < length w.actors → count_fitting (steps_goal g) events w ≤ left (length w.words) (actor_at w g)
count_left [] w g good inside = omega arith
count_left (e ∷ es) w g good inside =
    let l = event_lowers w e g good inside in
    let r = count_left es (happens w e) g (event_good w e good) (subst (λ k. g < k) (sym (event_stays w e).count) inside) in
    omega arith

pub steps_bounded : (problems : List Problem) (n budget : ℕ) (events : List Event) (g : ℕ) → 1 ≤ n → n ≤ 4000000 → AreScripted problems → g < length problems
    → let p = problem_at problems g in count_fitting (steps_goal g) events (begun problems n budget) ≤ steps_for n p (script_of p)
steps_bounded problems n budget events g some few scripted l =
    let w : World = begun problems n budget in
    let p : Problem = slice_index_or problems g nobody.problem in
    let inside : g < length w.actors = subst (λ k. g < k) (sym (length-map problems (begun_at n))) l in
    let at : actor_at w g ≡ begun_at n p = mapped_at (begun_at n) problems g nobody.problem nobody l in
    let size : length w.words ≡ n = length-replicate n 0 in
    let c = count_left events w g (begun_good problems n budget some few scripted) inside in
    let first : left (length w.words) (actor_at w g) ≤ steps_for n p (script_of p) =
    subst (λ k. left k (actor_at w g) ≤ steps_for n p (script_of p)) (sym size) (subst (λ (a : Actor). left n a ≤ steps_for n p (script_of p)) (sym at) (build_left n p [] (script_of p))) in
    omega arith
