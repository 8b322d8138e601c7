-- An event that is drawn: what becomes of the list of unended goals, and that less is left to do.
use Rattle.std.proofs.Common.{◌≡◌, ⊎_elim, inl, inr, ℕ, zero, suc, ◌+◌, ◌<◌, ◌≤◌, ◌%◌, Bool, true, false, List, [], ◌∷◌, ◌++◌, length, set, take, drop, slice_index_or, refl, sym, ap, ◌∙◌, subst, arith, if◌then◌else◌}
use Rattle.std.proofs.lemmas.List.{get_or-set_same, get_or_read}
use Rattle.search_learn.specs.Machine.{Machine, advance}
use Rattle.search_learn.specs.declared.Turn.TheVariants.{More}
use Rattle.gate_world.specs.Work.{Problem, Work, Loading, Probing, Walking, Searching, Ended, OutOfMemory, cut_off, is_false}
use Rattle.gate_world.specs.World.{Event, Step, Turn, Memory, Actor, World, nobody, actor_at, with_work, moved, turned, happens}
use Rattle.gate_world.specs.Doing.{IsDoing}
use Rattle.gate_world.specs.Bound.{steps_left, turns_left, turns_within, goes_on, all_left, events_left, takes_steps, takes_turns, fits}
use Rattle.gate_world.specs.Drawn.{has_ended, unended_from, unended, event_for, picked, IsEventFor}
use Rattle.gate_world.specs.Shown.{MayBecome, Happens, Shows, event_of, goals_of}
use Rattle.gate_world.specs.declared.event.Event.{Event as CodeEvent}
use Rattle.gate_world.specs.Left.{AreLeft, Draws}
use Rattle.gate_world.specs.declared.world.World.{World as CodeWorld}
use Rattle.gate_world.proofs.Running.{IsGood}
use Rattle.gate_world.proofs.Lowering.{event_less}
use Rattle.gate_world.proofs.Unended.{IsPicked, pick}
use Rattle.gate_world.proofs.Weighed.{world_left, shown_count, shown_left, same_unended}

-- ---- which event it is

-- behind the event that the goal gets
pub record IsDrawn (w : World) (g : ℕ) (v : World) : Type 0 where
  pub event : Event
  pub fits : IsEventFor w g event
  pub is : v ≡ happens w event

may_turn : (w v : World) (g : ℕ) (b : Bool) → takes_turns (actor_at w g).work ≡ b → MayBecome (if b then Turn g else Step g) w v → IsDrawn w g v
may_turn w v g true e may =
    let is : event_for w g ≡ Turn g = ap (λ b. if b then Turn g else Step g) e in
    ⊎_elim (λ h. record { event = Turn g; fits = inl (sym is); is = h }) (λ h. record { event = Memory g; fits = inr refl; is = h }) may
may_turn w v g false e may =
    let is : event_for w g ≡ Step g = ap (λ b. if b then Turn g else Step g) e in
    ⊎_elim (λ h. record { event = Step g; fits = inl (sym is); is = h }) (λ h. record { event = Memory g; fits = inr refl; is = h }) may

pub may_drawn : (w v : World) (g : ℕ) (e : Event) → e ≡ event_for w g → MayBecome e w v → IsDrawn w g v
may_drawn w v g e is may = may_turn w v g (takes_turns (actor_at w g).work) refl (subst (λ (x : Event). MayBecome x w v) is may)

-- ---- the list of unended goals behind it

-- one goal is given another actor
record IsSet (w : World) (g : ℕ) (v : World) : Type 0 where
  actor : Actor
  is : v.actors ≡ set w.actors g actor

sets_turn : (w : World) (g : ℕ) (b : Bool) → IsSet w g (happens w (if b then Turn g else Step g))
sets_turn w g true = record { actor = with_work (actor_at w g) (turned w.budget (actor_at w g).problem (actor_at w g).work); is = refl }
sets_turn w g false = record { actor = (moved w.words (actor_at w g) (actor_at w g).work).actor; is = refl }

sets : (w : World) (g : ℕ) (e : Event) → IsEventFor w g e → IsSet w g (happens w e)
sets w g e h = ⊎_elim
    (λ is. subst (λ (x : Event). IsSet w g (happens w x)) (sym is) (sets_turn w g (takes_turns (actor_at w g).work)))
    (λ is. subst (λ (x : Event). IsSet w g (happens w x)) (sym is) (record { actor = with_work (actor_at w g) (cut_off OutOfMemory (actor_at w g).work); is = refl }))
    h

set_here : (w v : World) (g : ℕ) (s : IsSet w g v) → g < length w.actors → actor_at v g ≡ s.actor
set_here w v g s inside = ap (λ (xs : List Actor). slice_index_or xs g nobody) s.is ∙ get_or-set_same w.actors g s.actor nobody inside

picked_index : (at g : ℕ) (actors : List Actor) (xs : List ℕ) (p : IsPicked 0 at actors xs) → slice_index_or xs at 0 ≡ g → p.index ≡ g
picked_index at g actors xs p is = (let q = p.is in omega arith)

-- the goal that was picked goes on
pub left_kept : (w : World) (at g : ℕ) (e : Event) (xs : List ℕ) → IsPicked 0 at w.actors xs → slice_index_or xs at 0 ≡ g → IsEventFor w g e → has_ended (actor_at (happens w e) g).work ≡ false → xs ≡ unended (happens w e)
left_kept w at g e xs p is fits going =
    let s : IsSet w g (happens w e) = sets w g e fits in
    let i : p.index ≡ g = picked_index at g w.actors xs p is in
    let inside : g < length w.actors = subst (λ k. k < length w.actors) i p.inside in
    let on : has_ended s.actor.work ≡ false = sym (ap (λ (a : Actor). has_ended a.work) (set_here w (happens w e) g s inside)) ∙ going in
    sym (ap (unended_from 0) s.is ∙ ap (λ k. unended_from 0 (set w.actors k s.actor)) (sym i) ∙ p.stays s.actor on)

-- it has ended
pub left_removed : (w : World) (at g : ℕ) (e : Event) (xs ys : List ℕ) → IsPicked 0 at w.actors xs → slice_index_or xs at 0 ≡ g → IsEventFor w g e → has_ended (actor_at (happens w e) g).work ≡ true → ys ≡ take at xs ++ drop (at + 1) xs → ys ≡ unended (happens w e)
left_removed w at g e xs ys p is fits over rest =
    let s : IsSet w g (happens w e) = sets w g e fits in
    let i : p.index ≡ g = picked_index at g w.actors xs p is in
    let inside : g < length w.actors = subst (λ k. k < length w.actors) i p.inside in
    let done : has_ended s.actor.work ≡ true = sym (ap (λ (a : Actor). has_ended a.work) (set_here w (happens w e) g s inside)) ∙ over in
    let one : at + 1 ≡ suc at = omega arith in
    rest ∙ ap (λ k. take at xs ++ drop k xs) one ∙ sym (ap (unended_from 0) s.is ∙ ap (λ k. unended_from 0 (set w.actors k s.actor)) (sym i) ∙ p.goes s.actor done)

-- ---- less is left

busy : (work : Work) → has_ended work ≡ false → takes_turns work ≡ false → takes_steps work ≡ true
busy (Loading e es g gs) h t = refl
busy (Probing g gs q) h t = refl
busy (Walking e es) h t = refl
busy (Searching m) h t = absurd (cc)
busy (Ended end) h t = absurd (cc)

fits_turn : (w : World) (g : ℕ) (b : Bool) → takes_turns (actor_at w g).work ≡ b → has_ended (actor_at w g).work ≡ false → fits w (if b then Turn g else Step g) ≡ true
fits_turn w g true e going = e
fits_turn w g false e going = busy (actor_at w g).work going e

turn_lowers : (w : World) (g : ℕ) → IsGood w → has_ended (actor_at w g).work ≡ false → 1 + events_left (happens w (event_for w g)) ≤ events_left w
turn_lowers w g good going =
    let e : Event = event_for w g in
    let one : ◌≡◌ {A = ℕ} (if fits w e then 1 else 0) 1 = ap {A = Bool} {B = ℕ} (λ b. if b then 1 else 0) (fits_turn w g (takes_turns (actor_at w g).work) refl going) in
    let less : (if fits w e then 1 else 0) + events_left (happens w e) ≤ events_left w = event_less w e good in
    subst (λ k. k + events_left (happens w e) ≤ events_left w) one less

abbrev one_left : ℕ → ℕ → Actor → ℕ
one_left n budget a = steps_left n a.problem a.work + turns_left budget a.work

set_lowers : (n budget : ℕ) (actors : List Actor) (g : ℕ) (a : Actor) → g < length actors → 1 + one_left n budget a ≤ one_left n budget (slice_index_or actors g nobody) → 1 + all_left n budget (set actors g a) ≤ all_left n budget actors
set_lowers n budget [] g a l h = absurd (omega arith)
set_lowers n budget (x ∷ xs) zero a l h = omega arith
set_lowers n budget (x ∷ xs) (suc g) a l h = let r = set_lowers n budget xs g a (omega arith) h in omega arith

one_turn : (budget : ℕ) (m : Machine) → m.state.end ≡ More → turns_within (budget + 1) budget m ≡ 1 + turns_within budget budget (advance budget m)
unfolding turns_within
one_turn budget m e =
    let one : budget + 1 ≡ suc budget = omega arith in
    ap (λ n. turns_within n budget m) one ∙ ap (λ t. if goes_on t then 1 + turns_within budget budget (advance budget m) else 0) e

cut_lowers : (n size budget : ℕ) (words seen : List ℕ) (F : ℕ → Type 0) (p : Problem) (work : Work) → IsDoing n budget words F p seen work → has_ended work ≡ false
    → 1 + (steps_left size p (cut_off OutOfMemory work) + turns_left budget (cut_off OutOfMemory work)) ≤ steps_left size p work + turns_left budget work
cut_lowers n size budget words seen F p (Loading e es g gs) d h = omega arith
cut_lowers n size budget words seen F p (Probing g gs q) d h = omega arith
cut_lowers n size budget words seen F p (Walking e es) d h = omega arith
cut_lowers n size budget words seen F p (Searching m) d h = let t = one_turn budget m d.going in omega arith
cut_lowers n size budget words seen F p (Ended end) d h = absurd (cc)

memory_lowers : (w : World) (g : ℕ) → IsGood w → g < length w.actors → has_ended (actor_at w g).work ≡ false → 1 + events_left (happens w (Memory g)) ≤ events_left w
memory_lowers w g good inside going =
    let a : Actor = actor_at w g in
    set_lowers (length w.words) w.budget w.actors g (with_work a (cut_off OutOfMemory a.work)) inside
    (cut_lowers (length w.words) (length w.words) w.budget w.words a.seen (λ c. is_false (actor_at w c).work ≡ true) a.problem a.work (good.actors g inside).doing going)

pub event_lowers : (w : World) (g : ℕ) (e : Event) → IsGood w → g < length w.actors → has_ended (actor_at w g).work ≡ false → IsEventFor w g e → 1 + events_left (happens w e) ≤ events_left w
event_lowers w g e good inside going h = ⊎_elim
    (λ is. subst (λ (x : Event). 1 + events_left (happens w x) ≤ events_left w) (sym is) (turn_lowers w g good going))
    (λ is. subst (λ (x : Event). 1 + events_left (happens w x) ≤ events_left w) (sym is) (memory_lowers w g good inside going))
    h

-- the goal that a word picks is unended
pub picks : (word : ℕ) (w : World) → 1 ≤ length (unended w) → IsPicked 0 (word % length (unended w)) w.actors (unended w)
picks word w some = pick 0 (word % length (unended w)) w.actors (unended w) refl (omega arith)

pub drawn_lowers : (word : ℕ) (w : World) (e : Event) → IsGood w → 1 ≤ length (unended w) → IsEventFor w (picked word w) e → 1 + events_left (happens w e) ≤ events_left w
drawn_lowers word w e good some fits =
    let at : ℕ = word % length (unended w) in
    let p : IsPicked 0 at w.actors (unended w) = picks word w some in
    let i : p.index ≡ picked word w = picked_index at (picked word w) w.actors (unended w) p refl in
    event_lowers w (picked word w) e good (subst (λ k. k < length w.actors) i p.inside) (subst (λ k. has_ended (slice_index_or w.actors k nobody).work ≡ false) i p.going) fits

-- ---- of what is shown

pub left_any : (c : CodeWorld) (v : World) (xs : List ℕ) → Shows c v → xs ≡ unended v → AreLeft c xs
left_any c v xs shown is = λ w h. is ∙ same_unended c v w shown h

-- the goal at an index of the list is one of the goals
pub picked_inside : (c : CodeWorld) (w : World) (left : List ℕ) (at : ℕ) → Shows c w → AreLeft c left → at < length left → slice_index_or left at 0 < length (goals_of c)
picked_inside c w left at shown are l =
    let p : IsPicked 0 at w.actors left = pick 0 at w.actors left (are w shown) l in
    let is : slice_index_or left at 0 ≡ 0 + p.index = p.is in
    let inside : p.index < length w.actors = p.inside in
    let count : length w.actors ≡ length (goals_of c) = shown_count c w shown in
    omega arith

-- what the code reads there
pub picked_is : (left : List ℕ) (r word k g : ℕ) → r ≡ word → k ≡ length left → g ≡ slice_index_or left (r % k) g → 1 ≤ length left → slice_index_or left (word % length left) 0 ≡ g
picked_is left r word k g e f at some =
    let same : r % k ≡ word % length left = ap (λ i. i % k) e ∙ ap (λ i. word % i) f in
    let there : g ≡ slice_index_or left (word % length left) g = subst (λ i. g ≡ slice_index_or left i g) same at in
    sym (get_or_read left (word % length left) g (omega arith) there 0)

picks_it : (c : CodeWorld) (w : World) (left : List ℕ) (word g : ℕ) → Shows c w → AreLeft c left → slice_index_or left (word % length left) 0 ≡ g → picked word w ≡ g
picks_it c w left word g shown are is = sym (ap (λ (xs : List ℕ). slice_index_or xs (word % length xs) 0) (are w shown)) ∙ is

pub drawn_by : (word g : ℕ) (old new : CodeWorld) (left : List ℕ) (e : CodeEvent) → AreLeft old left → slice_index_or left (word % length left) 0 ≡ g → ((w : World) → Shows old w → event_of e ≡ event_for w g) → Happens e old new → Draws word old new
drawn_by word g old new left e are is names happen = λ w shown.
    let m = happen w shown in
    let d : IsDrawn w g m.0 = may_drawn w m.0 g (event_of e) (names w shown) m.1 in
    (d.event, subst (λ k. IsEventFor w k d.event) (sym (picks_it old w left word g shown are is)) d.fits, subst (λ (v : World). Shows new v) d.is m.2)

module _ (word g : ℕ) (old new : CodeWorld) (left : List ℕ) (w : World) (shown : Shows old w) (are : AreLeft old left) (some : 1 ≤ length left) (is : slice_index_or left (word % length left) 0 ≡ g) (draws : Draws word old new) where
  it_fits : IsEventFor w g (draws w shown).0
  it_fits = subst (λ k. IsEventFor w k (draws w shown).0) (picks_it old w left word g shown are is) (draws w shown).1

  it_picks : IsPicked 0 (word % length left) w.actors left
  it_picks = pick 0 (word % length left) w.actors left (are w shown) (omega arith)

  -- the goal hasn't ended by its event
  pub left_on : ((v : World) → Shows new v → has_ended (actor_at v g).work ≡ false) → AreLeft new left
  left_on going =
      let v : World = happens w (draws w shown).0 in
      left_any new v left (draws w shown).2 (left_kept w (word % length left) g (draws w shown).0 left it_picks is it_fits (going v (draws w shown).2))

  -- it has
  pub left_less : (rest : List ℕ) → ((v : World) → Shows new v → has_ended (actor_at v g).work ≡ true) → rest ≡ take (word % length left) left ++ drop (word % length left + 1) left → AreLeft new rest
  left_less rest over cut =
      let v : World = happens w (draws w shown).0 in
      left_any new v rest (draws w shown).2 (left_removed w (word % length left) g (draws w shown).0 left rest it_picks is it_fits (over v (draws w shown).2) cut)

pub draw_lowers : (word : ℕ) (old new : CodeWorld) (left : List ℕ) (w : World) → Shows old w → IsGood w → AreLeft old left → 1 ≤ length left → Draws word old new → world_left new < world_left old
draw_lowers word old new left w shown good are some draws =
    let d = draws w shown in
    let some' : 1 ≤ length (unended w) = subst (λ (xs : List ℕ). 1 ≤ length xs) (are w shown) some in
    let less : 1 + events_left (happens w d.0) ≤ events_left w = drawn_lowers word w d.0 good some' d.1 in
    let before : events_left w ≡ world_left old = shown_left old w shown in
    let behind : events_left (happens w d.0) ≡ world_left new = shown_left new (happens w d.0) d.2 in
    omega arith
