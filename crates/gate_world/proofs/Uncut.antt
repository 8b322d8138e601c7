-- No event that is drawn is a cancellation, so no goal is cancelled; and the outcomes are then right.
use Rattle.std.proofs.Common.{◌≡◌, ⊎_elim, ℕ, zero, suc, ◌<◌, Bool, true, false, List, [], ◌∷◌, length, map, set, slice_index_or, sym, subst, arith, nat_eq, if◌then◌else◌}
use Rattle.gate_shape.specs.Edge.{Edge, Gate, gate_level}
use Rattle.gate_probe.specs.Words.{word_at}
use Rattle.gate_probe.specs.Views.{learnt}
use Rattle.gate_probe.specs.Moves.{Probe, probe_after, started}
use Rattle.gate_probe.specs.declared.prober.Move.{Move}
use Rattle.gate_probe.specs.declared.prober.Move.TheVariants.{Load, Claim, Found, Full}
use Rattle.search_learn.specs.Machine.{Machine, advance}
use Rattle.search_learn.specs.declared.Turn.{Turn as SearchTurn}
use Rattle.search_learn.specs.declared.Turn.TheVariants.{More, Sat, Unsat, Budget}
use Rattle.bv_expr.specs.declared.goal.Goal.{Goal}
use Rattle.goal_reply.specs.declared.reply.Reply.{Reply}
use Rattle.goal_reply.specs.declared.reply.Reply.TheVariants as reply
use Rattle.goal_reply.specs.declared.reply.Outcome.{Outcome}
use Rattle.goal_reply.specs.declared.reply.Outcome.TheVariants as outcome
use Rattle.goal_alone.specs.Alone.{Answer, Deep, alone}
use Rattle.goal_alone.specs.Told.{IsAnswer}
use Rattle.rand_pcg.specs.Lcg.{Lcg}
use Rattle.rand_pcg.specs.Pcg.{pcg32}
use Rattle.gate_world.specs.Literals.{literal_in, place_in, fanin_gates}
use Rattle.gate_world.specs.Work.{Problem, Work, End, Loading, Probing, Walking, Searching, Ended, Replied, OutOfMemory, NoRoom, CancelledBy, cone_of, script_of, to_walk, to_probe, to_load, to_build, search_at, cut_off}
use Rattle.gate_world.specs.World.{Event, Step, Turn, Actor, World, nobody, actor_at, with_work, search_goes, claims, probes, moved, turned, happens, run, begun_at, begun}
use Rattle.gate_world.specs.Right.{IsEndOf, IsWorkOf, IsRight, problem_at}
use Rattle.gate_world.specs.Bound.{takes_turns}
use Rattle.gate_world.specs.Coding.{problem_of}
use Rattle.gate_world.specs.Drawn.{picked, IsEventFor, AreDrawn}
use Rattle.gate_world.specs.Solving.{IsReplyOf, IsOutcomeOf, IsOutcomeBacked}
use Rattle.gate_world.specs.Shown.{problems_of}
use Rattle.gate_world.specs.Scheduled.{AreOutcomesOf, AreBacked, IsRightOutcome, AreRightOutcomes}

-- the goal isn't cancelled
abbrev pub IsUncutEnd : End → Type 0
IsUncutEnd (Replied a) = Unit {0}
IsUncutEnd OutOfMemory = Unit {0}
IsUncutEnd NoRoom = Unit {0}
IsUncutEnd (CancelledBy c) = ⊥

abbrev pub IsUncut : Work → Type 0
IsUncut (Loading e es g gs) = Unit {0}
IsUncut (Probing g gs q) = Unit {0}
IsUncut (Walking e es) = Unit {0}
IsUncut (Searching m) = Unit {0}
IsUncut (Ended end) = IsUncutEnd end

module _ (p : Problem) where
  walk_uncut : (es : List Edge) → IsUncut (to_walk p es)
  walk_uncut [] = tt
  walk_uncut (e ∷ es) = tt

  probe_uncut : (n : ℕ) (seen : List ℕ) (g : Gate) (gs : List Gate) → IsUncut (to_probe n seen g gs)
  probe_uncut n seen g gs = go (nat_eq (gate_level g) 262144)
    where
      go : (t : Bool) → IsUncut (if t then Ended (Replied Deep) else Probing g gs (started n (literal_in seen g.left) (literal_in seen g.right) (gate_level g)))
      go true = tt
      go false = tt

  load_uncut : (n : ℕ) (seen : List ℕ) (es : List Edge) (g : Gate) (gs : List Gate) → IsUncut (to_load n seen es g gs)
  load_uncut n seen [] g gs = probe_uncut n seen g gs
  load_uncut n seen (e ∷ es) g gs = tt

  build_uncut : (n : ℕ) (seen : List ℕ) (gs : List Gate) → IsUncut (to_build n p seen gs)
  build_uncut n seen [] = walk_uncut (cone_of p)
  build_uncut n seen (g ∷ gs) = load_uncut n seen (fanin_gates g) g gs

  goes_uncut : (n : ℕ) (seen : List ℕ) (g : Gate) (gs : List Gate) (q : Probe) (move : Move) → IsUncut (search_goes n p seen g gs q move)
  goes_uncut n seen g gs q (Load s) = tt
  goes_uncut n seen g gs q (Claim s w) = tt
  goes_uncut n seen g gs q (Found node) = build_uncut n seen gs
  goes_uncut n seen g gs q Full = tt

  search_uncut : (m : Machine) (t : SearchTurn) → IsUncut (search_at p m t)
  search_uncut m More = tt
  search_uncut m Sat = tt
  search_uncut m Unsat = tt
  search_uncut m (Budget spent) = tt

  turned_uncut : (budget : ℕ) (work : Work) → IsUncut work → IsUncut (turned budget p work)
  turned_uncut budget (Loading e es g gs) h = tt
  turned_uncut budget (Probing g gs q) h = tt
  turned_uncut budget (Walking e es) h = tt
  turned_uncut budget (Searching m) h = search_uncut (advance budget m) (advance budget m).state.end
  turned_uncut budget (Ended end) h = h

claims_uncut : (words : List ℕ) (a : Actor) (g : Gate) (gs : List Gate) (q : Probe) (s wanted found : ℕ) → IsUncut (claims words a g gs q s wanted found).actor.work
claims_uncut words a g gs q s wanted zero = goes_uncut a.problem (length words) (learnt a.seen s wanted) g gs (probe_after q wanted) (probe_after q wanted).last
claims_uncut words a g gs q s wanted (suc found) = goes_uncut a.problem (length words) (learnt a.seen s (suc found)) g gs (probe_after q (suc found)) (probe_after q (suc found)).last

probes_uncut : (words : List ℕ) (a : Actor) (g : Gate) (gs : List Gate) (q : Probe) (move : Move) → IsUncut a.work → IsUncut (probes words a g gs q move).actor.work
probes_uncut words a g gs q (Load s) h = goes_uncut a.problem (length words) (learnt a.seen s (word_at words s)) g gs (probe_after q (word_at words s)) (probe_after q (word_at words s)).last
probes_uncut words a g gs q (Claim s wanted) h = claims_uncut words a g gs q s wanted (word_at words s)
probes_uncut words a g gs q (Found node) h = h
probes_uncut words a g gs q Full h = h

moved_uncut : (words : List ℕ) (a : Actor) (work : Work) → IsUncut a.work → IsUncut (moved words a work).actor.work
moved_uncut words a (Loading e es g gs) h = load_uncut a.problem (length words) (learnt a.seen (place_in a.seen e) (word_at words (place_in a.seen e))) es g gs
moved_uncut words a (Probing g gs q) h = probes_uncut words a g gs q q.last h
moved_uncut words a (Walking e es) h = walk_uncut a.problem es
moved_uncut words a (Searching m) h = h
moved_uncut words a (Ended end) h = h

memory_uncut : (work : Work) → IsUncut work → IsUncut (cut_off OutOfMemory work)
memory_uncut (Loading e es g gs) h = tt
memory_uncut (Probing g gs q) h = tt
memory_uncut (Walking e es) h = tt
memory_uncut (Searching m) h = tt
memory_uncut (Ended end) h = h

-- none of the goals
abbrev pub AreUncut : World → Type 0
AreUncut w = (g : ℕ) → IsUncut (actor_at w g).work

set_uncut : (actors : List Actor) (g : ℕ) (a : Actor) → IsUncut a.work → ((k : ℕ) → IsUncut (slice_index_or actors k nobody).work) → (k : ℕ) → IsUncut (slice_index_or (set actors g a) k nobody).work
set_uncut [] g a h f k = f k
set_uncut (x ∷ xs) zero a h f zero = h
set_uncut (x ∷ xs) zero a h f (suc k) = f (suc k)
set_uncut (x ∷ xs) (suc g) a h f zero = f zero
set_uncut (x ∷ xs) (suc g) a h f (suc k) = set_uncut xs g a h (λ j. f (suc j)) k

turn_uncut : (w : World) (g : ℕ) (b : Bool) → AreUncut w → AreUncut (happens w (if b then Turn g else Step g))
turn_uncut w g true f = set_uncut w.actors g (with_work (actor_at w g) (turned w.budget (actor_at w g).problem (actor_at w g).work)) (turned_uncut (actor_at w g).problem w.budget (actor_at w g).work (f g)) f
turn_uncut w g false f = set_uncut w.actors g (moved w.words (actor_at w g) (actor_at w g).work).actor (moved_uncut w.words (actor_at w g) (actor_at w g).work (f g)) f

event_uncut : (w : World) (g : ℕ) (e : Event) → IsEventFor w g e → AreUncut w → AreUncut (happens w e)
event_uncut w g e h f = ⊎_elim
    (λ is. subst (λ (x : Event). AreUncut (happens w x)) (sym is) (turn_uncut w g (takes_turns (actor_at w g).work) f))
    (λ is. subst (λ (x : Event). AreUncut (happens w x)) (sym is) (set_uncut w.actors g (with_work (actor_at w g) (cut_off OutOfMemory (actor_at w g).work)) (memory_uncut (actor_at w g).work (f g)) f))
    h

pub drawn_uncut : (g : Lcg) (w : World) (es : List Event) → AreDrawn g w es → AreUncut w → AreUncut (run es w)
drawn_uncut g w [] d f = f
drawn_uncut g w (e ∷ es) d f = drawn_uncut (pcg32 g).1 (happens w e) es d.2 (event_uncut w (picked (pcg32 g).0 w) e d.1 f)

begun_from : (n : ℕ) (problems : List Problem) (g : ℕ) → IsUncut (slice_index_or (map (begun_at n) problems) g nobody).work
begun_from n [] g = tt
begun_from n (p ∷ ps) zero = build_uncut p n [] (script_of p)
begun_from n (p ∷ ps) (suc g) = begun_from n ps g

pub begun_uncut : (problems : List Problem) (n budget : ℕ) → AreUncut (begun problems n budget)
begun_uncut problems n budget = begun_from n problems

-- ---- outcomes

-- the goal has its own answer, or has none
abbrev pub IsOwnEnd : ℕ → Problem → End → Type 0
IsOwnEnd budget p (Replied a) = a ≡ alone p.binders p.hyps p.concl budget
IsOwnEnd budget p OutOfMemory = Unit {0}
IsOwnEnd budget p NoRoom = Unit {0}
IsOwnEnd budget p (CancelledBy c) = ⊥

abbrev pub IsOwn : ℕ → Problem → Work → Type 0
IsOwn budget p (Loading e es g gs) = Unit {0}
IsOwn budget p (Probing g gs q) = Unit {0}
IsOwn budget p (Walking e es) = Unit {0}
IsOwn budget p (Searching m) = Unit {0}
IsOwn budget p (Ended end) = IsOwnEnd budget p end

end_own : (w : World) (budget : ℕ) (p : Problem) (end : End) → IsUncutEnd end → IsEndOf w budget p end → IsOwnEnd budget p end
end_own w budget p (Replied a) u h = h
end_own w budget p OutOfMemory u h = tt
end_own w budget p NoRoom u h = tt
end_own w budget p (CancelledBy c) u h = u

right_own : (w : World) (budget : ℕ) (p : Problem) (work : Work) → IsUncut work → IsWorkOf w budget p work → IsOwn budget p work
right_own w budget p (Loading e es g gs) u h = tt
right_own w budget p (Probing g gs q) u h = tt
right_own w budget p (Walking e es) u h = tt
right_own w budget p (Searching m) u h = tt
right_own w budget p (Ended end) u h = end_own w budget p end u h

answer_of_reply : (r : Reply) (a : Answer) → IsReplyOf r a → IsAnswer r a
answer_of_reply (reply.Proved text) a h = h
answer_of_reply (reply.False values) a h = h
answer_of_reply (reply.Budget spent) a h = h
answer_of_reply reply.Deep a h = h
answer_of_reply reply.Large a h = h
answer_of_reply reply.Memory a h = absurd h

one_right : (budget : ℕ) (g : Goal) (o : Outcome) (end : End) → IsOutcomeOf o end → IsOutcomeBacked g o → IsOwn budget (problem_of g) (Ended end) → IsRightOutcome budget g o
one_right budget g (outcome.Replied r) (Replied a) is backed own = (subst (IsAnswer r) own (answer_of_reply r a is), backed)
one_right budget g (outcome.Replied r) OutOfMemory is backed own = (subst (λ (x : Reply). IsAnswer x (alone g.binders g.hyps g.concl budget)) (sym is) tt, backed)
one_right budget g (outcome.Replied r) NoRoom is backed own = absurd is
one_right budget g (outcome.Replied r) (CancelledBy c) is backed own = absurd is
one_right budget g outcome.Full end is backed own = tt
one_right budget g (outcome.Cancelled by) (Replied a) is backed own = is
one_right budget g (outcome.Cancelled by) OutOfMemory is backed own = is
one_right budget g (outcome.Cancelled by) NoRoom is backed own = is
one_right budget g (outcome.Cancelled by) (CancelledBy c) is backed own = own

each_right : (budget : ℕ) (goals : List Goal) (actors : List Actor) (os : List Outcome) → AreOutcomesOf actors os → AreBacked goals os
    → ((k : ℕ) → k < length goals → IsOwn budget (problem_at (problems_of goals) k) (slice_index_or actors k nobody).work) → AreRightOutcomes budget goals os
each_right budget [] actors [] is backed own = tt
each_right budget [] actors (o ∷ os) is backed own = backed
each_right budget (g ∷ gs) actors [] is backed own = backed
each_right budget (g ∷ gs) [] (o ∷ os) is backed own = absurd is
each_right budget (g ∷ gs) (a ∷ more) (o ∷ os) is backed own = (
  one_right budget g o is.0.0 is.0.2 backed.0 (subst (IsOwn budget (problem_of g)) is.0.1 (own 0 (omega arith))),
  each_right budget gs more os is.1 backed.1 (λ k l. own (suc k) (omega arith)),
)

pub outcomes_right : (budget n : ℕ) (goals : List Goal) (w : World) (os : List Outcome) → IsRight (problems_of goals) n budget w → length (problems_of goals) ≡ length goals → AreUncut w → AreOutcomesOf w.actors os → AreBacked goals os → AreRightOutcomes budget goals os
outcomes_right budget n goals w os right count uncut are backed =
    each_right budget goals w.actors os are backed
    (λ k l. right_own w budget (problem_at (problems_of goals) k) (actor_at w k).work (uncut k) (right.ends k (subst (λ m. k < m) (sym count) l)))
