-- Goals of a world that have ended, and what is told of them.
use Rattle.std.proofs.Common.{◌≡◌, ℕ, zero, suc, Bool, true, false, List, [], ◌∷◌, ◌++◌, length, map, refl, sym, ap, ◌∙◌, subst, if◌then◌else◌}
use Rattle.std.proofs.Math.Seq.{map-set_same}
use Rattle.gate_shape.specs.Edge.{Edge, Gate}
use Rattle.gate_probe.specs.Moves.{Probe}
use Rattle.gate_probe.specs.Words.{word_at}
use Rattle.gate_probe.specs.declared.prober.Move.{Move}
use Rattle.gate_probe.specs.declared.prober.Move.TheVariants.{Load, Claim, Found, Full}
use Rattle.goal_reply.specs.declared.reply.Reply.{Reply}
use Rattle.goal_reply.specs.declared.reply.Reply.TheVariants as reply
use Rattle.goal_reply.specs.declared.reply.Outcome.{Outcome}
use Rattle.goal_reply.specs.declared.reply.Outcome.TheVariants as outcome
use Rattle.goal_alone.specs.Alone.{Answer}
use Rattle.gate_world.specs.Work.{Problem, Work, End, Loading, Probing, Walking, Searching, Ended, Replied, OutOfMemory, NoRoom, CancelledBy, cone_of, cut_off, is_false}
use Rattle.gate_world.specs.World.{Actor, World, Event, Step, Turn, Cancel, Memory, nobody, actor_at, with_work, claims, probes, moved, put, put_work, happens, run, begun_at, begun}
use Rattle.gate_world.specs.Counted.{is_searched as answer_searched, end_searched, work_searched}
use Rattle.gate_world.specs.Solving.{IsReplyOf, IsOutcomeOf}
use Rattle.bvd_report.specs.Report.{Told}
use Rattle.bvd_report.specs.Shown.{reply_shown, outcome_shown}
use Rattle.bvd_top.specs.Scheduled.{answer_told, end_told, is_searched}

-- ---- each goal keeps its problem

abbrev problem_in : Actor → Problem
problem_in a = a.problem

claims_keep : (words : List ℕ) (a : Actor) (g : Gate) (gs : List Gate) (q : Probe) (s wanted found : ℕ) → (claims words a g gs q s wanted found).actor.problem ≡ a.problem
claims_keep words a g gs q s wanted zero = refl
claims_keep words a g gs q s wanted (suc n) = refl

probes_keep : (words : List ℕ) (a : Actor) (g : Gate) (gs : List Gate) (q : Probe) (move : Move) → (probes words a g gs q move).actor.problem ≡ a.problem
probes_keep words a g gs q (Load s) = refl
probes_keep words a g gs q (Claim s wanted) = claims_keep words a g gs q s wanted (word_at words s)
probes_keep words a g gs q (Found node) = refl
probes_keep words a g gs q Full = refl

moves_keep : (words : List ℕ) (a : Actor) (work : Work) → (moved words a work).actor.problem ≡ a.problem
moves_keep words a (Loading e es g gs) = refl
moves_keep words a (Probing g gs q) = probes_keep words a g gs q q.last
moves_keep words a (Walking e es) = refl
moves_keep words a (Searching m) = refl
moves_keep words a (Ended end) = refl

put_keeps : (w : World) (g : ℕ) (words : List ℕ) (a : Actor) → a.problem ≡ (actor_at w g).problem → map problem_in (put w g words a).actors ≡ map problem_in w.actors
put_keeps w g words a same = map-set_same problem_in w.actors g a nobody same

cancel_keeps : (w : World) (g cause : ℕ) (b : Bool) → map problem_in (if b then put_work w g (cut_off (CancelledBy cause) (actor_at w g).work) else w).actors ≡ map problem_in w.actors
cancel_keeps w g cause true = put_keeps w g w.words (with_work (actor_at w g) (cut_off (CancelledBy cause) (actor_at w g).work)) refl
cancel_keeps w g cause false = refl

event_keeps : (w : World) (e : Event) → map problem_in (happens w e).actors ≡ map problem_in w.actors
event_keeps w (Step g) =
    put_keeps w g (moved w.words (actor_at w g) (actor_at w g).work).words (moved w.words (actor_at w g) (actor_at w g).work).actor (moves_keep w.words (actor_at w g) (actor_at w g).work)
event_keeps w (Turn g) = map-set_same problem_in w.actors g _ nobody refl
event_keeps w (Cancel g cause) = cancel_keeps w g cause (is_false (actor_at w cause).work)
event_keeps w (Memory g) = put_keeps w g w.words (with_work (actor_at w g) (cut_off OutOfMemory (actor_at w g).work)) refl

run_keeps : (events : List Event) (w : World) → map problem_in (run events w).actors ≡ map problem_in w.actors
run_keeps [] w = refl
run_keeps (e ∷ es) w = run_keeps es (happens w e) ∙ event_keeps w e

begun_with : (n : ℕ) (problems : List Problem) → map problem_in (map (begun_at n) problems) ≡ problems
begun_with n [] = refl
begun_with n (p ∷ ps) = ap (λ l. p ∷ l) (begun_with n ps)

-- the goals have the problems that they began with
pub problems_kept : (events : List Event) (problems : List Problem) (n budget : ℕ) → map (λ a. a.problem) (run events (begun problems n budget)).actors ≡ problems
problems_kept events problems n budget = run_keeps events (begun problems n budget) ∙ begun_with n problems

-- ---- what is told of an end

reply_told : (r : Reply) (a : Answer) → IsReplyOf r a → reply_shown r ≡ answer_told a
reply_told (reply.Proved text) a is = sym (ap answer_told is)
reply_told (reply.False values) a is = sym (ap answer_told is)
reply_told (reply.Budget spent) a is = sym (ap answer_told is)
reply_told reply.Deep a is = sym (ap answer_told is)
reply_told reply.Large a is = sym (ap answer_told is)
reply_told reply.Memory a is = absurd is

-- the outcome is told as the end that it is
pub outcome_told : (o : Outcome) (end : End) → IsOutcomeOf o end → outcome_shown o ≡ end_told end
outcome_told (outcome.Replied r) (Replied a) is = reply_told r a is
outcome_told (outcome.Replied r) OutOfMemory is = ap reply_shown is
outcome_told (outcome.Replied r) NoRoom is = absurd is
outcome_told (outcome.Replied r) (CancelledBy c) is = absurd is
outcome_told outcome.Full (Replied a) is = absurd is
outcome_told outcome.Full OutOfMemory is = absurd is
outcome_told outcome.Full NoRoom is = refl
outcome_told outcome.Full (CancelledBy c) is = absurd is
outcome_told (outcome.Cancelled by) (Replied a) is = absurd is
outcome_told (outcome.Cancelled by) OutOfMemory is = absurd is
outcome_told (outcome.Cancelled by) NoRoom is = absurd is
outcome_told (outcome.Cancelled by) (CancelledBy c) is = ap Told.Cancelled is

answer_counts : (a : Answer) → answer_searched a ≡ is_searched (answer_told a)
answer_counts (Answer.Proved text) = refl
answer_counts (Answer.False values) = refl
answer_counts (Answer.Budget spent) = refl
answer_counts Answer.Deep = refl
answer_counts Answer.Large = refl

end_counts : (end : End) → end_searched end ≡ is_searched (end_told end)
end_counts (Replied a) = answer_counts a
end_counts OutOfMemory = refl
end_counts NoRoom = refl
end_counts (CancelledBy c) = refl

-- the goals that were searched to an end are told so
pub outcome_counts : (o : Outcome) (work : Work) (end : End) → work ≡ Ended end → IsOutcomeOf o end → work_searched work ≡ is_searched (outcome_shown o)
outcome_counts o work end ended is = ap work_searched ended ∙ (end_counts end ∙ sym (ap is_searched (outcome_told o end is)))
