-- What becomes of goals whose events a generator draws.
use Rattle.std.specs.Prelude.{◌≡◌, ℕ, List, [], ◌∷◌}
use Rattle.bv_expr.specs.declared.goal.Goal.{Goal}
use Rattle.goal_reply.specs.declared.counts.GateCounts.{GateCounts}
use Rattle.goal_reply.specs.declared.reply.Outcome.{Outcome}
use Rattle.goal_reply.specs.declared.reply.Outcome.TheVariants as outcome
use Rattle.goal_alone.specs.Alone.{alone}
use Rattle.goal_alone.specs.Told.{IsAnswer}
use Rattle.gate_world.specs.Work.{End, Ended}
use Rattle.gate_world.specs.World.{Event, Actor, begun, run}
use Rattle.gate_world.specs.Counted.{gates_in_cones, distinct_gates}
use Rattle.gate_world.specs.Drawn.{generator, AreDrawn}
use Rattle.gate_world.specs.Solving.{IsOutcomeOf, IsOutcomeBacked, IsBacked}
use Rattle.gate_world.specs.Shown.{problems_of}

-- the goals have ended so
abbrev pub AreOutcomesOf : List Actor → List Outcome → Type 0
AreOutcomesOf [] [] = Unit {0}
AreOutcomesOf [] (o ∷ os) = ⊥
AreOutcomesOf (a ∷ more) [] = ⊥
AreOutcomesOf (a ∷ more) (o ∷ os) = ((end : End) × (a.work ≡ Ended end) × IsOutcomeOf o end) × AreOutcomesOf more os

-- what is known of each outcome, by its goal
abbrev pub AreBacked : List Goal → List Outcome → Type 0
AreBacked [] [] = Unit {0}
AreBacked [] (o ∷ os) = ⊥
AreBacked (g ∷ gs) [] = ⊥
AreBacked (g ∷ gs) (o ∷ os) = IsOutcomeBacked g o × AreBacked gs os

-- The events of the goals over n empty words are drawn by the generator of a seed until all goals have ended; these are
-- their outcomes, and these gates are in the cones of those that were searched to an end.
pub record IsScheduled (goals : List Goal) (seed n budget : ℕ) (outcomes : List Outcome) (counts : GateCounts) : Type 0 where
  pub events : List Event
  pub drawn : AreDrawn (generator seed) (begun (problems_of goals) n budget) events
  pub outcomes_are : AreOutcomesOf (run events (begun (problems_of goals) n budget)).actors outcomes
  pub in_cones : counts.in_cones ≡ gates_in_cones (run events (begun (problems_of goals) n budget)).actors
  pub distinct : counts.distinct ≡ distinct_gates (run events (begun (problems_of goals) n budget)).actors

-- The goal has the reply that it has alone, or ran out of memory, or found no room. It isn't cancelled.
abbrev pub IsRightOutcome : ℕ → Goal → Outcome → Type 0
IsRightOutcome budget g (outcome.Replied r) = IsAnswer r (alone g.binders g.hyps g.concl budget) × IsBacked g r
IsRightOutcome budget g outcome.Full = Unit {0}
IsRightOutcome budget g (outcome.Cancelled by) = ⊥

abbrev pub AreRightOutcomes : ℕ → List Goal → List Outcome → Type 0
AreRightOutcomes budget [] [] = Unit {0}
AreRightOutcomes budget [] (o ∷ os) = ⊥
AreRightOutcomes budget (g ∷ gs) [] = ⊥
AreRightOutcomes budget (g ∷ gs) (o ∷ os) = IsRightOutcome budget g o × AreRightOutcomes budget gs os
