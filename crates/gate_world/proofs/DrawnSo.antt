-- A schedule, event by event: what holds of its world, its generator and its list of unended goals, until none is left.
use Rattle.std.proofs.Common.{◌≡◌, ◌≢◌, ℕ, ◌<◌, ◌≤◌, List, [], ◌∷◌, ◌++◌, length, All, refl, sym, ap, ◌∙◌, subst, arith, append_assoc, append-nil}
use Rattle.std.proofs.lemmas.List.{length-map}
use Rattle.rand_pcg.specs.Lcg.{Lcg}
use Rattle.rand_pcg.specs.Pcg.{pcg32}
use Rattle.bv_expr.specs.declared.goal.Goal.{Goal}
use Rattle.goal_reply.specs.declared.counts.GateCounts.{GateCounts}
use Rattle.goal_reply.specs.declared.reply.Outcome.{Outcome}
use Rattle.gate_world.specs.World.{Event, World, happens, run, begun}
use Rattle.gate_world.specs.Right.{AreScripted}
use Rattle.gate_world.specs.Counted.{gates_in_cones, distinct_gates}
use Rattle.gate_world.specs.Coding.{problem_of}
use Rattle.gate_world.specs.Drawn.{generator, unended, AreDrawn}
use Rattle.gate_world.specs.Shown.{problems_of, goals_of, Shows, IsSameWorld, phase_of}
use Rattle.gate_world.specs.Left.{AreLeft, Draws}
use Rattle.gate_world.specs.Scheduled.{AreOutcomesOf, AreBacked, AreRightOutcomes, IsScheduled}
use Rattle.gate_world.specs.declared.event.Phase.TheVariants as phase
use Rattle.gate_world.specs.declared.world.World.{World as CodeWorld}
use Rattle.gate_world.proofs.Running.{IsGood, run_good, begun_good, stays_right}
use Rattle.gate_world.proofs.Unended.{all_ended}
use Rattle.gate_world.proofs.Weighed.{world_left, shown_scripted}
use Rattle.gate_world.proofs.Draws.{draw_lowers}
use Rattle.gate_world.proofs.Uncut.{drawn_uncut, begun_uncut, outcomes_right}

-- These events were drawn so far, and led to what the value shows.
pub record IsDrawnSo (goals : List Goal) (seed n budget : ℕ) (c : CodeWorld) (g : Lcg) (left : List ℕ) : Type 0 where
  pub events : List Event
  pub drawn : (more : List Event) → AreDrawn g (run events (begun (problems_of goals) n budget)) more → AreDrawn (generator seed) (begun (problems_of goals) n budget) (events ++ more)
  pub shown : Shows c (run events (begun (problems_of goals) n budget))
  pub goals_are : goals_of c ≡ goals
  pub left_are : AreLeft c left

pub drawn_first : (goals : List Goal) (seed n budget : ℕ) (c : CodeWorld) (left : List ℕ) → goals_of c ≡ goals → Shows c (begun (problems_of goals) n budget) → AreLeft c left → IsDrawnSo goals seed n budget c (generator seed) left
drawn_first goals seed n budget c left same shown are = record { events = []; drawn = λ more d. d; shown = shown; goals_are = same; left_are = are }

run_last : (es : List Event) (e : Event) (w : World) → run (es ++ (e ∷ [])) w ≡ happens (run es w) e
run_last [] e w = refl
run_last (x ∷ es) e w = run_last es e (happens w x)

some_left : (xs ys : List ℕ) → xs ≡ ys → 1 ≤ length xs → ys ≢ []
some_left xs ys is some none = omega (arith, ap (length {A = ℕ}) (is ∙ none))

module _ (goals : List Goal) (seed n budget : ℕ) where
  abbrev first : World
  first = begun (problems_of goals) n budget

  pub drawn_next : (old new : CodeWorld) (g : Lcg) (left now : List ℕ) → IsDrawnSo goals seed n budget old g left → 1 ≤ length left → Draws (pcg32 g).0 old new → IsSameWorld old new → AreLeft new now → IsDrawnSo goals seed n budget new (pcg32 g).1 now
  drawn_next old new g left now h some draws same are =
      let w : World = run h.events first in
      let d = draws w h.shown in
      let e : Event = d.0 in
      let last : run (h.events ++ (e ∷ [])) first ≡ happens w e = run_last h.events e first in
      record {
        events = h.events ++ (e ∷ []);
        drawn = λ more rest.
            subst (AreDrawn (generator seed) first) (sym (append_assoc h.events (e ∷ []) more))
            (h.drawn (e ∷ more) (some_left left (unended w) (h.left_are w h.shown) some, d.1, subst (λ (v : World). AreDrawn (pcg32 g).1 v more) last rest));
        shown = subst (Shows new) (sym last) d.2;
        goals_are = same.goals ∙ h.goals_are;
        left_are = are;
      }

  so_scripted : (c : CodeWorld) (g : Lcg) (left : List ℕ) → IsDrawnSo goals seed n budget c g left → AreScripted (problems_of goals)
  so_scripted c g left h = subst (λ (gs : List Goal). AreScripted (problems_of gs)) h.goals_are (shown_scripted c (run h.events first) h.shown)

  pub drawn_falls : (old new : CodeWorld) (g : Lcg) (left : List ℕ) → 1 ≤ n → n ≤ 4000000 → IsDrawnSo goals seed n budget old g left → 1 ≤ length left → Draws (pcg32 g).0 old new → world_left new < world_left old
  drawn_falls old new g left some few h more draws =
      let good : IsGood (run h.events first) = run_good first h.events (begun_good (problems_of goals) n budget some few (so_scripted old g left h)) in
      draw_lowers (pcg32 g).0 old new left (run h.events first) h.shown good h.left_are more draws

  -- none is left
  pub drawn_ended : (c : CodeWorld) (g : Lcg) (left : List ℕ) → IsDrawnSo goals seed n budget c g left → left ≡ [] → (w : World) → Shows c w → All (λ a. phase_of a.work ≡ phase.Ended) w.actors
  drawn_ended c g left h none w shown = all_ended 0 w.actors (sym (h.left_are w shown) ∙ none)

  all_drawn : (c : CodeWorld) (g : Lcg) (left : List ℕ) (h : IsDrawnSo goals seed n budget c g left) → left ≡ [] → AreDrawn (generator seed) first h.events
  all_drawn c g left h none = subst (AreDrawn (generator seed) first) (append-nil h.events) (h.drawn [] (sym (h.left_are (run h.events first) h.shown) ∙ none))

  pub drawn_whole : (c : CodeWorld) (g : Lcg) (left : List ℕ) (os : List Outcome) (counts : GateCounts) → IsDrawnSo goals seed n budget c g left → left ≡ []
      → ((w : World) → Shows c w → (counts.in_cones ≡ gates_in_cones w.actors) × (counts.distinct ≡ distinct_gates w.actors)) → ((w : World) → Shows c w → AreOutcomesOf w.actors os) → IsScheduled goals seed n budget os counts
  drawn_whole c g left os counts h none gates are =
      let w : World = run h.events first in
      record {
        events = h.events;
        drawn = all_drawn c g left h none;
        outcomes_are = are w h.shown;
        in_cones = (gates w h.shown).0;
        distinct = (gates w h.shown).1;
      }

  pub drawn_right : (c : CodeWorld) (g : Lcg) (left : List ℕ) (os : List Outcome) → 1 ≤ n → n ≤ 4000000 → IsDrawnSo goals seed n budget c g left → left ≡ []
      → ((w : World) → Shows c w → AreOutcomesOf w.actors os) → AreBacked (goals_of c) os → AreRightOutcomes budget goals os
  drawn_right c g left os some few h none are backed =
      let w : World = run h.events first in
      outcomes_right budget n goals w os
      (stays_right (problems_of goals) n budget h.events some few (so_scripted c g left h))
      (length-map goals problem_of)
      (drawn_uncut (generator seed) first h.events (all_drawn c g left h none) (begun_uncut (problems_of goals) n budget))
      (are w h.shown)
      (subst (λ (gs : List Goal). AreBacked gs os) h.goals_are backed)
