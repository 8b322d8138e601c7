-- A world of two goals, as the tests have it.
use Rattle.std.proofs.Common.{◌≡◌, zero, suc, List, [], ◌∷◌, length, slice_index_or, arith, ◌∙◌, All}
use Rattle.gate_world.specs.World.{Actor, World, nobody, actor_at}
use Rattle.gate_world.specs.Shown.{Shows, goals_of, phase_of}
use Rattle.gate_world.specs.declared.event.Phase.TheVariants as phase
use Rattle.gate_world.specs.declared.world.World.{World as CodeWorld}
use Rattle.gate_world.proofs.Weighed.{shown_count}

abbrev IsOver : Actor → Type 0
IsOver a = phase_of a.work ≡ phase.Ended

two_over : (xs : List Actor) → length xs ≡ 2 → IsOver (slice_index_or xs 0 nobody) → IsOver (slice_index_or xs 1 nobody) → All IsOver xs
two_over [] n p q k d l = absurd (omega arith)
two_over (a ∷ []) n p q k d l = absurd (omega arith)
two_over (a ∷ b ∷ []) n p q zero d l = p
two_over (a ∷ b ∷ []) n p q (suc zero) d l = q
two_over (a ∷ b ∷ []) n p q (suc (suc k)) d l = absurd (omega arith)
two_over (a ∷ b ∷ x ∷ more) n p q k d l = absurd (omega arith)

-- both goals of the world have ended
pub both_over : (c : CodeWorld) → length (goals_of c) ≡ 2 → ((w : World) → Shows c w → IsOver (actor_at w 0)) → ((w : World) → Shows c w → IsOver (actor_at w 1))
    → (w : World) → Shows c w → All (λ (a : Actor). phase_of a.work ≡ phase.Ended) w.actors
both_over c n p q w h = two_over w.actors (shown_count c w h ∙ n) (p w h) (q w h)
