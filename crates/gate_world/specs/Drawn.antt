-- Events that a generator draws: each goes to one of the goals that haven't ended.
use Rattle.std.specs.Prelude.{◌≡◌, ◌≢◌, ◌⊎◌, ℕ, ◌+◌, ◌%◌, Bool, true, false, List, [], ◌∷◌, length, slice_index_or, if◌then◌else◌}
use Rattle.rand_pcg.specs.Lcg.{Lcg, started, increment_of}
use Rattle.rand_pcg.specs.Pcg.{multiplier_64, pcg32}
use Rattle.gate_world.specs.Work.{Work, Loading, Probing, Walking, Searching, Ended}
use Rattle.gate_world.specs.World.{Event, Step, Turn, Memory, Actor, World, actor_at, happens}
use Rattle.gate_world.specs.Bound.{takes_turns}

-- the generator of a seed, on its first stream
abbrev pub generator : ℕ → Lcg
generator seed = started 64 multiplier_64 seed (increment_of 64 1)

abbrev pub has_ended : Work → Bool
has_ended (Loading e es g gs) = false
has_ended (Probing g gs p) = false
has_ended (Walking e es) = false
has_ended (Searching m) = false
has_ended (Ended end) = true

-- the goals that haven't ended, from the goal g on, in rising order
abbrev pub unended_from : ℕ → List Actor → List ℕ
unended_from g [] = []
unended_from g (a ∷ more) = if has_ended a.work then unended_from (g + 1) more else g ∷ unended_from (g + 1) more

abbrev pub unended : World → List ℕ
unended w = unended_from 0 w.actors

-- a machine step where the goal searches, else a load or claim
abbrev pub event_for : World → ℕ → Event
event_for w g = if takes_turns (actor_at w g).work then Turn g else Step g

-- the goal that a word of the generator picks
abbrev pub picked : ℕ → World → ℕ
picked word w = slice_index_or (unended w) (word % length (unended w)) 0

-- the event goes to this goal, or the goal ran out of memory in it
abbrev pub IsEventFor : World → ℕ → Event → Type 0
IsEventFor w g e = (e ≡ event_for w g) ⊎ (e ≡ Memory g)

-- The events are drawn from here on: as long as goals are unended, each word of the generator picks the one that gets the
-- next event.
abbrev pub AreDrawn : Lcg → World → List Event → Type 0
AreDrawn g w [] = unended w ≡ []
AreDrawn g w (e ∷ es) = (unended w ≢ []) × IsEventFor w (picked (pcg32 g).0 w) e × AreDrawn (pcg32 g).1 (happens w e) es
