-- Which goals of a world in code are left, and that an event of one of them was drawn.
use Rattle.std.specs.Prelude.{◌≡◌, ℕ, List}
use Rattle.gate_world.specs.World.{Event, World, happens}
use Rattle.gate_world.specs.Drawn.{unended, picked, IsEventFor}
use Rattle.gate_world.specs.Shown.{Shows}
use Rattle.gate_world.specs.declared.world.World.{World as CodeWorld}

-- these are the goals that haven't ended, in rising order
abbrev pub AreLeft : CodeWorld → List ℕ → Type 0
AreLeft c left = (w : World) → Shows c w → left ≡ unended w

-- a word of the generator draws an event
abbrev pub Draws : ℕ → CodeWorld → CodeWorld → Type 0
Draws word old new = (w : World) → Shows old w → (e : Event) × IsEventFor w (picked word w) e × Shows new (happens w e)
