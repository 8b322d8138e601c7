-- The fault at the least place.
use Rattle.std.specs.Prelude.{Option, Some, None}
use Rattle.bv_typing.specs.declared.misfit.Misfit.{Misfit}
use Rattle.bv_typing.specs.Goals.{earlier}

-- the least of two, the first where they stand at one place
abbrev pub also : Option Misfit → Option Misfit → Option Misfit
also None g = g
also (Some f) g = Some (earlier f g)
