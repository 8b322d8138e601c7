use Rattle.std.proofs.Common.{◌≡◌, take, drop, map, []}
use Rattle.bv_typing.specs.Variables.{named}
use Rattle.bv_typing.specs.Earliest.{also}
use Rattle.bv_typing.specs.Goals.{bound_misfits, least}
use Rattle.bv_typing.proofs.variables.binding_misfit.Given as goal

abbrev pub invariant-loop-number : goal.invariant-loop-number
invariant-loop-number l = also l.found (least (bound_misfits (map (named l.file) (take l.number l.bindings)) (map (named l.file) (drop l.number l.bindings)))) ≡ least (bound_misfits [] (map (named l.file) l.bindings))
