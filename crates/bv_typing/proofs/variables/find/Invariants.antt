use Rattle.std.proofs.Common.{◌≡◌, drop, map}
use Rattle.bv_typing.specs.Variables.{bound_from, named}
use Rattle.bv_typing.proofs.variables.find.Given as goal

abbrev pub invariant-loop-number : goal.invariant-loop-number
invariant-loop-number l = bound_from l.number l.name (map (named l.file) (drop l.number l.bindings)) ≡ bound_from 0 l.name (map (named l.file) l.bindings)
