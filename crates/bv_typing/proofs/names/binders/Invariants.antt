use Rattle.std.proofs.Common.{◌≡◌, ◌++◌, drop, map}
use Rattle.bv_typing.specs.Variables.{binders_of, named}
use Rattle.bv_typing.proofs.names.binders.Given as goal

abbrev pub invariant-loop-binding : goal.invariant-loop-binding
invariant-loop-binding l = l.binders.items ++ binders_of (map (named l.file) (drop l.binding-index l.bindings)) ≡ binders_of (map (named l.file) l.bindings)
