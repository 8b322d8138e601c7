use Rattle.std.proofs.Common.{◌≡◌, drop, map}
use Rattle.std.specs.Prelude.{bytes_eq}
use Rattle.std.specs.List.{list_any}
use Rattle.bv_typing.specs.Variables.{named}
use Rattle.bv_typing.proofs.variables.is_bound.Given as goal

abbrev pub invariant-loop-binding : goal.invariant-loop-binding
invariant-loop-binding l = list_any (λ b. bytes_eq b.name l.name) (map (named l.file) (drop l.binding-index l.bindings)) ≡ list_any (λ b. bytes_eq b.name l.name) (map (named l.file) l.bindings)
