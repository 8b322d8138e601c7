use Rattle.std.proofs.Common.{◌≡◌, ◌++◌, ◌-◌, ◌≤◌}
use Rattle.bv_typing.specs.Variables.{placed}
use Rattle.bv_typing.proofs.variables.place.Given as goal

abbrev pub invariant-loop-at : goal.invariant-loop-at
invariant-loop-at l = record {
  so_far : l.bindings.items ≡ l.initial.bindings.items ++ placed l.sort l.from (l.at - l.from);
  within : l.at - l.from ≤ l.to - l.from;
}
