use Rattle.std.proofs.Common.{◌≡◌, ◌≤◌, ◌-◌, length, map, drop}
use Rattle.bv_typing.specs.Methods.{listed}
use Rattle.bv_typing.proofs.methods.look_up.Given as goal

abbrev pub invariant-loop-at : goal.invariant-loop-at
invariant-loop-at l = record {
  within : l.at ≤ length l.table;
  rest : listed l.name (map (λ m. (m.0.now, m.1)) l.table) ≡ listed l.name (map (λ m. (m.0.now, m.1)) (drop l.at l.table));
}

abbrev pub decreases-loop-at : goal.decreases-loop-at
decreases-loop-at l = length l.table - l.at
