use Rattle.std.proofs.Common.{◌≡◌, ◌≤◌, ◌-◌, length, map, drop}
use Rattle.bv_terminals.specs.Spellings.{look_up}
use Rattle.bv_terminals.proofs.spellings.look_up.Given as goal

abbrev pub invariant-loop-at : goal.invariant-loop-at
invariant-loop-at l = record {
  within : l.at ≤ length l.table;
  rest : look_up (map (λ e. (e.0.now, e.1)) l.table) l.text ≡ look_up (map (λ e. (e.0.now, e.1)) (drop l.at l.table)) l.text;
}

abbrev pub decreases-loop-at : goal.decreases-loop-at
decreases-loop-at l = length l.table - l.at
