use Rattle.std.proofs.Common.{◌≡◌, ◌≤◌, length, drop, []}
use Rattle.bv_terms.specs.Widths.{told, found}
use Rattle.bv_terms.proofs.widths.find_widths.Given as goal

abbrev pub invariant-loop-i : goal.invariant-loop-i
invariant-loop-i l = record {
  within : l.i ≤ length l.pieces;
  told_behind : l.told ≡ told (drop l.i l.pieces) (drop l.i l.notes) [];
  found_behind : l.found ≡ found (drop l.i l.pieces) (drop l.i l.notes) [];
}

abbrev pub decreases-loop-i : goal.decreases-loop-i
decreases-loop-i l = l.i
