use Rattle.std.proofs.Common.{◌≡◌, ◌-◌, ◌≤◌, ◌++◌, length, take}
use Rattle.std.specs.Prelude.{option_map}
use Rattle.bvd_top.proofs.telling.tell.Given as goal

abbrev pub invariant-pieces : goal.invariant-pieces
invariant-pieces g l = record {
  written : g.S.Sink.written l.out ≡ option_map (λ w. w ++ take l.at l.text) (g.S.Sink.written l.initial.out);
  most : l.at ≤ length l.text;
  faults : g.S.Sink.faults l.out ≡ g.S.Sink.faults l.initial.out;
}

abbrev pub decreases-pieces : goal.decreases-pieces
decreases-pieces g l = length l.text - l.at
