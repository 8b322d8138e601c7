use Rattle.std.proofs.Common.{◌≡◌}
use Rattle.gate_shape.specs.Builds.{Known, Keeps}
use Rattle.gate_table.specs.Seats.{known_by}
use Rattle.gate_table.proofs.tests.chain.Given as goal

-- the last literal is known, and so is all that was known at first
abbrev pub invariant-loop : goal.invariant-loop
invariant-loop l = record {
  table : l.seat.table ≡ l.table;
  keeps : Keeps (known_by l.fn.seat) (known_by l.seat);
  known : Known (known_by l.seat) l.last;
}
