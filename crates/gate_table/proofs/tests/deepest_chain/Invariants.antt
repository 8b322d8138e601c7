use Rattle.std.proofs.Common.{◌≡◌}
use Rattle.gate_shape.specs.Builds.{Known}
use Rattle.gate_table.specs.Seats.{known_by}
use Rattle.gate_table.proofs.tests.deepest_chain.Given as goal

-- the last literal is known
abbrev pub invariant-loop-level : goal.invariant-loop-level
invariant-loop-level g l = record {
  table : l.seat.table ≡ l.table-inside.table.shared.table_id;
  known : Known (known_by l.seat) l.last;
}
