use Rattle.std.proofs.Common.{◌≡◌}
use Rattle.table_speed.proofs.crew.workers.Given as goal

-- the seat stays one of the table
abbrev pub invariant-loop-from : goal.invariant-loop-from
invariant-loop-from l = l.seat.table ≡ l.table
