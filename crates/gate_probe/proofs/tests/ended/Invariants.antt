use Rattle.std.proofs.Common.{◌≡◌}
use Rattle.gate_probe.proofs.tests.ended.Given as goal

-- the next move is the prober's last one
abbrev pub invariant-loop-moves : goal.invariant-loop-moves
invariant-loop-moves l = l.prober.last ≡ l.next
