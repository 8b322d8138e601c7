use Rattle.gate_probe.specs.Moves.{moves_left}
use Rattle.gate_table.specs.Searches.{IsGoing}
use Rattle.gate_table.proofs.seats.GateTable.find.Given as goal

abbrev pub invariant-loop-next : goal.invariant-loop-next
invariant-loop-next l = IsGoing l.self.words l.left l.right l.level l.fn.seat l.seat l.prober l.next

abbrev pub decreases-loop-next : goal.decreases-loop-next
decreases-loop-next l = moves_left l.prober
