use Rattle.std.proofs.Common.{ap, length, arith}
use Rattle.std.proofs.lemmas.List.{length-append}
use Rattle.gate_shape.proofs.Building.{stand_none, stand_push, stand_self}
use Rattle.blast_logic.proofs.Meanings.{stands_constant}
use Rattle.blast_shift.proofs.tests.constants.Goals as goal

pub loop-j-init : goal.loop-j-init
loop-j-init c = record { known = λ m. (stand_none {m = m} c.new-out.ensures.items).known; width = ap length c.new-out.ensures.items }

pub loop-j-preserved : goal.loop-j-preserved
loop-j-preserved c = record {
  known = λ m. (stand_push c.in_ok-append.ensures (stand_self (c.loop-j.invariant.known m)) (stands_constant _ c.new-bit.ensures)).known;
  width = rw c.in_ok-append.ensures (simp length-append (omega arith));
}
