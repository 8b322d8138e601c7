use Rattle.std.proofs.Common.{◌≡◌, take}
use Rattle.blast_arith.proofs.comparisons.with_sign_turned.Given as goal

abbrev pub invariant-loop-i : goal.invariant-loop-i
invariant-loop-i l = l.out.items ≡ take l.i l.x
