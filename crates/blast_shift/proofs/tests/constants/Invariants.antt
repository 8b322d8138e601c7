use Rattle.std.proofs.Common.{◌≡◌, length}
use Rattle.gate_shape.specs.Builds.{Meaning, AllKnown}
use Rattle.blast_shift.proofs.tests.constants.Given as goal

abbrev pub invariant-loop-j : goal.invariant-loop-j
invariant-loop-j l = record { known : (m : Meaning) → AllKnown m l.out.items; width : length l.out.items ≡ l.j }
