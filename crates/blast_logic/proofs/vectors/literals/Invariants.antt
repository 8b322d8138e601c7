use Rattle.std.proofs.Common.{◌≡◌, ◌-◌, ◌++◌, map}
use Rattle.bv_value.specs.Bits.{bits_of}
use Rattle.blast_logic.proofs.Vectoring.{bit_literal}
use Rattle.blast_logic.proofs.vectors.literals.Given as goal

-- the bits so far, and then those of what is left
abbrev pub invariant-loop-j : goal.invariant-loop-j
invariant-loop-j l = l.out.items ++ map bit_literal (bits_of (l.width - l.j) l.rest) ≡ map bit_literal (bits_of l.width l.number)
