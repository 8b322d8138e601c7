use Rattle.std.proofs.Common.{◌≡◌, map}
use Rattle.std.specs.List.{range_with_len}
use Rattle.blast_logic.proofs.Vectoring.{input_literal}
use Rattle.blast_logic.proofs.vectors.input_literals.Given as goal

abbrev pub invariant-loop-j : goal.invariant-loop-j
invariant-loop-j l = l.out.items ≡ map (input_literal l.k) (range_with_len 0 l.j)
