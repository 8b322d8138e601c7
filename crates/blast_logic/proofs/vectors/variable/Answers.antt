use Rattle.std.proofs.Common.{map}
use Rattle.std.specs.List.{range_with_len}
use Rattle.bv_value.specs.Bits.{number_of}
use Rattle.blast_logic.proofs.Wiring.{wired, written}
use Rattle.blast_logic.proofs.Vectoring.{stand_inputs, inputs-word}
use Rattle.blast_logic.proofs.vectors.variable.Goals as goal

pub returns-clause-built : goal.returns-clause-built
returns-clause-built g c = wired _ (stand_inputs _ c.args.k c.args.width c.requires.variable c.requires.at_most_128) c.input_literals.ensures

pub returns-clause-value : goal.returns-clause-value
returns-clause-value g c = written _ (λ bits. record { width = c.args.width; number = number_of (map (bits c.args.k) (range_with_len 0 c.args.width)) }) (returns-clause-built g c) (λ bits. inputs-word bits c.args.k c.args.width)
