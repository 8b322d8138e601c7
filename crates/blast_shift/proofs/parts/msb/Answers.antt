use Rattle.gate_shape.specs.Builds.{edges}
use Rattle.std.proofs.Common.{◌-◌, length}
use Rattle.gate_shape.proofs.Building.{builds_plain}
use Rattle.bv_value.specs.Operations as is
use Rattle.blast_logic.proofs.Meanings.{meant}
use Rattle.blast_logic.specs.Words.{word}
use Rattle.blast_shift.proofs.Standing.{stands_top}
use Rattle.blast_shift.proofs.Values.{bit-value}
use Rattle.blast_shift.proofs.parts.msb.Goals as goal

pub returns-clause-built : goal.returns-clause-built
returns-clause-built g c = builds_plain (stands_top c.args.x.now c.requires.known c.requires.positive c.index-x-x.is)

pub returns-clause-value : goal.returns-clause-value
returns-clause-value g c =
    let xs = edges (g.B.Builder.meaning c.args.b.now) c.args.x.now in
    meant (λ bits. is.msb (word bits xs)) (returns-clause-built g c) (λ bits. bit-value bits (length xs - 1) xs)
