use Rattle.gate_shape.specs.Builds.{edges}
use Rattle.bv_value.specs.Operations as is
use Rattle.blast_logic.specs.Words.{word}
use Rattle.blast_logic.proofs.Wiring.{wired, written}
use Rattle.blast_shift.proofs.Standing.{stand_with_width}
use Rattle.blast_shift.proofs.Values.{with_width-value}
use Rattle.blast_shift.proofs.parts.set_width.Goals as goal

pub returns-clause-built : goal.returns-clause-built
returns-clause-built g c = wired _ (stand_with_width c.args.x.now c.requires c.args.width c.new.ensures) c.resized.ensures

pub returns-clause-value : goal.returns-clause-value
returns-clause-value g c =
    let xs = edges (g.B.Builder.meaning c.args.b.now) c.args.x.now in
    written _ (λ bits. is.set_width (word bits xs) c.args.width) (returns-clause-built g c) (λ bits. with_width-value bits c.args.width xs)
