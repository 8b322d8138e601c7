use Rattle.gate_shape.specs.Builds.{edges}
use Rattle.bv_value.specs.Operations as is
use Rattle.blast_logic.specs.Words.{word}
use Rattle.blast_logic.proofs.Wiring.{wired, written, at_least}
use Rattle.blast_shift.proofs.Standing.{stand_sign_extended}
use Rattle.blast_shift.proofs.Values.{sign_extended-value}
use Rattle.blast_shift.proofs.parts.sign_extend.Goals as goal

pub returns-clause-built : goal.returns-clause-built
returns-clause-built g c = wired _ (stand_sign_extended c.args.x.now c.requires.known c.args.width c.requires.positive c.index-x-x.is) c.resized.ensures

pub returns-clause-value : goal.returns-clause-value
returns-clause-value g c =
    let xs = edges (g.B.Builder.meaning c.args.b.now) c.args.x.now in
    written _ (λ bits. is.sign_extend (word bits xs) c.args.width) (returns-clause-built g c) (λ bits. sign_extended-value bits c.args.width xs (at_least _ c.args.x.now c.requires.positive))
