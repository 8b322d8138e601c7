use Rattle.gate_shape.specs.Builds.{edges}
use Rattle.bv_value.specs.Operations as is
use Rattle.blast_logic.specs.Words.{word}
use Rattle.blast_logic.proofs.Wiring.{wired_as, resized_left, written, at_least}
use Rattle.blast_shift.proofs.Standing.{stand_shifted_right_signed}
use Rattle.blast_shift.proofs.Values.{shifted_right_signed-value}
use Rattle.blast_shift.proofs.shifts.ashr_by.Goals as goal

pub returns-clause-built : goal.returns-clause-built
returns-clause-built g c = wired_as _ (resized_left _ c.args.x.now c.capped-places.result _) (stand_shifted_right_signed c.args.x.now c.requires.known c.args.n c.requires.positive c.capped-places.ensures c.index-x-x.is) c.resized.ensures

pub returns-clause-value : goal.returns-clause-value
returns-clause-value g c =
    let xs = edges (g.B.Builder.meaning c.args.b.now) c.args.x.now in
    written _ (λ bits. is.ashr_by (word bits xs) c.args.n) (returns-clause-built g c) (λ bits. shifted_right_signed-value bits c.args.n xs (at_least _ c.args.x.now c.requires.positive))
