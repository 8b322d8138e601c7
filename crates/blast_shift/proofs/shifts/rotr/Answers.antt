use Rattle.std.proofs.Common.{refl}
use Rattle.gate_shape.specs.Builds.{edges}
use Rattle.bv_value.specs.Operations as is
use Rattle.blast_logic.specs.Words.{word}
use Rattle.blast_logic.proofs.Wiring.{wired_as, joined_left, written, at_least}
use Rattle.blast_shift.proofs.Standing.{stand_rotated_right}
use Rattle.blast_shift.proofs.Values.{rotated_right-value}
use Rattle.blast_shift.proofs.shifts.rotr.Goals as goal

pub returns-clause-built : goal.returns-clause-built
returns-clause-built g c = wired_as _ (joined_left c.args.x.now _ _) (stand_rotated_right c.args.x.now c.requires.known c.args.n c.requires.positive refl) c.joined.ensures

pub returns-clause-value : goal.returns-clause-value
returns-clause-value g c =
    let xs = edges (g.B.Builder.meaning c.args.b.now) c.args.x.now in
    written _ (λ bits. is.rotr (word bits xs) c.args.n) (returns-clause-built g c) (λ bits. rotated_right-value bits c.args.n xs (at_least _ c.args.x.now c.requires.positive))
