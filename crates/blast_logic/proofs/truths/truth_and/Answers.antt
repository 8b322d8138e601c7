use Rattle.std.proofs.Common.{◌&&◌}
use Rattle.gate_shape.specs.Edge.{value}
use Rattle.gate_shape.specs.Builds.{edge}
use Rattle.gate_shape.proofs.Values.{both-value}
use Rattle.blast_logic.proofs.Meanings.{meant}
use Rattle.blast_logic.proofs.truths.truth_and.Goals as goal

pub returns-clause-value : goal.returns-clause-value
returns-clause-value g c =
    let m = g.B.Builder.meaning c.args.b.now in
    meant (λ bits. value bits (edge m c.args.x) && value bits (edge m c.args.y)) c.and.ensures.built (λ bits. both-value bits (edge m c.args.x) (edge m c.args.y))
