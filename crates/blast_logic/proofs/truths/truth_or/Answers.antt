use Rattle.std.proofs.Common.{◌||◌}
use Rattle.gate_shape.specs.Edge.{value}
use Rattle.gate_shape.specs.Builds.{edge}
use Rattle.gate_shape.proofs.Values.{either-value}
use Rattle.blast_logic.proofs.Meanings.{meant}
use Rattle.blast_logic.proofs.truths.truth_or.Goals as goal

pub returns-clause-value : goal.returns-clause-value
returns-clause-value g c =
    let m = g.B.Builder.meaning c.args.b.now in
    meant (λ bits. value bits (edge m c.args.x) || value bits (edge m c.args.y)) c.or2.ensures (λ bits. either-value bits (edge m c.args.x) (edge m c.args.y))
