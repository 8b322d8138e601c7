use Rattle.std.proofs.Common.{if◌then◌else◌}
use Rattle.gate_shape.specs.Edge.{value}
use Rattle.gate_shape.specs.Builds.{edge}
use Rattle.gate_shape.proofs.Values.{choice-value}
use Rattle.blast_logic.proofs.Meanings.{meant}
use Rattle.blast_logic.proofs.truths.truth_if.Goals as goal

pub returns-clause-value : goal.returns-clause-value
returns-clause-value g c =
    let m = g.B.Builder.meaning c.args.b.now in
    meant (λ bits. if value bits (edge m c.args.c) then value bits (edge m c.args.x) else value bits (edge m c.args.y)) c.ite.ensures (λ bits. choice-value bits (edge m c.args.c) (edge m c.args.x) (edge m c.args.y))
