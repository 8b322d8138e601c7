use Rattle.bv_value.specs.Bits.{differ as differ_bits}
use Rattle.gate_shape.specs.Edge.{value}
use Rattle.gate_shape.specs.Builds.{edge}
use Rattle.blast_logic.proofs.Meanings.{meant, differ_bits-value}
use Rattle.blast_logic.proofs.truths.truth_xor.Goals as goal

pub returns-clause-value : goal.returns-clause-value
returns-clause-value g c =
    let m = g.B.Builder.meaning c.args.b.now in
    meant (λ bits. differ_bits (value bits (edge m c.args.x)) (value bits (edge m c.args.y))) c.xor2.ensures (λ bits. differ_bits-value bits (edge m c.args.x) (edge m c.args.y))
