use Rattle.bv_value.specs.Bits.{differ as differ_bits}
use Rattle.std.proofs.Common.{not}
use Rattle.gate_shape.specs.Edge.{value}
use Rattle.gate_shape.specs.Builds.{edge}
use Rattle.gate_shape.proofs.Building.{builds_exit, builds_then, builds_plain, stands_not, stands_answer}
use Rattle.blast_logic.specs.Truths.{equivalence}
use Rattle.blast_logic.proofs.Meanings.{meant, equivalence-value}
use Rattle.blast_logic.proofs.truths.truth_eq.Goals as goal

pub returns-in_err-d-clause-built : goal.returns-in_err-d-clause-built
unfolding equivalence
returns-in_err-d-clause-built g c = builds_exit _ c.from_residual.ensures.1 c.in_err-d.ensures

pub returns-clause-built : goal.returns-clause-built
unfolding equivalence
returns-clause-built g c = let p = c.in_ok-d.ensures in builds_then _ p (builds_plain (stands_not c.not.ensures (stands_answer p)))

pub returns-clause-value : goal.returns-clause-value
returns-clause-value g c =
    let m = g.B.Builder.meaning c.args.b.now in
    meant (λ bits. not (differ_bits (value bits (edge m c.args.x)) (value bits (edge m c.args.y)))) (returns-clause-built g c) (λ bits. equivalence-value bits (edge m c.args.x) (edge m c.args.y))
