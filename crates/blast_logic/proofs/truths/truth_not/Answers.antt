use Rattle.std.proofs.Common.{not}
use Rattle.gate_shape.specs.Edge.{value}
use Rattle.gate_shape.specs.Builds.{edge}
use Rattle.gate_shape.proofs.Building.{builds_plain, stands_not, stands_self}
use Rattle.gate_shape.proofs.Values.{value-invert}
use Rattle.blast_logic.proofs.Meanings.{meant}
use Rattle.blast_logic.proofs.truths.truth_not.Goals as goal

pub returns-clause-built : goal.returns-clause-built
returns-clause-built g c = builds_plain (stands_not c.not.ensures (stands_self c.requires))

pub returns-clause-value : goal.returns-clause-value
returns-clause-value g c =
    let m = g.B.Builder.meaning c.args.b.now in
    meant (λ bits. not (value bits (edge m c.args.x))) (returns-clause-built g c) (λ bits. value-invert bits (edge m c.args.x))
