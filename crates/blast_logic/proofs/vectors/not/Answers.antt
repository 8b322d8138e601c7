use Rattle.std.proofs.Common.{refl}
use Rattle.gate_shape.specs.Builds.{edges}
use Rattle.gate_shape.proofs.Building.{stand_self, stand_not}
use Rattle.bv_value.specs.Operations as is
use Rattle.blast_logic.specs.Words.{word}
use Rattle.blast_logic.proofs.Wiring.{wired, written}
use Rattle.blast_logic.proofs.Vectoring.{inverts-word}
use Rattle.blast_logic.proofs.vectors.not.Goals as goal

pub returns-clause-built : goal.returns-clause-built
returns-clause-built g c = wired _ (stand_not refl (stand_self c.requires)) c.opposites.ensures

pub returns-clause-value : goal.returns-clause-value
returns-clause-value g c =
    let xs = edges (g.B.Builder.meaning c.args.b.now) c.args.x.now in
    written _ (λ bits. is.bitwise_not (word bits xs)) (returns-clause-built g c) (λ bits. inverts-word bits xs)
