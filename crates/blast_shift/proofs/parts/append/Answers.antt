use Rattle.gate_shape.specs.Builds.{edges}
use Rattle.gate_shape.proofs.Building.{stand_append, stand_self}
use Rattle.bv_value.specs.Operations as is
use Rattle.blast_logic.specs.Words.{word}
use Rattle.blast_logic.proofs.Wiring.{wired, written}
use Rattle.blast_shift.proofs.Values.{appended-value}
use Rattle.blast_shift.proofs.parts.append.Goals as goal
use Rattle.std.proofs.Common.{refl}

pub returns-clause-built : goal.returns-clause-built
returns-clause-built g c = wired _ (stand_append refl (stand_self c.requires.right) (stand_self c.requires.left)) c.joined.ensures

pub returns-clause-value : goal.returns-clause-value
returns-clause-value g c =
    let xs = edges (g.B.Builder.meaning c.args.b.now) c.args.x.now in
    let ys = edges (g.B.Builder.meaning c.args.b.now) c.args.y.now in
    written _ (λ bits. is.append (word bits xs) (word bits ys)) (returns-clause-built g c) (λ bits. appended-value bits xs ys)
