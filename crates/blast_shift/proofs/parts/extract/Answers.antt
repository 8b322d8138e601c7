use Rattle.gate_shape.specs.Builds.{edges}
use Rattle.bv_value.specs.Operations as is
use Rattle.blast_logic.specs.Words.{word}
use Rattle.blast_logic.proofs.Wiring.{wired_as, resized_left, written}
use Rattle.blast_shift.proofs.Standing.{stand_extracted}
use Rattle.blast_shift.proofs.Values.{extracted-value}
use Rattle.blast_shift.proofs.parts.extract.Goals as goal

pub returns-clause-built : goal.returns-clause-built
returns-clause-built g c = wired_as _ (resized_left _ c.args.x.now c.capped-from.result c.args.len) (stand_extracted c.args.x.now c.requires c.args.start c.args.len c.capped-from.ensures c.new.ensures) c.resized.ensures

pub returns-clause-value : goal.returns-clause-value
returns-clause-value g c =
    let xs = edges (g.B.Builder.meaning c.args.b.now) c.args.x.now in
    written _ (λ bits. is.extract (word bits xs) c.args.start c.args.len) (returns-clause-built g c) (λ bits. extracted-value bits c.args.start c.args.len xs)
