use Rattle.std.proofs.lemmas.List.{length-map}
use Rattle.gate_shape.specs.Builds.{edges}
use Rattle.bv_value.specs.Operations as is
use Rattle.blast_logic.specs.Words.{word}
use Rattle.blast_logic.proofs.Wiring.{written}
use Rattle.blast_logic.proofs.Vectoring.{xor-word}
use Rattle.blast_logic.proofs.vectors.xor.Goals as goal

pub returns-clause-value : goal.returns-clause-value
returns-clause-value g c =
    let xs = edges (g.B.Builder.meaning c.args.b.now) c.args.x.now in
    let ys = edges (g.B.Builder.meaning c.args.b.now) c.args.y.now in
    written _ (λ bits. is.bitwise_xor (word bits xs) (word bits ys)) c.pairwise.ensures (λ bits. xor-word bits xs ys (simp length-map c.requires.lengths))
