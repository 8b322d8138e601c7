use Rattle.std.proofs.Common.{arith}
use Rattle.blast_div.specs.Signed.{magnitude}
use Rattle.blast_div.proofs.Signing.{stands_sign}
use Rattle.blast_div.proofs.signed.magnitude.Goals as goal

pub returns-clause-built : goal.returns-clause-built
unfolding magnitude
returns-clause-built g c =
    let m = g.B.Builder.meaning c.args.b.now in
    let s = stands_sign c.args.x.now c.requires.known (omega arith) (omega arith) c.index-x-x.is in
    rw s.stands_for at c.negated_where.ensures.built
