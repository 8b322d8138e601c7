use Rattle.std.proofs.Common.{sym}
use Rattle.std.proofs.lemmas.List.{length-map}
use Rattle.gate_shape.specs.Builds.{edges}
use Rattle.gate_shape.proofs.Building.{builds_then, builds_exit, builds_plain, builds_answer, stands_not, stands_answer}
use Rattle.blast_arith.specs.Comparisons.{at_most}
use Rattle.blast_arith.proofs.Comparing.{at_most-value}
use Rattle.blast_arith.proofs.comparisons.ule.Goals as goal

pub returns-in_err-less-clause-built : goal.returns-in_err-less-clause-built
unfolding at_most
returns-in_err-less-clause-built g c = builds_exit _ c.from_residual.ensures.1 c.in_err-less.ensures.built

pub returns-clause-built : goal.returns-clause-built
unfolding at_most
returns-clause-built g c =
    let p = c.in_ok-less.ensures.built in
    builds_then _ p (builds_plain (stands_not c.not.ensures (stands_answer p)))

pub returns-clause-value : goal.returns-clause-value
returns-clause-value g c = λ bits.
    let m = g.B.Builder.meaning c.args.b.now in
    rw (builds_answer (returns-clause-built g c)).stands_for (at_most-value bits (edges m c.args.x.now) (edges m c.args.y.now) (simp length-map (sym c.requires.lengths)))
