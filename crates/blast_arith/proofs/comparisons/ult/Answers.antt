use Rattle.std.proofs.Common.{◌∙◌}
use Rattle.std.proofs.lemmas.List.{length-map}
use Rattle.gate_shape.specs.Builds.{edges}
use Rattle.gate_shape.proofs.Building.{builds_then, builds_exit, builds_plain, builds_answer, known_opposites, stand_self, stand_not, stands_not, stands_true, builds_at_lists_and_one}
use Rattle.blast_arith.specs.Sums.{adder}
use Rattle.blast_arith.specs.Comparisons.{less}
use Rattle.blast_arith.proofs.Comparing.{less-value}
use Rattle.blast_arith.proofs.comparisons.ult.Goals as goal

pub add-requires-clause-right : goal.add-requires-clause-right
add-requires-clause-right g c = rw (c.deref.ensures.value, c.in_ok-negated.ensures) (known_opposites _ _ c.requires.right)

pub returns-in_err-_sums-clause-built : goal.returns-in_err-_sums-clause-built
unfolding less
returns-in_err-_sums-clause-built g c =
    let y = stand_not (c.deref.ensures.value ∙ c.in_ok-negated.ensures) (stand_self c.requires.right) in
    builds_exit _ c.from_residual-in_err-_sums.ensures.1 (builds_at_lists_and_one adder (stand_self c.requires.left) y (stands_true c.new.ensures) c.in_err-_sums.ensures.built)

pub returns-clause-built : goal.returns-clause-built
unfolding less
returns-clause-built g c =
    let y = stand_not (c.deref.ensures.value ∙ c.in_ok-negated.ensures) (stand_self c.requires.right) in
    let p = builds_at_lists_and_one adder (stand_self c.requires.left) y (stands_true c.new.ensures) c.in_ok-_sums.ensures.built in
    builds_then _ p (builds_plain (stands_not c.not.ensures (builds_answer p).1))

pub returns-clause-value : goal.returns-clause-value
returns-clause-value g c = λ bits.
    let m = g.B.Builder.meaning c.args.b.now in
    rw (builds_answer (returns-clause-built g c)).stands_for (less-value bits (edges m c.args.x.now) (edges m c.args.y.now) (simp length-map c.requires.lengths))
