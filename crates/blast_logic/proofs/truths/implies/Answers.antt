use Rattle.std.proofs.Common.{not, ◌||◌}
use Rattle.gate_shape.specs.Edge.{value}
use Rattle.gate_shape.specs.Row.{both}
use Rattle.gate_shape.specs.Builds.{edge}
use Rattle.gate_shape.proofs.Building.{builds_exit, builds_then, builds_plain, builds_at_two, stands_self, stands_not, stands_answer}
use Rattle.blast_logic.specs.Truths.{implication}
use Rattle.blast_logic.proofs.Meanings.{meant, implication-value}
use Rattle.blast_logic.proofs.truths.implies.Goals as goal

pub returns-in_err-p-clause-built : goal.returns-in_err-p-clause-built
unfolding implication
returns-in_err-p-clause-built g c =
    let y = stands_not c.not.ensures (stands_self c.requires.right) in
    builds_exit _ c.from_residual.ensures.1 (builds_at_two both (stands_self c.requires.left) y c.in_err-p.ensures.built)

pub returns-clause-built : goal.returns-clause-built
unfolding implication
returns-clause-built g c =
    let y = stands_not c.not.ensures (stands_self c.requires.right) in
    let p = builds_at_two both (stands_self c.requires.left) y c.in_ok-p.ensures.built in
    builds_then _ p (builds_plain (stands_not c.not-2.ensures (stands_answer p)))

pub returns-clause-value : goal.returns-clause-value
returns-clause-value g c =
    let m = g.B.Builder.meaning c.args.b.now in
    meant (λ bits. not (value bits (edge m c.args.x)) || value bits (edge m c.args.y)) (returns-clause-built g c) (λ bits. implication-value bits (edge m c.args.x) (edge m c.args.y))
