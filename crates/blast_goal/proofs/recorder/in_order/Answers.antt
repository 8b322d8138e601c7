use Rattle.std.proofs.Common.{true, false, sym, ◌∙◌, ap₂}
use Rattle.gate_shape.specs.Word.{key_less}
use Rattle.gate_shape.specs.Builds.{edge}
use Rattle.gate_shape.specs.Listed.{listed}
use Rattle.blast_goal.proofs.Scripting.{in_order_as}
use Rattle.blast_goal.proofs.recorder.in_order.Goals as goal

pub returns-then-before-clause-gate : goal.returns-then-before-clause-gate
unfolding edge
returns-then-before-clause-gate c =
    let h = sym (ap₂ key_less c.key.ensures c.key-2.ensures) ∙ (sym c.before-2.ensures ∙ c.if-before.true) in
    sym (in_order_as (listed c.args.list.now) c.args.a c.args.b c.level-first.result c.level-second.result c.level-first.ensures c.level-second.ensures true h)

pub returns-else-before-clause-gate : goal.returns-else-before-clause-gate
unfolding edge
returns-else-before-clause-gate c =
    let h = sym (ap₂ key_less c.key.ensures c.key-2.ensures) ∙ (sym c.before-2.ensures ∙ c.if-before.false) in
    sym (in_order_as (listed c.args.list.now) c.args.a c.args.b c.level-first.result c.level-second.result c.level-first.ensures c.level-second.ensures false h)
