use Rattle.std.proofs.Common.{◌<◌, ◌∙◌, ap, false, get_or, length, ◌+◌}
use Rattle.std.specs.Prelude.{◌&&◌, ◌||◌}
use Rattle.goal_alone.specs.Satisfying.{is_input}
use Rattle.goal_alone.proofs.Sifting.{bits_more}
use Rattle.goal_alone.proofs.counterexample.true_inputs.Goals as goal

pub loop-i-preserved : goal.loop-i-preserved
loop-i-preserved c = λ k j.
    let nodes = c.args.cone.now.nodes.items in
    let values = c.args.values.now in
    let within : c.loop-i.i < length nodes = rw c.deref-node-items.ensures.value at c.loop-i-test.true in
    c.in_ok-note.ensures k j
    ∙ (ap (λ b. b || (is_input k j c.node-item.result && get_or values (c.loop-i.i + 1) false)) (c.loop-i.invariant k j)
    ∙ bits_more nodes values c.loop-i.i c.node-item.result within (rw c.deref-node-items.ensures.value at c.node-item.is) k j)
