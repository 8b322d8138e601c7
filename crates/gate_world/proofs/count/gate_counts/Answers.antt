use Rattle.std.proofs.Common.{◌≡◌, take, ap, ◌∙◌, arith, length, [], nat_eq}
use Rattle.std.proofs.lemmas.List.{take_all}
use Rattle.indexmap.specs.IndexSet.{insert_all}
use Rattle.gate_world.specs.Nodes.{all_nodes}
use Rattle.gate_world.proofs.Nodes.{counted_more, met_more, count_fits}
use Rattle.gate_world.proofs.count.gate_counts.Goals as goal

pub overflow_add-in_cones : goal.overflow_add-in_cones
overflow_add-in_cones c =
    let fits = count_fits c.args.tasks.now c.loop-task.task-index c.task-item.result c.loop-task-test.true c.task-item.is c.requires.tasks c.requires.nodes c.loop-task.in_cones c.in_ok-in_cones.field-0
    c.loop-task.invariant.counted (c.in_ok-in_cones.ensures.count ∙ ap length c.nodes.ensures) in
    omega arith

pub loop-task-preserved : goal.loop-task-preserved
loop-task-preserved c = record {
  counted = counted_more c.args.tasks.now c.loop-task.task-index c.task-item.result c.loop-task-test.true c.task-item.is c.loop-task.in_cones c.in_ok-in_cones.field-0 c.loop-task.invariant.counted (c.in_ok-in_cones.ensures.count ∙ ap length c.nodes.ensures);
  met = met_more c.args.tasks.now c.loop-task.task-index c.task-item.result c.loop-task-test.true c.task-item.is c.loop-task.seen.keys c.meet.new.seen.keys c.loop-task.invariant.met (c.in_ok-in_cones.ensures.met ∙ ap (insert_all nat_eq c.loop-task.seen.keys) c.nodes.ensures);
}

pub returns : goal.returns
returns c =
    let whole : take c.loop-task.task-index c.args.tasks.now ≡ c.args.tasks.now = take_all c.loop-task.task-index c.args.tasks.now c.loop-task-test.false in
    (c.loop-task.invariant.counted ∙ ap (λ ts. length (all_nodes ts)) whole, c.len.ensures.len ∙ ap length (c.loop-task.invariant.met ∙ ap (λ ts. insert_all nat_eq [] (all_nodes ts)) whole))
