use Rattle.std.proofs.Common.{◌≡◌, nat_eq, take, length, []}
use Rattle.indexmap.specs.IndexSet.{insert_all}
use Rattle.gate_world.specs.Nodes.{all_nodes}
use Rattle.gate_world.proofs.count.gate_counts.Given as goal

-- the nodes of the goals so far were counted and met
abbrev pub invariant-loop-task : goal.invariant-loop-task
invariant-loop-task l = record {
  counted : l.in_cones ≡ length (all_nodes (take l.task-index l.tasks));
  met : l.seen.keys ≡ insert_all nat_eq [] (all_nodes (take l.task-index l.tasks));
}
