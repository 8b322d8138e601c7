use Rattle.std.proofs.Common.{◌≡◌, nat_eq, take}
use Rattle.indexmap.specs.IndexSet.{insert_all}
use Rattle.gate_world.proofs.count.meet.Given as goal

abbrev pub invariant-loop-node : goal.invariant-loop-node
invariant-loop-node l = l.seen.keys ≡ insert_all nat_eq l.initial.seen.keys (take l.node-index l.nodes)
