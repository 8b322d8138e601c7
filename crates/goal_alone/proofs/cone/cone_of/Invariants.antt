use Rattle.std.proofs.Common.{◌≡◌, ◌+◌, length}
use Rattle.gate_shape.specs.Listed.{listed}
use Rattle.cone_walk.specs.Walk.{Follows, Replies, root_of, was_asked}
use Rattle.goal_alone.specs.Unasked.{unasked}
use Rattle.goal_alone.proofs.cone.cone_of.Given as goal

abbrev pub invariant-asks : goal.invariant-asks
invariant-asks l = record {
  root : root_of l.walk ≡ l.fn.root;
  follows : Follows (listed l.gates) l.walk;
  replies : Replies (listed l.gates) l.walk l.fanins;
}

abbrev pub decreases-asks : goal.decreases-asks
decreases-asks l = unasked (λ s. was_asked l.walk (8193 + s)) (length (listed l.gates).trace)
