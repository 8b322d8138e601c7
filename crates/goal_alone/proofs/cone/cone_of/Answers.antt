use Rattle.gate_shape.specs.Listed.{listed}
use Rattle.goal_alone.proofs.Asking.{asks_fewer, replies_none}
use Rattle.goal_alone.proofs.cone.cone_of.Goals as goal

pub asks-init : goal.asks-init
asks-init c = record {
  root = c.in_ok-walk.ensures.begun.root;
  follows = c.in_ok-walk.ensures.follows (listed c.args.gates.now) c.requires.known c.requires.once;
  replies = replies_none (listed c.args.gates.now) c.args.root c.in_ok-walk.walk c.in_ok-walk.ensures.begun;
}

pub asks-smaller : goal.asks-smaller
asks-smaller c =
    asks_fewer c.args.gates.now c.asks.walk c.next.new.self c.in-Node.node
    (rw c.in-Node.is at (c.in_ok-next.ensures.follows (listed c.args.gates.now) c.asks.invariant.follows c.asks.invariant.replies))
