use Rattle.cone_walk.proofs.Asking.{asks_for, asked_all}
use Rattle.cone_walk.proofs.walk.Walk.next.Goals as goal

pub returns-in-Ok-Some-clause-follows : goal.returns-in-Ok-Some-clause-follows
returns-in-Ok-Some-clause-follows c = λ m w reply.
    rw c.node-node.ensures.value (asks_for m c.args.self.now c.go_on.new.self c.args.fanins c.in-Ok-Some.gate reply c.go_on.ensures.root (rw c.in-Ok-Some.field-0-is at (c.in-Ok-Some.ensures.follows m w reply)) c.in-Ok-Some.ensures.met)

pub returns-in-Ok-None-clause-follows : goal.returns-in-Ok-None-clause-follows
returns-in-Ok-None-clause-follows c = λ m w reply.
    asked_all m c.args.self.now c.go_on.new.self c.args.fanins reply c.go_on.ensures.root (rw c.in-Ok-None.field-0-is at (c.in-Ok-None.ensures.follows m w reply)) (c.in-Ok-None.ensures.done c.in-Ok-None.field-0-is) c.in-Ok-None.ensures.met
