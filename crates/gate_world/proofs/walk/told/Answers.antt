use Rattle.std.proofs.Common.{subst}
use Rattle.cone_walk.specs.Walk.{Advances, IsStageOf}
use Rattle.cone_walk.specs.declared.walk.Ask.{Ask}
use Rattle.gate_world.specs.Cone.{meaning_of}
use Rattle.gate_world.proofs.Asked.{asks_shows, whole_shows}
use Rattle.gate_world.proofs.walk.told.Goals as goal

pub returns-in_ok-push-in-Node : goal.returns-in_ok-push-in-Node
returns-in_ok-push-in-Node c = λ p view es t.
    let next = c.in_ok-node.ensures in
    asks_shows p view es c.args.walk c.args.nodes.items c.args.fanins (record { walk = c.next.new.self; node = c.in-Node.node; nodes = c.push.new.self }) t next.root
    (subst (λ (a : Ask). IsStageOf c.next.new.self a) c.in-Node.is next.answered)
    (subst (λ (a : Ask). Advances (meaning_of view) c.args.walk c.next.new.self a) c.in-Node.is (next.follows (meaning_of view) t.follows t.replies)) c.in_ok-push-in-Node.ensures.items

pub returns-in-Done : goal.returns-in-Done
returns-in-Done c = λ p view es t.
    let next = c.in_ok-node.ensures in
    let made = c.finish.ensures in
    whole_shows p view es c.args.walk c.next.new.self c.args.nodes.items c.args.fanins c.finish.result.nodes.items c.finish.result.root t next.root
    (subst (λ (a : Ask). Advances (meaning_of view) c.args.walk c.next.new.self a) c.in-Done.is (next.follows (meaning_of view) t.follows t.replies)) made.nodes made.root
