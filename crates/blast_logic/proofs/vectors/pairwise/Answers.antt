use Rattle.std.proofs.Common.{◌<◌, ◌≤◌, [], length, arith}
use Rattle.std.specs.List.{zip}
use Rattle.gate_shape.specs.Edge.{Edge}
use Rattle.gate_shape.specs.Row.{gather, each_onto}
use Rattle.gate_shape.specs.Builds.{edges, StandAll}
use Rattle.gate_shape.proofs.Building.{known_item, known_after, item_two, length_two, stands_self, stands_after, stand_none, keeps_then, builds_stop, builds_answer, builds_as, builds_at_two, builds_memory_exit}
use Rattle.gate_shape.proofs.Looping.{reached_none, reached_more, reached_all, reached_refusal, gathered}
use Rattle.blast_logic.specs.Vectors.{pairwise}
use Rattle.blast_logic.specs.Connectives.{connective}
use Rattle.blast_logic.proofs.vectors.pairwise.Goals as goal

pub connected-requires-clause-left : goal.connected-requires-clause-left
connected-requires-clause-left g c = known_after c.loop-i.invariant (known_item _ c.requires.left c.loop-i-test.true c.index-x-i.is)

pub connected-requires-clause-right : goal.connected-requires-clause-right
connected-requires-clause-right g c = known_after c.loop-i.invariant (known_item _ c.requires.right (omega arith) c.index-y-i.is)

pub loop-i-init : goal.loop-i-init
loop-i-init g c =
    let m = g.B.Builder.meaning c.args.b.now in
    reached_none _ StandAll (gather (λ (p : Edge × Edge). connective c.args.how p.0 p.1)) [] (zip (edges m c.args.x.now) (edges m c.args.y.now)) m _ (stand_none c.new-out.ensures.items)

pub returns-in_err-bit : goal.returns-in_err-bit
unfolding pairwise each_onto
returns-in_err-bit g c =
    let m = g.B.Builder.meaning c.args.b.now in
    let p = c.loop-i.invariant in
    let lx = c.loop-i-test.true in
    let ly : c.loop-i.i < length c.args.y.now = omega arith in
    let x = stands_after p (stands_self (known_item _ c.requires.left lx c.index-x-i.is)) in
    let y = stands_after p (stands_self (known_item _ c.requires.right ly c.index-y-i.is)) in
    let inside : c.loop-i.i < length (zip (edges m c.args.x.now) (edges m c.args.y.now)) = omega (arith, length_two m c.args.x.now c.args.y.now c.requires.lengths) in
    let q = builds_at_two (connective c.args.how) x y c.in_err-bit.ensures in
    reached_refusal _ StandAll (gather (λ (p : Edge × Edge). connective c.args.how p.0 p.1)) _ _ c.from_residual.ensures.1 inside (item_two m _ _ lx ly c.index-x-i.is c.index-y-i.is) p (builds_stop _ q)

pub returns-in_err-append : goal.returns-in_err-append
returns-in_err-append g c =
    builds_memory_exit _ c.from_residual-in_err-append.ensures.1 c.in_err-append.ensures.0
    (keeps_then _ _ _ (c.loop-i.invariant).keeps c.in_ok-bit.ensures.keeps)

pub loop-i-preserved : goal.loop-i-preserved
loop-i-preserved g c =
    let m = g.B.Builder.meaning c.args.b.now in
    let p = c.loop-i.invariant in
    let lx = c.loop-i-test.true in
    let ly : c.loop-i.i < length c.args.y.now = omega arith in
    let x = stands_after p (stands_self (known_item _ c.requires.left lx c.index-x-i.is)) in
    let y = stands_after p (stands_self (known_item _ c.requires.right ly c.index-y-i.is)) in
    let inside : c.loop-i.i < length (zip (edges m c.args.x.now) (edges m c.args.y.now)) = omega (arith, length_two m c.args.x.now c.args.y.now c.requires.lengths) in
    let q = builds_at_two (connective c.args.how) x y c.in_ok-bit.ensures in
    reached_more _ StandAll (gather (λ (p : Edge × Edge). connective c.args.how p.0 p.1)) _ _ inside (item_two m _ _ lx ly c.index-x-i.is c.index-y-i.is) p
    (gathered (λ (p : Edge × Edge). connective c.args.how p.0 p.1) _ c.in_ok-append.ensures (builds_answer p) q)

pub returns : goal.returns
unfolding pairwise each_onto
returns g c =
    let m = g.B.Builder.meaning c.args.b.now in
    let outside : length (zip (edges m c.args.x.now) (edges m c.args.y.now)) ≤ c.loop-i.i = omega (arith, length_two m c.args.x.now c.args.y.now c.requires.lengths) in
    let p = reached_all _ StandAll (gather (λ (p : Edge × Edge). connective c.args.how p.0 p.1)) _ _ outside c.loop-i.invariant in
    builds_as p (builds_answer p)
