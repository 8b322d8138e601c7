use Rattle.std.proofs.Common.{◌<◌, ◌≤◌, false, length, arith}
use Rattle.std.specs.List.{enumerate_from}
use Rattle.gate_shape.specs.Edge.{Edge, constant}
use Rattle.gate_shape.specs.Builds.{edges, Stands}
use Rattle.gate_shape.proofs.Building.{known_after, known_item, stands_self, stands_after, stands_false, item_numbered, length_numbered, builds_answer, builds_at_two}
use Rattle.gate_shape.proofs.Looping.{reached_none, reached_more, reached_all, reached_refusal}
use Rattle.blast_shift.specs.Stages.{or_overflow, overflow}
use Rattle.blast_shift.proofs.stages.overflow.Goals as goal

pub loop-k-init : goal.loop-k-init
loop-k-init g c =
    let m = g.B.Builder.meaning c.args.b.now in
    reached_none _ Stands (or_overflow c.args.width) (constant false) (enumerate_from 0 (edges m c.args.y.now)) m _ (stands_false c.new-over.ensures)

pub or_overflow-requires-clause-left : goal.or_overflow-requires-clause-left
or_overflow-requires-clause-left g c = (builds_answer c.loop-k.invariant).known

pub or_overflow-requires-clause-right : goal.or_overflow-requires-clause-right
or_overflow-requires-clause-right g c = known_after c.loop-k.invariant (known_item _ c.requires c.loop-k-test.true c.index-y-k.is)

pub returns-in_err-over : goal.returns-in_err-over
unfolding overflow
returns-in_err-over g c =
    let m = g.B.Builder.meaning c.args.b.now in
    let p = c.loop-k.invariant in
    let ly : c.loop-k.k < length c.args.y.now = c.loop-k-test.true in
    let inside : c.loop-k.k < length (enumerate_from 0 (edges m c.args.y.now)) = omega (arith, length_numbered m c.args.y.now) in
    let y = stands_after p (stands_self (known_item _ c.requires ly c.index-y-k.is)) in
    let q = builds_at_two (λ (o : Edge) (e : Edge). or_overflow c.args.width o (c.loop-k.k, e)) (builds_answer p) y c.in_err-over.ensures in
    reached_refusal _ Stands (or_overflow c.args.width) _ _ c.from_residual.ensures.1 inside (item_numbered m _ ly c.index-y-k.is) p q

pub loop-k-preserved : goal.loop-k-preserved
loop-k-preserved g c =
    let m = g.B.Builder.meaning c.args.b.now in
    let p = c.loop-k.invariant in
    let ly : c.loop-k.k < length c.args.y.now = c.loop-k-test.true in
    let inside : c.loop-k.k < length (enumerate_from 0 (edges m c.args.y.now)) = omega (arith, length_numbered m c.args.y.now) in
    let y = stands_after p (stands_self (known_item _ c.requires ly c.index-y-k.is)) in
    let q = builds_at_two (λ (o : Edge) (e : Edge). or_overflow c.args.width o (c.loop-k.k, e)) (builds_answer p) y c.in_ok-over.ensures in
    reached_more _ Stands (or_overflow c.args.width) _ _ inside (item_numbered m _ ly c.index-y-k.is) p q

pub returns : goal.returns
unfolding overflow
returns g c =
    let m = g.B.Builder.meaning c.args.b.now in
    let outside : length (enumerate_from 0 (edges m c.args.y.now)) ≤ c.loop-k.k = omega (arith, length_numbered m c.args.y.now) in
    reached_all _ Stands (or_overflow c.args.width) _ _ outside c.loop-k.invariant
