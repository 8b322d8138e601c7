use Rattle.std.proofs.Common.{◌<◌, ◌≤◌, true, length, arith}
use Rattle.std.proofs.lemmas.List.{length-map}
use Rattle.gate_shape.specs.Edge.{constant}
use Rattle.gate_shape.specs.Row.{both}
use Rattle.gate_shape.specs.Builds.{edges, Stands}
use Rattle.gate_shape.proofs.Building.{known_item, item_one, stands_self, stands_after, stands_not, stands_true, builds_answer, builds_at_two}
use Rattle.gate_shape.proofs.Looping.{reached_none, reached_more, reached_all, reached_refusal}
use Rattle.blast_div.specs.Division.{zero_bit, zero_test}
use Rattle.blast_div.proofs.unsigned.is_zero.Goals as goal

pub loop-i-init : goal.loop-i-init
loop-i-init g c =
    let m = g.B.Builder.meaning c.args.b.now in
    reached_none _ Stands zero_bit (constant true) (edges m c.args.y.now) m _ (stands_true c.new-zero.ensures)

pub and-requires-clause-right : goal.and-requires-clause-right
and-requires-clause-right g c = (stands_not c.not.ensures (stands_after c.loop-i.invariant (stands_self (known_item _ c.requires c.loop-i-test.true c.index-y-i.is)))).known

pub returns-in_err-zero : goal.returns-in_err-zero
unfolding zero_test
returns-in_err-zero g c =
    let m = g.B.Builder.meaning c.args.b.now in
    let p = c.loop-i.invariant in
    let ly : c.loop-i.i < length c.args.y.now = c.loop-i-test.true in
    let inside : c.loop-i.i < length (edges m c.args.y.now) = simp length-map ly in
    let y = stands_not c.not.ensures (stands_after p (stands_self (known_item _ c.requires ly c.index-y-i.is))) in
    reached_refusal _ Stands zero_bit _ _ c.from_residual.ensures.1 inside (item_one m _ ly c.index-y-i.is) p (builds_at_two both (builds_answer p) y c.in_err-zero.ensures.built)

pub loop-i-preserved : goal.loop-i-preserved
loop-i-preserved g c =
    let m = g.B.Builder.meaning c.args.b.now in
    let p = c.loop-i.invariant in
    let ly : c.loop-i.i < length c.args.y.now = c.loop-i-test.true in
    let inside : c.loop-i.i < length (edges m c.args.y.now) = simp length-map ly in
    let y = stands_not c.not.ensures (stands_after p (stands_self (known_item _ c.requires ly c.index-y-i.is))) in
    reached_more _ Stands zero_bit _ _ inside (item_one m _ ly c.index-y-i.is) p (builds_at_two both (builds_answer p) y c.in_ok-zero.ensures.built)

pub returns : goal.returns
unfolding zero_test
returns g c =
    let m = g.B.Builder.meaning c.args.b.now in
    let outside : length (edges m c.args.y.now) ≤ c.loop-i.i = simp length-map (omega arith) in
    reached_all _ Stands zero_bit _ _ outside c.loop-i.invariant
