use Rattle.std.proofs.Common.{◌<◌, ◌≤◌, length, arith, true}
use Rattle.std.specs.List.{zip}
use Rattle.gate_shape.specs.Edge.{constant}
use Rattle.gate_shape.specs.Row.{differ, both}
use Rattle.gate_shape.specs.Builds.{edges, Stands}
use Rattle.gate_shape.proofs.Building.{known_item, known_after, item_two, length_two, stands_self, stands_after, stands_not, stands_answer, stands_true, builds_then, builds_stop, builds_answer, builds_at_two}
use Rattle.gate_shape.proofs.Looping.{reached_none, reached_more, reached_all, reached_refusal}
use Rattle.std.proofs.lemmas.List.{length-map}
use Rattle.blast_arith.proofs.Comparing.{equal-value}
use Rattle.blast_arith.specs.Comparisons.{equal_bit, equal}
use Rattle.blast_arith.proofs.comparisons.eq.Goals as goal

pub loop-i-init : goal.loop-i-init
loop-i-init g c =
    let m = g.B.Builder.meaning c.args.b.now in
    reached_none _ Stands equal_bit (constant true) (zip (edges m c.args.x.now) (edges m c.args.y.now)) m _ (stands_true c.new-all.ensures)

pub xor2-requires-clause-left : goal.xor2-requires-clause-left
xor2-requires-clause-left g c = known_after c.loop-i.invariant (known_item _ c.requires.left c.loop-i-test.true c.index-x-i.is)

pub xor2-requires-clause-right : goal.xor2-requires-clause-right
xor2-requires-clause-right g c = known_after c.loop-i.invariant (known_item _ c.requires.right (omega arith) c.index-y-i.is)

pub returns-in_err-differs-clause-built : goal.returns-in_err-differs-clause-built
unfolding equal
returns-in_err-differs-clause-built g c =
    let m = g.B.Builder.meaning c.args.b.now in
    let p = c.loop-i.invariant in
    let lx = c.loop-i-test.true in
    let ly : c.loop-i.i < length c.args.y.now = omega arith in
    let x = stands_after p (stands_self (known_item _ c.requires.left lx c.index-x-i.is)) in
    let y = stands_after p (stands_self (known_item _ c.requires.right ly c.index-y-i.is)) in
    let inside : c.loop-i.i < length (zip (edges m c.args.x.now) (edges m c.args.y.now)) = omega (arith, length_two m c.args.x.now c.args.y.now c.requires.lengths) in
    let q = builds_at_two differ x y c.in_err-differs.ensures in
    reached_refusal _ Stands equal_bit _ _ c.from_residual.ensures.1 inside (item_two m _ _ lx ly c.index-x-i.is c.index-y-i.is) p (builds_stop _ q)

pub returns-in_err-all-clause-built : goal.returns-in_err-all-clause-built
unfolding equal
returns-in_err-all-clause-built g c =
    let m = g.B.Builder.meaning c.args.b.now in
    let p = c.loop-i.invariant in
    let lx = c.loop-i-test.true in
    let ly : c.loop-i.i < length c.args.y.now = omega arith in
    let x = stands_after p (stands_self (known_item _ c.requires.left lx c.index-x-i.is)) in
    let y = stands_after p (stands_self (known_item _ c.requires.right ly c.index-y-i.is)) in
    let inside : c.loop-i.i < length (zip (edges m c.args.x.now) (edges m c.args.y.now)) = omega (arith, length_two m c.args.x.now c.args.y.now c.requires.lengths) in
    let q = builds_at_two differ x y c.in_ok-differs.ensures in
    let r = builds_at_two both (stands_after q (builds_answer p)) (stands_not c.not.ensures (stands_answer q)) c.in_err-all.ensures.built in
    reached_refusal _ Stands equal_bit _ _ c.from_residual-in_err-all.ensures.1 inside (item_two m _ _ lx ly c.index-x-i.is c.index-y-i.is) p (builds_then _ q r)

pub loop-i-preserved : goal.loop-i-preserved
loop-i-preserved g c =
    let m = g.B.Builder.meaning c.args.b.now in
    let p = c.loop-i.invariant in
    let lx = c.loop-i-test.true in
    let ly : c.loop-i.i < length c.args.y.now = omega arith in
    let x = stands_after p (stands_self (known_item _ c.requires.left lx c.index-x-i.is)) in
    let y = stands_after p (stands_self (known_item _ c.requires.right ly c.index-y-i.is)) in
    let inside : c.loop-i.i < length (zip (edges m c.args.x.now) (edges m c.args.y.now)) = omega (arith, length_two m c.args.x.now c.args.y.now c.requires.lengths) in
    let q = builds_at_two differ x y c.in_ok-differs.ensures in
    let r = builds_at_two both (stands_after q (builds_answer p)) (stands_not c.not.ensures (stands_answer q)) c.in_ok-all.ensures.built in
    reached_more _ Stands equal_bit _ _ inside (item_two m _ _ lx ly c.index-x-i.is c.index-y-i.is) p (builds_then _ q r)

pub returns-clause-built : goal.returns-clause-built
unfolding equal
returns-clause-built g c =
    let m = g.B.Builder.meaning c.args.b.now in
    let outside : length (zip (edges m c.args.x.now) (edges m c.args.y.now)) ≤ c.loop-i.i = omega (arith, length_two m c.args.x.now c.args.y.now c.requires.lengths) in
    reached_all _ Stands equal_bit _ _ outside c.loop-i.invariant

pub returns-clause-value : goal.returns-clause-value
returns-clause-value g c = λ bits.
    let m = g.B.Builder.meaning c.args.b.now in
    rw (builds_answer (returns-clause-built g c)).stands_for (equal-value bits (edges m c.args.x.now) (edges m c.args.y.now) (simp length-map c.requires.lengths))
