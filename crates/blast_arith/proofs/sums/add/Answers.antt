use Rattle.std.proofs.Common.{◌<◌, ◌≤◌, ◌∙◌, length, arith, []}
use Rattle.std.specs.List.{zip}
use Rattle.gate_shape.specs.Row.{full_adder}
use Rattle.gate_shape.specs.Builds.{edge, edges, StandAllAndOne}
use Rattle.gate_shape.proofs.Building.{known_item, known_after, item_two, length_two, stand_none, stand_push, stand_after, stand_lengths, stands_self, stands_after, builds_then, builds_stop, builds_plain, builds_answer, builds_at_three, builds_memory_exit, builds_as, keeps_then}
use Rattle.gate_shape.proofs.Looping.{reached_none, reached_more, reached_all, reached_refusal}
use Rattle.std.proofs.lemmas.List.{length-map}
use Rattle.blast_arith.proofs.Adding.{adder-value, adder-word, adder-length}
use Rattle.blast_arith.specs.Sums.{add_bit, adder}
use Rattle.blast_arith.proofs.sums.add.Goals as goal

pub loop-i-init : goal.loop-i-init
loop-i-init g c =
    let m = g.B.Builder.meaning c.args.b.now in
    reached_none _ StandAllAndOne add_bit ([], edge m c.args.carry) (zip (edges m c.args.x.now) (edges m c.args.y.now)) m _ (stand_none c.new-sums.ensures.items, stands_self c.requires.carry)

pub full_adder-requires-clause-left : goal.full_adder-requires-clause-left
full_adder-requires-clause-left g c = known_after c.loop-i.invariant (known_item _ c.requires.left c.loop-i-test.true c.index-x-i.is)

pub full_adder-requires-clause-right : goal.full_adder-requires-clause-right
full_adder-requires-clause-right g c = known_after c.loop-i.invariant (known_item _ c.requires.right (omega arith) c.index-y-i.is)

pub full_adder-requires-clause-carry : goal.full_adder-requires-clause-carry
full_adder-requires-clause-carry g c = (builds_answer c.loop-i.invariant).1.known

pub returns-in_err-sum-clause-built : goal.returns-in_err-sum-clause-built
unfolding adder
returns-in_err-sum-clause-built g c =
    let m = g.B.Builder.meaning c.args.b.now in
    let p = c.loop-i.invariant in
    let lx = c.loop-i-test.true in
    let ly : c.loop-i.i < length c.args.y.now = omega arith in
    let x = stands_after p (stands_self (known_item _ c.requires.left lx c.index-x-i.is)) in
    let y = stands_after p (stands_self (known_item _ c.requires.right ly c.index-y-i.is)) in
    let inside : c.loop-i.i < length (zip (edges m c.args.x.now) (edges m c.args.y.now)) = omega (arith, length_two m c.args.x.now c.args.y.now c.requires.lengths) in
    let q = builds_at_three full_adder x y (builds_answer p).1 c.in_err-sum.ensures in
    reached_refusal _ StandAllAndOne add_bit _ _ c.from_residual.ensures.1 inside (item_two m _ _ lx ly c.index-x-i.is c.index-y-i.is) p (builds_stop _ q)

pub returns-in_err-append-clause-built : goal.returns-in_err-append-clause-built
returns-in_err-append-clause-built g c =
    builds_memory_exit _ c.from_residual-in_err-append.ensures.1 c.in_err-append.ensures.0
    (keeps_then _ _ _ (c.loop-i.invariant).keeps c.in_ok-sum.ensures.keeps)

pub loop-i-preserved : goal.loop-i-preserved
loop-i-preserved g c =
    let m = g.B.Builder.meaning c.args.b.now in
    let p = c.loop-i.invariant in
    let lx = c.loop-i-test.true in
    let ly : c.loop-i.i < length c.args.y.now = omega arith in
    let x = stands_after p (stands_self (known_item _ c.requires.left lx c.index-x-i.is)) in
    let y = stands_after p (stands_self (known_item _ c.requires.right ly c.index-y-i.is)) in
    let inside : c.loop-i.i < length (zip (edges m c.args.x.now) (edges m c.args.y.now)) = omega (arith, length_two m c.args.x.now c.args.y.now c.requires.lengths) in
    let q = builds_at_three full_adder x y (builds_answer p).1 c.in_ok-sum.ensures in
    reached_more _ StandAllAndOne add_bit _ _ inside (item_two m _ _ lx ly c.index-x-i.is c.index-y-i.is) p
    (builds_then _ q (builds_plain (stand_push c.in_ok-append.ensures (stand_after q (builds_answer p).0) (builds_answer q).0, (builds_answer q).1)))

pub returns-clause-built : goal.returns-clause-built
unfolding adder
returns-clause-built g c =
    let m = g.B.Builder.meaning c.args.b.now in
    let outside : length (zip (edges m c.args.x.now) (edges m c.args.y.now)) ≤ c.loop-i.i = omega (arith, length_two m c.args.x.now c.args.y.now c.requires.lengths) in
    let p = reached_all _ StandAllAndOne add_bit _ _ outside c.loop-i.invariant in
    builds_as p (builds_answer p)

pub returns-clause-value : goal.returns-clause-value
returns-clause-value g c = λ bits.
    let m = g.B.Builder.meaning c.args.b.now in
    let a = builds_answer (returns-clause-built g c) in
    let sum = adder-value bits (edges m c.args.x.now) (edges m c.args.y.now) (edge m c.args.carry) (simp length-map c.requires.lengths) in
    rw (a.0.stand_for, a.1.stands_for) (simp length-map at sum)

pub returns-clause-sum : goal.returns-clause-sum
returns-clause-sum g c = λ bits none.
    let m = g.B.Builder.meaning c.args.b.now in
    rw (builds_answer (returns-clause-built g c)).0.stand_for (adder-word bits (edges m c.args.x.now) (edges m c.args.y.now) (edge m c.args.carry) (simp length-map c.requires.lengths) none)

pub returns-clause-lengths : goal.returns-clause-lengths
returns-clause-lengths g c =
    let m = g.B.Builder.meaning c.args.b.now in
    stand_lengths (builds_answer (returns-clause-built g c)).0 ∙ (adder-length (edges m c.args.x.now) (edges m c.args.y.now) (edge m c.args.carry) (simp length-map c.requires.lengths) ∙ length-map c.args.x.now (edge m))
