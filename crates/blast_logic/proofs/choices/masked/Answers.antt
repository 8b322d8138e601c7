use Rattle.std.proofs.Common.{◌<◌, ◌≤◌, [], length, arith}
use Rattle.std.proofs.lemmas.List.{length-map}
use Rattle.gate_shape.specs.Row.{gather, each_onto, both}
use Rattle.gate_shape.specs.Builds.{edge, edges, StandAll}
use Rattle.gate_shape.proofs.Building.{known_item, known_after, item_one, stands_self, stands_after, stand_none, keeps_then, builds_stop, builds_answer, builds_as, builds_at_two, builds_memory_exit}
use Rattle.gate_shape.proofs.Looping.{reached_none, reached_more, reached_all, reached_refusal, gathered}
use Rattle.blast_logic.proofs.choices.masked.Goals as goal

pub and-requires-clause-left : goal.and-requires-clause-left
and-requires-clause-left g c = known_after c.loop-i.invariant c.requires.mask

pub and-requires-clause-right : goal.and-requires-clause-right
and-requires-clause-right g c = known_after c.loop-i.invariant (known_item _ c.requires.known c.loop-i-test.true c.index-x-i.is)

pub loop-i-init : goal.loop-i-init
loop-i-init g c =
    let m = g.B.Builder.meaning c.args.b.now in
    reached_none _ StandAll (gather (both (edge m c.args.mask))) [] (edges m c.args.x.now) m _ (stand_none c.new-out.ensures.items)

pub returns-in_err-kept : goal.returns-in_err-kept
unfolding each_onto
returns-in_err-kept g c =
    let m = g.B.Builder.meaning c.args.b.now in
    let p = c.loop-i.invariant in
    let lx : c.loop-i.i < length c.args.x.now = c.loop-i-test.true in
    let inside : c.loop-i.i < length (edges m c.args.x.now) = simp length-map lx in
    let x = stands_after p (stands_self (known_item _ c.requires.known lx c.index-x-i.is)) in
    let q = builds_at_two both (stands_after p (stands_self c.requires.mask)) x c.in_err-kept.ensures.built in
    reached_refusal _ StandAll (gather (both (edge m c.args.mask))) _ _ c.from_residual.ensures.1 inside (item_one m _ lx c.index-x-i.is) p (builds_stop _ q)

pub returns-in_err-append : goal.returns-in_err-append
returns-in_err-append g c =
    builds_memory_exit _ c.from_residual-in_err-append.ensures.1 c.in_err-append.ensures.0
    (keeps_then _ _ _ (c.loop-i.invariant).keeps c.in_ok-kept.ensures.built.keeps)

pub loop-i-preserved : goal.loop-i-preserved
loop-i-preserved g c =
    let m = g.B.Builder.meaning c.args.b.now in
    let p = c.loop-i.invariant in
    let lx : c.loop-i.i < length c.args.x.now = c.loop-i-test.true in
    let inside : c.loop-i.i < length (edges m c.args.x.now) = simp length-map lx in
    let x = stands_after p (stands_self (known_item _ c.requires.known lx c.index-x-i.is)) in
    let q = builds_at_two both (stands_after p (stands_self c.requires.mask)) x c.in_ok-kept.ensures.built in
    reached_more _ StandAll (gather (both (edge m c.args.mask))) _ _ inside (item_one m _ lx c.index-x-i.is) p
    (gathered (both (edge m c.args.mask)) _ c.in_ok-append.ensures (builds_answer p) q)

pub returns : goal.returns
unfolding each_onto
returns g c =
    let m = g.B.Builder.meaning c.args.b.now in
    let outside : length (edges m c.args.x.now) ≤ c.loop-i.i = simp length-map (omega arith) in
    let p = reached_all _ StandAll (gather (both (edge m c.args.mask))) _ _ outside c.loop-i.invariant in
    builds_as p (builds_answer p)
