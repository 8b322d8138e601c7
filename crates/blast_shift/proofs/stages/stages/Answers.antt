use Rattle.std.proofs.Common.{◌<◌, ◌≤◌, length, arith, List}
use Rattle.std.specs.List.{enumerate_from}
use Rattle.gate_shape.specs.Edge.{Edge}
use Rattle.gate_shape.specs.Builds.{edges, StandAll}
use Rattle.gate_shape.proofs.Building.{known_after, known_item, stand_self, stands_self, stands_after, item_numbered, length_numbered, keeps_self, builds_answer, builds_as, builds_error, builds_memory_exit}
use Rattle.gate_shape.proofs.Looping.{reached_none, reached_more, reached_all, reached_refusal}
use Rattle.blast_shift.specs.Stages.{stage, stages}
use Rattle.blast_shift.specs.Ways.{moved_by}
use Rattle.blast_logic.proofs.Wiring.{stand_given, builds_at_list_and_one}
use Rattle.blast_shift.proofs.stages.stages.Goals as goal

pub loop-k-init : goal.loop-k-init
loop-k-init g c =
    let m = g.B.Builder.meaning c.args.b.now in
    reached_none _ StandAll (stage (moved_by c.args.way)) _ (enumerate_from 0 (edges m c.args.y.now)) m _ (stand_given c.in_ok-moved.ensures (stand_self c.requires.left))

pub stage-requires-clause-left : goal.stage-requires-clause-left
stage-requires-clause-left g c = (builds_answer c.loop-k.invariant).known

pub stage-requires-clause-right : goal.stage-requires-clause-right
stage-requires-clause-right g c = known_after c.loop-k.invariant (known_item _ c.requires.right c.loop-k-test.true c.index-y-k.is)

pub returns-in_err-moved : goal.returns-in_err-moved
returns-in_err-moved g c = builds_memory_exit _ c.from_residual.ensures.1 c.in_err-moved.ensures (keeps_self _)

pub returns-in_err-moved-2 : goal.returns-in_err-moved-2
unfolding stages
returns-in_err-moved-2 g c =
    let m = g.B.Builder.meaning c.args.b.now in
    let p = c.loop-k.invariant in
    let ly : c.loop-k.k < length c.args.y.now = c.loop-k-test.true in
    let inside : c.loop-k.k < length (enumerate_from 0 (edges m c.args.y.now)) = omega (arith, length_numbered m c.args.y.now) in
    let y = stands_after p (stands_self (known_item _ c.requires.right ly c.index-y-k.is)) in
    let q = builds_at_list_and_one (λ (xs : List Edge) (e : Edge). stage (moved_by c.args.way) xs (c.loop-k.k, e)) (builds_answer p) y c.in_err-moved-2.ensures in
    reached_refusal _ StandAll (stage (moved_by c.args.way)) _ _ c.from_residual-in_err-moved-2.ensures.1 inside (item_numbered m _ ly c.index-y-k.is) p (builds_error q)

pub loop-k-preserved : goal.loop-k-preserved
loop-k-preserved g c =
    let m = g.B.Builder.meaning c.args.b.now in
    let p = c.loop-k.invariant in
    let ly : c.loop-k.k < length c.args.y.now = c.loop-k-test.true in
    let inside : c.loop-k.k < length (enumerate_from 0 (edges m c.args.y.now)) = omega (arith, length_numbered m c.args.y.now) in
    let y = stands_after p (stands_self (known_item _ c.requires.right ly c.index-y-k.is)) in
    let q = builds_at_list_and_one (λ (xs : List Edge) (e : Edge). stage (moved_by c.args.way) xs (c.loop-k.k, e)) (builds_answer p) y c.in_ok-moved-2.ensures in
    reached_more _ StandAll (stage (moved_by c.args.way)) _ _ inside (item_numbered m _ ly c.index-y-k.is) p (builds_as q (builds_answer q))

pub returns : goal.returns
unfolding stages
returns g c =
    let m = g.B.Builder.meaning c.args.b.now in
    let outside : length (enumerate_from 0 (edges m c.args.y.now)) ≤ c.loop-k.k = omega (arith, length_numbered m c.args.y.now) in
    let p = reached_all _ StandAll (stage (moved_by c.args.way)) _ _ outside c.loop-k.invariant in
    builds_as p (builds_answer p)
