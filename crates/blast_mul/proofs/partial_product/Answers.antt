use Rattle.std.proofs.Common.{◌≡◌, ◌<◌, ◌≤◌, ◌-◌, false, refl, length, replicate, take, arith}
use Rattle.std.proofs.lemmas.List.{length-map}
use Rattle.gate_shape.specs.Edge.{constant}
use Rattle.gate_shape.specs.Row.{gather, each_onto, both}
use Rattle.gate_shape.specs.Builds.{edge, edges, StandAll}
use Rattle.gate_shape.proofs.Building.{known_item, known_after, item_taken, length_taken, stands_self, stands_after, stand_falses, keeps_then, builds_stop, builds_answer, builds_as, builds_at_two, builds_memory_exit}
use Rattle.gate_shape.proofs.Looping.{reached_none, reached_more, reached_all, reached_refusal, gathered}
use Rattle.blast_mul.specs.Product.{partial_product}
use Rattle.blast_mul.proofs.partial_product.Goals as goal

pub and-requires-clause-left : goal.and-requires-clause-left
and-requires-clause-left g c = known_after c.loop-j.invariant c.requires.bit

pub and-requires-clause-right : goal.and-requires-clause-right
and-requires-clause-right g c = known_after c.loop-j.invariant (known_item _ c.requires.known (omega arith) c.index-x-j.is)

pub loop-j-init : goal.loop-j-init
loop-j-init g c =
    let m = g.B.Builder.meaning c.args.b.now in
    reached_none _ StandAll (gather (both (edge m c.args.bit))) (replicate c.args.place (constant false)) (take (length (edges m c.args.x.now) - c.args.place) (edges m c.args.x.now)) m _ (stand_falses c.args.place c.args.place refl c.in_ok-row.ensures)

pub returns-in_err-masked : goal.returns-in_err-masked
unfolding partial_product each_onto
returns-in_err-masked g c =
    let m = g.B.Builder.meaning c.args.b.now in
    let p = c.loop-j.invariant in
    let xs = c.args.x.now in
    let n : length xs ≡ length (edges m xs) = simp length-map in
    let within : c.loop-j.j < length (edges m xs) - c.args.place = omega arith in
    let lx : c.loop-j.j < length xs = omega arith in
    let inside : c.loop-j.j < length (take (length (edges m xs) - c.args.place) (edges m xs)) = omega (arith, length_taken m xs (length (edges m xs) - c.args.place) (omega arith)) in
    let x = stands_after p (stands_self (known_item xs c.requires.known lx c.index-x-j.is)) in
    let q = builds_at_two both (stands_after p (stands_self c.requires.bit)) x c.in_err-masked.ensures.built in
    reached_refusal _ StandAll (gather (both (edge m c.args.bit))) _ _ c.from_residual-in_err-masked.ensures.1 inside (item_taken m xs _ within lx c.index-x-j.is) p (builds_stop _ q)

pub returns-in_err-append : goal.returns-in_err-append
returns-in_err-append g c =
    builds_memory_exit _ c.from_residual-in_err-append.ensures.1 c.in_err-append.ensures.0
    (keeps_then _ _ _ (c.loop-j.invariant).keeps c.in_ok-masked.ensures.built.keeps)

pub loop-j-preserved : goal.loop-j-preserved
loop-j-preserved g c =
    let m = g.B.Builder.meaning c.args.b.now in
    let p = c.loop-j.invariant in
    let xs = c.args.x.now in
    let n : length xs ≡ length (edges m xs) = simp length-map in
    let within : c.loop-j.j < length (edges m xs) - c.args.place = omega arith in
    let lx : c.loop-j.j < length xs = omega arith in
    let inside : c.loop-j.j < length (take (length (edges m xs) - c.args.place) (edges m xs)) = omega (arith, length_taken m xs (length (edges m xs) - c.args.place) (omega arith)) in
    let x = stands_after p (stands_self (known_item xs c.requires.known lx c.index-x-j.is)) in
    let q = builds_at_two both (stands_after p (stands_self c.requires.bit)) x c.in_ok-masked.ensures.built in
    reached_more _ StandAll (gather (both (edge m c.args.bit))) _ _ inside (item_taken m xs _ within lx c.index-x-j.is) p
    (gathered (both (edge m c.args.bit)) _ c.in_ok-append.ensures (builds_answer p) q)

pub returns : goal.returns
unfolding partial_product each_onto
returns g c =
    let m = g.B.Builder.meaning c.args.b.now in
    let xs = c.args.x.now in
    let n : length xs ≡ length (edges m xs) = simp length-map in
    let outside : length (take (length (edges m xs) - c.args.place) (edges m xs)) ≤ c.loop-j.j = omega (arith, length_taken m xs (length (edges m xs) - c.args.place) (omega arith)) in
    let p = reached_all _ StandAll (gather (both (edge m c.args.bit))) _ _ outside c.loop-j.invariant in
    builds_as p (builds_answer p)
