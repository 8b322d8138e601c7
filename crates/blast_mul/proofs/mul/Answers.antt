use Rattle.std.proofs.Common.{◌≡◌, ◌<◌, ◌≤◌, ◌∙◌, sym, ap, length, arith, List}
use Rattle.std.proofs.lemmas.List.{length-map, length-replicate}
use Rattle.std.specs.List.{enumerate_from}
use Rattle.gate_shape.specs.Edge.{Edge}
use Rattle.gate_shape.specs.Builds.{edges, StandAll}
use Rattle.gate_shape.proofs.Building.{known_item, stand_self, stand_after, stands_self, stands_after, stand_falses, item_numbered, length_numbered, builds_answer, builds_as, builds_error, builds_at_lists_and_one}
use Rattle.gate_shape.proofs.Looping.{reached_none, reached_more, reached_all, reached_refusal}
use Rattle.blast_mul.specs.Product.{add_partial, product}
use Rattle.blast_mul.proofs.Multiplying.{product-word}
use Rattle.blast_mul.proofs.mul.Goals as goal

pub loop-i-init : goal.loop-i-init
loop-i-init g c =
    let m = g.B.Builder.meaning c.args.b.now in
    let n : length c.args.x.now ≡ length (edges m c.args.x.now) = simp length-map in
    record {
      built = reached_none _ StandAll (add_partial (edges m c.args.x.now)) _ (enumerate_from 0 (edges m c.args.y.now)) m _ (stand_falses (length (edges m c.args.x.now)) (length c.args.x.now) n c.in_ok-sum.ensures);
      lengths = ap length c.in_ok-sum.ensures ∙ length-replicate _ _;
    }

pub returns-in_err-sum-2-clause-built : goal.returns-in_err-sum-2-clause-built
unfolding product
returns-in_err-sum-2-clause-built g c =
    let m = g.B.Builder.meaning c.args.b.now in
    let p = c.loop-i.invariant.built in
    let ly : c.loop-i.i < length c.args.y.now = c.loop-i-test.true in
    let inside : c.loop-i.i < length (enumerate_from 0 (edges m c.args.y.now)) = omega (arith, length_numbered m c.args.y.now) in
    let x = stand_after p (stand_self c.requires.left) in
    let y = stands_after p (stands_self (known_item _ c.requires.right ly c.index-y-i.is)) in
    let sum = rw (sym c.deref.ensures.value) at (builds_answer p) in
    let q = builds_at_lists_and_one (λ (xs : List Edge) (s : List Edge) (e : Edge). add_partial xs s (c.loop-i.i, e)) x sum y c.in_err-sum-2.ensures.built in
    reached_refusal _ StandAll (add_partial (edges m c.args.x.now)) _ _ c.from_residual-in_err-sum-2.ensures.1 inside (item_numbered m _ ly c.index-y-i.is) p (builds_error q)

pub loop-i-preserved : goal.loop-i-preserved
loop-i-preserved g c =
    let m = g.B.Builder.meaning c.args.b.now in
    let p = c.loop-i.invariant.built in
    let ly : c.loop-i.i < length c.args.y.now = c.loop-i-test.true in
    let inside : c.loop-i.i < length (enumerate_from 0 (edges m c.args.y.now)) = omega (arith, length_numbered m c.args.y.now) in
    let x = stand_after p (stand_self c.requires.left) in
    let y = stands_after p (stands_self (known_item _ c.requires.right ly c.index-y-i.is)) in
    let sum = rw (sym c.deref.ensures.value) at (builds_answer p) in
    let q = builds_at_lists_and_one (λ (xs : List Edge) (s : List Edge) (e : Edge). add_partial xs s (c.loop-i.i, e)) x sum y c.in_ok-sum-2.ensures.built in
    record {
      built = reached_more _ StandAll (add_partial (edges m c.args.x.now)) _ _ inside (item_numbered m _ ly c.index-y-i.is) p (builds_as q (builds_answer q));
      lengths = c.in_ok-sum-2.ensures.lengths;
    }

pub returns-clause-built : goal.returns-clause-built
unfolding product
returns-clause-built g c =
    let m = g.B.Builder.meaning c.args.b.now in
    let outside : length (enumerate_from 0 (edges m c.args.y.now)) ≤ c.loop-i.i = omega (arith, length_numbered m c.args.y.now) in
    let p = reached_all _ StandAll (add_partial (edges m c.args.x.now)) _ _ outside c.loop-i.invariant.built in
    builds_as p (builds_answer p)

pub returns-clause-value : goal.returns-clause-value
returns-clause-value g c = λ bits.
    let m = g.B.Builder.meaning c.args.b.now in
    rw (builds_answer (returns-clause-built g c)).stand_for (product-word bits (edges m c.args.x.now) (edges m c.args.y.now) (simp length-map c.requires.lengths))
