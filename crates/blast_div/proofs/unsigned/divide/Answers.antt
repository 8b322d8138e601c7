use Rattle.std.proofs.Common.{◌≡◌, ◌<◌, ◌≤◌, ◌-◌, ◌∷◌, ◌∙◌, [], sym, ap, length, reverse, arith}
use Rattle.std.proofs.lemmas.List.{length-map, length-reverse, length-replicate, reverse-append}
use Rattle.gate_shape.specs.Builds.{edge, edges}
use Rattle.gate_shape.proofs.Building.{known_item, stand_after, stands_self, stands_after, stand_none, stand_falses, stand_cons, stand_lengths, builds_then, builds_stop, builds_plain, builds_answer, builds_as, builds_memory_exit, builds_at_lists_and_one, keeps_then}
use Rattle.gate_shape.proofs.Looping.{reached_none, reached_more, reached_all, reached_refusal}
use Rattle.blast_div.specs.Division.{divide_step, divide_bit, division, negated_divisor}
use Rattle.blast_div.proofs.Dividing.{StandReversed, stand_negated, item_reversed}
use Rattle.blast_div.proofs.Zeros.{division-bits, division-length, division-words}
use Rattle.blast_div.proofs.unsigned.divide.Goals as goal

pub loop-i-init : goal.loop-i-init
loop-i-init g c =
    let m = g.B.Builder.meaning c.args.b.now in
    let n : length c.args.x.now ≡ length (edges m c.args.x.now) = simp length-map in
    record {
      built = reached_none _ StandReversed (divide_bit (negated_divisor (edges m c.args.y.now))) _ (reverse (edges m c.args.x.now)) m _ (stand_none (ap reverse c.new-quotient.ensures.items), stand_falses (length (edges m c.args.x.now)) (length c.args.x.now) n c.in_ok-rest.ensures);
      lengths = ap length c.in_ok-rest.ensures ∙ length-replicate _ _;
    }

pub divide_step-requires-clause-divisor : goal.divide_step-requires-clause-divisor
divide_step-requires-clause-divisor g c = (stand_after c.loop-i.invariant.built (stand_negated _ (c.deref.ensures.value ∙ c.in_ok-negated.ensures) c.requires.right)).known

pub returns-in_err-fits-clause-built : goal.returns-in_err-fits-clause-built
unfolding division
returns-in_err-fits-clause-built g c =
    let m = g.B.Builder.meaning c.args.b.now in
    let p = c.loop-i.invariant.built in
    let lx : c.loop-i.i < length c.args.x.now = c.loop-i-test.true in
    let n : length (reverse (edges m c.args.x.now)) ≡ length c.args.x.now = length-reverse (edges m c.args.x.now) ∙ length-map c.args.x.now (edge m) in
    let inside : c.loop-i.i < length (reverse (edges m c.args.x.now)) = omega arith in
    let k : length c.args.x.now - 1 - c.loop-i.i < length c.args.x.now = omega arith in
    let divisor = stand_after p (stand_negated _ (c.deref.ensures.value ∙ c.in_ok-negated.ensures) c.requires.right) in
    let rest = rw (sym c.deref-in-loop-i.ensures.value) at (builds_answer p).1 in
    let x = stands_after p (stands_self (known_item _ c.requires.left k c.index-x-width.is)) in
    let q = builds_at_lists_and_one divide_step divisor rest x c.in_err-fits.ensures.built in
    reached_refusal _ StandReversed (divide_bit (negated_divisor (edges m c.args.y.now))) _ _ c.from_residual-in_err-fits.ensures.1 inside (item_reversed m _ lx c.index-x-width.is) p (builds_stop _ q)

pub returns-in_err-append-clause-built : goal.returns-in_err-append-clause-built
returns-in_err-append-clause-built g c =
    builds_memory_exit _ c.from_residual-in_err-append.ensures.1 c.in_err-append.ensures.0
    (keeps_then _ _ _ (c.loop-i.invariant.built).keeps c.in_ok-fits.ensures.built.keeps)

pub loop-i-preserved : goal.loop-i-preserved
loop-i-preserved g c =
    let m = g.B.Builder.meaning c.args.b.now in
    let p = c.loop-i.invariant.built in
    let lx : c.loop-i.i < length c.args.x.now = c.loop-i-test.true in
    let n : length (reverse (edges m c.args.x.now)) ≡ length c.args.x.now = length-reverse (edges m c.args.x.now) ∙ length-map c.args.x.now (edge m) in
    let inside : c.loop-i.i < length (reverse (edges m c.args.x.now)) = omega arith in
    let k : length c.args.x.now - 1 - c.loop-i.i < length c.args.x.now = omega arith in
    let divisor = stand_after p (stand_negated _ (c.deref.ensures.value ∙ c.in_ok-negated.ensures) c.requires.right) in
    let rest = rw (sym c.deref-in-loop-i.ensures.value) at (builds_answer p).1 in
    let x = stands_after p (stands_self (known_item _ c.requires.left k c.index-x-width.is)) in
    let q = builds_at_lists_and_one divide_step divisor rest x c.in_ok-fits.ensures.built in
    record {
      built = reached_more _ StandReversed (divide_bit (negated_divisor (edges m c.args.y.now))) _ _ inside (item_reversed m _ lx c.index-x-width.is) p
          (builds_then _ q (builds_plain (stand_cons (ap reverse c.in_ok-append.ensures ∙ reverse-append c.loop-i.quotient.items (c.in_ok-fits.fits ∷ [])) (builds_answer q).0 (stand_after q (builds_answer p).0), (builds_answer q).1)));
      lengths = c.in_ok-fits.ensures.lengths ∙ (ap length c.deref-in-loop-i.ensures.value ∙ c.loop-i.invariant.lengths);
    }

pub returns-clause-built : goal.returns-clause-built
unfolding division
returns-clause-built g c =
    let m = g.B.Builder.meaning c.args.b.now in
    let n : length (reverse (edges m c.args.x.now)) ≡ length c.args.x.now = length-reverse (edges m c.args.x.now) ∙ length-map c.args.x.now (edge m) in
    let outside : length (reverse (edges m c.args.x.now)) ≤ c.loop-i.i = omega arith in
    let p = reached_all _ StandReversed (divide_bit (negated_divisor (edges m c.args.y.now))) _ _ outside c.loop-i.invariant.built in
    builds_as p (rw (sym c.reverse.ensures.items) at (builds_answer p).0, (builds_answer p).1)

pub returns-clause-quotient : goal.returns-clause-quotient
returns-clause-quotient g c = λ bits some.
    let m = g.B.Builder.meaning c.args.b.now in
    rw (builds_answer (returns-clause-built g c)).0.stand_for (division-words bits (edges m c.args.x.now) (edges m c.args.y.now) (simp length-map c.requires.lengths) some).0

pub returns-clause-remainder : goal.returns-clause-remainder
returns-clause-remainder g c = λ bits some.
    let m = g.B.Builder.meaning c.args.b.now in
    rw (builds_answer (returns-clause-built g c)).1.stand_for (division-words bits (edges m c.args.x.now) (edges m c.args.y.now) (simp length-map c.requires.lengths) some).1

pub returns-clause-lengths : goal.returns-clause-lengths
returns-clause-lengths g c =
    let m = g.B.Builder.meaning c.args.b.now in
    let r = builds_answer (returns-clause-built g c) in (
      stand_lengths r.0 ∙ (division-bits (edges m c.args.x.now) (edges m c.args.y.now) ∙ length-map c.args.x.now (edge m)),
      stand_lengths r.1 ∙ (division-length (edges m c.args.x.now) (edges m c.args.y.now) (simp length-map c.requires.lengths) ∙ length-map c.args.x.now (edge m)),
    )
