use Rattle.std.proofs.Common.{arith, ◌+◌, Some, get_or, ap, ◌∙◌}
use Rattle.std.proofs.lemmas.Option.{slice_get_within, slice_get-get_or, get_or_from_slice_get}
use Rattle.bv_lex.proofs.Spelled.{one_letter, no_letter}
use Rattle.bv_lex.proofs.signs.stands.Goals as goal
use Rattle.bv_lex.proofs.signs.stands.Goals.{then-at-k-via-then-at-k, then-at-k-via-else-at-k+then-text-at}

pub returns-then-at-k-clause-no_ : goal.returns-then-at-k-clause-no_
returns-then-at-k-clause-no_ c = λ f s.
    let t = no_letter c.args.text.now c.args.word.now c.args.at c.loop-k.k c.loop-k-test.true (c.loop-k.invariant.on s) in
    let inside = slice_get_within c.args.text.now (c.args.at + c.loop-k.k) (get_or c.args.word.now c.loop-k.k 0) t.0 in
    let same = get_or_from_slice_get c.args.text.now (c.args.at + c.loop-k.k) (get_or c.args.word.now c.loop-k.k 0) 0 t.0 in
    elim c.then-at-k.branch [ then-at-k-via-then-at-k w ↦ omega arith | then-at-k-via-else-at-k+then-text-at w ↦ w.if-text-at.true same ]

pub loop-k-preserved : goal.loop-k-preserved
loop-k-preserved c =
    let here = slice_get-get_or c.args.text.now (c.args.at + c.loop-k.k) 0 (omega (arith, c.if-at-k.false)) ∙ ap Some c.if-text-at.false in
    record {
      on = λ s. (no_letter c.args.text.now c.args.word.now c.args.at c.loop-k.k c.loop-k-test.true (c.loop-k.invariant.on s)).1;
      back = λ s. c.loop-k.invariant.back (one_letter c.args.text.now c.args.word.now c.args.at c.loop-k.k c.loop-k-test.true here s);
    }
