use Rattle.std.proofs.Common.{arith, refl}
use Rattle.bv_lex.proofs.Nesting.{on_open, from_open, on_close_of, from_close_of, ends_there, on_other, from_other, nothing_left}
use Rattle.bv_lex.proofs.comments.comment_end.Goals as goal

pub loop-i-preserved-then-is_pair : goal.loop-i-preserved-then-is_pair
loop-i-preserved-then-is_pair c =
    let inv = c.loop-i.invariant in
    let s = (c.if-is_pair.ensures.yes refl).0 in
    record {
      deep = omega arith;
      counted = omega (arith, inv.counted);
      on = λ j r. on_open s inv.deep (inv.on j r);
      back = λ j r. inv.back j (from_open s inv.deep r);
    }

pub returns-then-depth-eq0-clause-closed : goal.returns-then-depth-eq0-clause-closed
returns-then-depth-eq0-clause-closed c =
    let inv = c.loop-i.invariant in
    inv.back _ (from_close_of (c.if-is_pair-2.ensures.yes refl).0 inv.deep (ends_there _ _ c.if-depth-eq0.true))

pub loop-i-preserved-else-depth-eq0 : goal.loop-i-preserved-else-depth-eq0
loop-i-preserved-else-depth-eq0 c =
    let inv = c.loop-i.invariant in
    let s = (c.if-is_pair-2.ensures.yes refl).0 in
    record {
      deep = omega (arith, c.if-depth-eq0.false);
      counted = omega (arith, inv.counted);
      on = λ j r. on_close_of s inv.deep (inv.on j r);
      back = λ j r. inv.back j (from_close_of s inv.deep r);
    }

pub loop-i-preserved : goal.loop-i-preserved
loop-i-preserved c =
    let inv = c.loop-i.invariant in
    let a = c.if-is_pair.ensures.no_ refl in
    let b = c.if-is_pair-2.ensures.no_ refl in
    record {
      deep = inv.deep;
      counted = omega (arith, inv.counted);
      on = λ j r. on_other a b inv.deep (inv.on j r);
      back = λ j r. inv.back j (from_other c.loop-i-test.true a b inv.deep r);
    }

pub returns-clause-open_ : goal.returns-clause-open_
returns-clause-open_ c = λ j r. nothing_left c.loop-i-test.false c.loop-i.invariant.deep (c.loop-i.invariant.on j r)
