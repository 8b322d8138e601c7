use Rattle.std.proofs.Common.{◌≡◌, inr, length, subst, ap, arith}
use Rattle.bv_lex.specs.Cut.{utf8_front, Stops}
use Rattle.bv_lex.specs.Fronts.{IsCutOff}
use Rattle.bv_lex.proofs.Bounds.{ahead, within}
use Rattle.bv_lex.proofs.Kept.{kept_on, stopped, ended, whole_cut, spans, rise}
use Rattle.bv_lex.proofs.cutting.lex.Goals as goal

pub returns-in-Err-clause-fault : goal.returns-in-Err-clause-fault
returns-in-Err-clause-fault c =
    let stops = subst (λ t. Stops t c.loop-at.at c.in-Err.kind) c.utf8_front-text.ensures.front c.in-Err.ensures.fault in
    inr (stopped c.args.bytes.now c.loop-at.at c.in-Err.kind c.loop-at.place c.loop-at.tokens.items c.loop-at.invariant.before (omega (arith, c.loop-at-test.true, c.utf8_front-text.ensures.within)) c.loop-at.invariant.placed stops)

pub place_at-place-requires-clause-order : goal.place_at-place-requires-clause-order
place_at-place-requires-clause-order c =
    let lt = ahead c.utf8_front-text.result.now c.loop-at.at c.in-Ok.piece.to c.in-Ok.piece.kind c.in-Ok.ensures.front.front.piece in omega arith

pub place_at-place-requires-clause-within : goal.place_at-place-requires-clause-within
place_at-place-requires-clause-within c =
    let le = within c.utf8_front-text.result.now c.loop-at.at c.in-Ok.piece.to c.in-Ok.piece.kind c.in-Ok.ensures.front.front.piece in omega (arith, c.utf8_front-text.ensures.within)

pub loop-at-smaller : goal.loop-at-smaller
loop-at-smaller c =
    let lt = ahead c.utf8_front-text.result.now c.loop-at.at c.in-Ok.piece.to c.in-Ok.piece.kind c.in-Ok.ensures.front.front.piece in
    let le = within c.utf8_front-text.result.now c.loop-at.at c.in-Ok.piece.to c.in-Ok.piece.kind c.in-Ok.ensures.front.front.piece in
    omega arith

pub loop-at-preserved : goal.loop-at-preserved
loop-at-preserved c =
    let cut = subst (λ t. IsCutOff t c.in-Ok.piece.kind c.loop-at.at c.in-Ok.piece.to) c.utf8_front-text.ensures.front c.in-Ok.ensures.front in
    record {
      within = within c.utf8_front-text.result.now c.loop-at.at c.in-Ok.piece.to c.in-Ok.piece.kind c.in-Ok.ensures.front.front.piece;
      placed = c.place_at-place.ensures;
      before = kept_on c.args.bytes.now c.in-Ok.piece.kind c.loop-at.at c.in-Ok.piece.to c.loop-at.place c.loop-at.tokens.items c.keep.new.tokens.items c.loop-at.invariant.before cut c.loop-at.invariant.placed c.in_ok-keep.ensures;
    }

pub returns-then-at-bytes-clause-fault : goal.returns-then-at-bytes-clause-fault
returns-then-at-bytes-clause-fault c =
    let size : length c.utf8_front-text.result.now ≡ length (utf8_front c.args.bytes.now) = ap length c.utf8_front-text.ensures.front in
    inr (ended c.args.bytes.now c.loop-at.at c.loop-at.place c.loop-at.tokens.items c.loop-at.invariant.before c.if-at-bytes.true c.loop-at.invariant.placed (omega (arith, size, c.loop-at-test.false)))

pub returns-clause-ok : goal.returns-clause-ok
returns-clause-ok c =
    let end : c.loop-at.at ≡ length c.args.bytes.now = omega (arith, c.if-at-bytes.false, c.loop-at.invariant.within, c.utf8_front-text.ensures.within) in
    whole_cut c.args.bytes.now c.loop-at.at c.loop-at.tokens.items c.loop-at.invariant.before end

pub returns-clause-spans : goal.returns-clause-spans
returns-clause-spans c =
    let end : c.loop-at.at ≡ length c.args.bytes.now = omega (arith, c.if-at-bytes.false, c.loop-at.invariant.within, c.utf8_front-text.ensures.within) in
    spans c.args.bytes.now c.loop-at.tokens.items (whole_cut c.args.bytes.now c.loop-at.at c.loop-at.tokens.items c.loop-at.invariant.before end)

pub returns-clause-rise : goal.returns-clause-rise
returns-clause-rise c =
    let end : c.loop-at.at ≡ length c.args.bytes.now = omega (arith, c.if-at-bytes.false, c.loop-at.invariant.within, c.utf8_front-text.ensures.within) in
    rise c.args.bytes.now c.loop-at.tokens.items (whole_cut c.args.bytes.now c.loop-at.at c.loop-at.tokens.items c.loop-at.invariant.before end)
