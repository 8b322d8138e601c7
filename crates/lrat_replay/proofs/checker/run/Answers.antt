use Rattle.std.proofs.Common.{ℕ, ◌≡◌, ◌+◌, ◌-◌, List, length, ◌∙◌, ap, refl, sym, arith, take, ◌++◌, length-append}
use Rattle.std.proofs.lemmas.List.{length-take-le}
use Rattle.std.specs.Prelude.{Ok, Err}
use Rattle.std.proofs.lemmas.Result.{err_from_is_err_and}
use Rattle.bvd_host.proofs.Caused.{passed_on, spared_ok}
use Rattle.lrat_replay.specs.Standing.{WillAnswer}
use Rattle.lrat_replay.specs.Told.{OfText}
use Rattle.lrat_replay.specs.declared.stop.ReplayStop.TheVariants.{ReadFault, TooLong}
use Rattle.lrat_replay.proofs.Answering.{ended_ok, left_open, memory_outside}
use Rattle.lrat_replay.proofs.Stopping.{passes_more, passes_none}
use Rattle.lrat_replay.proofs.Taking.{took_more, took_none}
use Rattle.lrat_replay.proofs.checker.run.Goals as goal

-- a piece that is written keeps its length
kept_length : (n : ℕ) (xs ys : List ℕ) → length xs ≡ 65536 → n ≡ 65536 → length (take n (xs ++ ys)) ≡ 65536
kept_length n xs ys long same = length-take-le n (xs ++ ys) (let both : length (xs ++ ys) ≡ length xs + length ys = length-append xs ys in omega arith) ∙ same

pub returns-in_err-piece-clause-answers : goal.returns-in_err-piece-clause-answers
returns-in_err-piece-clause-answers g c =
    let p = err_from_is_err_and c.from_residual.result c.from_residual.ensures.1 in
    rw p.1 (λ known. absurd (known (memory_outside p.0 p.2)))

pub returns-in_err-advance-clause-answers : goal.returns-in_err-advance-clause-answers
returns-in_err-advance-clause-answers g c =
    let p = err_from_is_err_and c.from_residual-in_err-advance.result c.from_residual-in_err-advance.ensures.1 in
    rw (p.1, p.2) (λ known. c.pieces.invariant.answers (Err c.in_err-advance.field-0.0) (c.in_err-advance.ensures.answers known))

pub returns-in_err-advance-clause-too_long : goal.returns-in_err-advance-clause-too_long
returns-in_err-advance-clause-too_long g c =
    let p = err_from_is_err_and c.from_residual-in_err-advance.result c.from_residual-in_err-advance.ensures.1 in
    rw (p.1, p.2) (λ long. let same : c.in_err-advance.field-0.0 ≡ TooLong = cc in c.pieces.invariant.room (c.in_err-advance.ensures.too_long (ap Err same)))

pub returns-in_err-advance-clause-cause : goal.returns-in_err-advance-clause-cause
returns-in_err-advance-clause-cause g c =
    let p = err_from_is_err_and c.from_residual-in_err-advance.result c.from_residual-in_err-advance.ensures.1 in
    rw (p.1, p.2) (passed_on ReadFault c.in_err-advance.field-0.0 _ _ _ c.pieces.invariant.faults c.in_err-advance.ensures.cause)

pub returns-then-branch-clause-cause : goal.returns-then-branch-clause-cause
returns-then-branch-clause-cause g c =
    spared_ok ReadFault tt _ _ (c.in_ok-advance.ensures.cause.spared (λ failed. cc) ∙ c.pieces.invariant.faults)

pub returns-then-branch-clause-answers : goal.returns-then-branch-clause-answers
returns-then-branch-clause-answers g c =
    c.pieces.invariant.answers (Ok tt) (ended_ok c.in_ok-advance.field-0
    (λ r. OfText (g.R.Source.left c.pieces.source) (λ text. WillAnswer c.pieces.progress text r))
    (λ r. OfText (g.R.Source.left c.advance.new.source) (λ text. WillAnswer c.advance.new.progress text r)) c.if-branch.true c.in_ok-advance.ensures.answers)

pub pieces-preserved : goal.pieces-preserved
pieces-preserved g c = record {
  bytes = c.in_ok-advance.ensures.bytes c.if-branch.false;
  piece = kept_length c.pieces.piece.len c.advance.new.piece _ (c.advance.auto.piece ∙ ap length c.deref_mut.ensures.value ∙ c.pieces.invariant.piece) (c.pieces.piece.ok.0 ∙ c.pieces.invariant.piece);
  answers = λ r behind. c.pieces.invariant.answers r (left_open c.in_ok-advance.field-0
      (λ r. OfText (g.R.Source.left c.pieces.source) (λ text. WillAnswer c.pieces.progress text r))
      (λ r. OfText (g.R.Source.left c.advance.new.source) (λ text. WillAnswer c.advance.new.progress text r)) c.if-branch.false c.in_ok-advance.ensures.answers r behind);
  within = let less = c.in_ok-advance.ensures.shorter c.if-branch.false in omega (arith, less, c.pieces.invariant.within);
  taken =
      let less = c.in_ok-advance.ensures.shorter c.if-branch.false in
      took_more (g.R.Source.left c.args.source.now) (g.R.Source.left c.pieces.source) (g.R.Source.left c.advance.new.source) (c.args.progress.now.left - c.pieces.progress.left) (c.pieces.progress.left - c.advance.new.progress.left) (c.args.progress.now.left - c.advance.new.progress.left) c.pieces.invariant.taken (c.in_ok-advance.ensures.went c.if-branch.false) (omega (arith, less, c.pieces.invariant.within));
  passed = passes_more (g.R.Source.left c.args.source.now) (g.R.Source.left c.pieces.source) (g.R.Source.left c.advance.new.source) c.args.progress.now c.pieces.progress c.advance.new.progress c.pieces.invariant.passed (c.in_ok-advance.ensures.passed c.if-branch.false);
  room = λ above. c.pieces.invariant.room (c.in_ok-advance.ensures.room c.if-branch.false above);
  faults = c.in_ok-advance.ensures.cause.spared (λ failed. cc) ∙ c.pieces.invariant.faults;
  missing = c.advance.ensures.missing ∙ c.pieces.invariant.missing;
  base = c.advance.ensures.base ∙ c.pieces.invariant.base;
  lender = c.advance.ensures.lender ∙ c.pieces.invariant.lender;
}

pub pieces-init : goal.pieces-init
pieces-init g c = record {
  bytes = c.requires;
  piece = sym c.in_ok-piece.piece.ok.0 ∙ c.in_ok-piece.ensures.len;
  answers = λ r h. h;
  within = omega arith;
  taken = took_none (g.R.Source.left c.args.source.now) (g.R.Source.left c.args.source.now) (c.args.progress.now.left - c.args.progress.now.left) refl;
  passed = passes_none (g.R.Source.left c.args.source.now) c.args.progress.now;
  room = λ above. above;
  faults = refl;
  missing = refl;
  base = refl;
  lender = refl;
}

pub returns-in_err-piece-clause-taken : goal.returns-in_err-piece-clause-taken
returns-in_err-piece-clause-taken g c = took_none (g.R.Source.left c.args.source.now) (g.R.Source.left c.args.source.now) (c.args.progress.now.left + 1) refl

pub returns-in_err-advance-clause-taken : goal.returns-in_err-advance-clause-taken
returns-in_err-advance-clause-taken g c =
    took_more (g.R.Source.left c.args.source.now) (g.R.Source.left c.pieces.source) (g.R.Source.left c.advance.new.source) (c.args.progress.now.left - c.pieces.progress.left) (c.pieces.progress.left + 1) (c.args.progress.now.left + 1) c.pieces.invariant.taken c.advance.ensures.taken (omega (arith, c.pieces.invariant.within))

pub returns-then-branch-clause-taken : goal.returns-then-branch-clause-taken
returns-then-branch-clause-taken g c =
    took_more (g.R.Source.left c.args.source.now) (g.R.Source.left c.pieces.source) (g.R.Source.left c.advance.new.source) (c.args.progress.now.left - c.pieces.progress.left) (c.pieces.progress.left + 1) (c.args.progress.now.left + 1) c.pieces.invariant.taken c.advance.ensures.taken (omega (arith, c.pieces.invariant.within))

pub returns-then-branch-clause-stopped : goal.returns-then-branch-clause-stopped
returns-then-branch-clause-stopped g c _ = (g.R.Source.left c.pieces.source, c.pieces.progress, c.pieces.invariant.passed, c.in_ok-advance.ensures.stopped c.if-branch.true)
