use Rattle.std.proofs.Common.{◌∙◌, arith}
use Rattle.bvd_top.proofs.Written.{piece_written}
use Rattle.bvd_top.proofs.telling.tell.Goals as goal

pub pieces-preserved : goal.pieces-preserved
pieces-preserved g c = record {
  written = piece_written (g.S.Sink.written c.args.out.now) _ _ c.args.text.now c.pieces.at c.in_ok-at.field-0 c.pieces.invariant.written c.in_ok-at.ensures.ok;
  most = omega (arith, c.in_ok-at.ensures.within);
  faults = c.in_ok-at.ensures.cause.spared (λ failed. cc) ∙ c.pieces.invariant.faults;
}
