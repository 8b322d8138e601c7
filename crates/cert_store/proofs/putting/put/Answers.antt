use Rattle.std.proofs.Common.{◌∙◌, arith, refl}
use Rattle.cert_store.proofs.Pieces.{piece_more, piece_within, there}
use Rattle.cert_store.proofs.putting.put.Goals as goal

pub pieces-preserved : goal.pieces-preserved
pieces-preserved g c = record {
  files = piece_more (g.K.Keeper.files c.args.keeper.now) _ _ c.args.name.now c.args.text.now c.pieces.at c.in_ok-at.field-0 _ _ c.pieces.invariant.files c.in_ok-at.ensures.ok refl c.in_ok-at.ensures.count.most;
  most = piece_within c.args.text.now c.pieces.at c.in_ok-at.field-0 _ _ (omega arith) refl c.in_ok-at.ensures.count.most;
  faults = c.in_ok-at.ensures.cause.spared (λ failed. cc) ∙ c.pieces.invariant.faults;
  missing = c.add_piece.ensures.missing ∙ c.pieces.invariant.missing;
}

pub add_piece-requires : goal.add_piece-requires
add_piece-requires g c = there (g.K.Keeper.files c.args.keeper.now) _ c.args.name.now _ c.pieces.invariant.files
