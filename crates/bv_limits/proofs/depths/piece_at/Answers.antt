use Rattle.std.proofs.lemmas.Option.{slice_get-get_or}
use Rattle.bv_limits.proofs.depths.piece_at.Goals as goal

pub returns : goal.returns
returns c = slice_get-get_or c.args.pieces.now c.args.at _ c.requires
