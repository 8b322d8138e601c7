use Rattle.std.proofs.Common.{length}
use Rattle.sat_form.proofs.Pieces.{piece_bounds}
use Rattle.lrat_trim.proofs.lines.piece.Goals as goal

pub split_at-requires : goal.split_at-requires
split_at-requires c = (piece_bounds 0 c.args.ends.now (length c.args.ids.now) c.args.at 0 c.requires.ends c.requires.place).1

pub split_at-requires-2 : goal.split_at-requires-2
split_at-requires-2 c =
    rw c.split_at.ensures.front_len (rw c.begin-from.ensures (piece_bounds 0 c.args.ends.now (length c.args.ids.now) c.args.at 0 c.requires.ends c.requires.place).0)
