use Rattle.std.proofs.Common.{◌+◌, length, length-set, slice_set, true, arith}
use Rattle.lrat_trim.proofs.Marking.{earlier_more}
use Rattle.lrat_trim.proofs.needed.mark_needed.Goals as goal

pub mark_all-requires : goal.mark_all-requires
mark_all-requires c =
    let at = c.requires.at in
    let size = length-set c.args.marks.now c.args.at true in
    earlier_more (c.args.inputs + 1 + c.args.at) (c.args.inputs + 1 + length (slice_set c.args.marks.now c.args.at true)) c.args.hints.now (omega arith) c.requires.earlier
