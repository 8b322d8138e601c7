use Rattle.std.proofs.Common.{◌<◌, ◌^◌}
use Rattle.bv_print.proofs.Digits.{digits_hold}
use Rattle.bv_print.proofs.values.push_vector.Goals as goal

pub push_hex-requires : goal.push_hex-requires
push_hex-requires c =
    let below : c.number.result < 2 ^ c.width-width.result = rw (c.width-width.ensures.value, c.number.ensures.value) c.number.ensures.vector.below in
    digits_hold c.width-width.result c.number.result below
