use Rattle.std.proofs.Common.{arith}
use Rattle.bv_lex.proofs.Passing.{place_step}
use Rattle.bv_lex.proofs.places.place_at.Goals as goal

pub loop-at-preserved : goal.loop-at-preserved
loop-at-preserved c = place_step c.args.bytes.now c.loop-at.at c.loop-at.place c.past_byte-place.result (omega arith) c.loop-at.invariant c.past_byte-place.ensures
