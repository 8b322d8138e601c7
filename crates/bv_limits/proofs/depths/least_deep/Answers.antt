use Rattle.bv_limits.proofs.Measured.{measure_next, measure_ends}
use Rattle.bv_limits.proofs.depths.least_deep.Goals as goal

pub loop-at-preserved : goal.loop-at-preserved
loop-at-preserved c = measure_next c.args.pieces.now c.loop-at.at c.piece_at-piece.result c.loop-at.parts c.take.new.self c.place.result c.loop-at.least c.note-least.result c.top.result c.piece_at-piece.ensures c.in_ok-take.ensures c.place.ensures c.top.ensures c.note-least.ensures c.loop-at.invariant

pub returns : goal.returns
returns c = measure_ends c.args.pieces.now c.loop-at.at c.loop-at.parts c.loop-at.least c.loop-at-test.false c.loop-at.invariant
