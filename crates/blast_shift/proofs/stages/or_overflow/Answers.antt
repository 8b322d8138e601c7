use Rattle.std.proofs.Common.{◌∙◌, sym}
use Rattle.gate_shape.proofs.Building.{builds_plain, stands_self}
use Rattle.gate_shape.specs.Builds.{edge}
use Rattle.blast_shift.proofs.Staging.{or_overflow-within, or_overflow-beyond}
use Rattle.blast_shift.proofs.stages.or_overflow.Goals as goal

pub returns-then-is_below : goal.returns-then-is_below
returns-then-is_below g c =
    let m = g.B.Builder.meaning c.args.b.now in
    rw (← or_overflow-within c.args.width (edge m c.args.over) c.args.k (edge m c.args.y) (sym c.is_below.ensures.value ∙ c.if-is_below.true)) (builds_plain (stands_self c.requires.left))

pub returns-else-is_below : goal.returns-else-is_below
returns-else-is_below g c =
    let m = g.B.Builder.meaning c.args.b.now in
    rw (← or_overflow-beyond c.args.width (edge m c.args.over) c.args.k (edge m c.args.y) (sym c.is_below.ensures.value ∙ c.if-is_below.false)) c.or2.ensures
