use Rattle.std.proofs.Common.{List}
use Rattle.gate_shape.specs.Edge.{Edge}
use Rattle.gate_shape.specs.Row.{each, both}
use Rattle.gate_shape.proofs.Building.{builds_then, builds_exit, builds_answer, stand_self, stand_after, stands_not}
use Rattle.blast_shift.specs.Stages.{variable_shift}
use Rattle.blast_logic.proofs.Wiring.{stand_given, builds_at_list_and_one}
use Rattle.blast_shift.proofs.Staging.{overflow_at}
use Rattle.blast_shift.proofs.stages.variable_shift.Goals as goal

pub returns-in_err-moved : goal.returns-in_err-moved
unfolding variable_shift
returns-in_err-moved g c = builds_exit _ c.from_residual.ensures.1 c.in_err-moved.ensures

pub returns-in_err-over : goal.returns-in_err-over
unfolding variable_shift
returns-in_err-over g c =
    let m = g.B.Builder.meaning c.args.b.now in
    let p = c.in_ok-moved.ensures in
    builds_then _ p (builds_exit _ c.from_residual-in_err-over.ensures.1 (overflow_at m c.args.x.now (stand_after p (stand_self c.requires.right)).stand_for c.in_err-over.ensures))

pub returns : goal.returns
unfolding variable_shift
returns g c =
    let m = g.B.Builder.meaning c.args.b.now in
    let p = c.in_ok-moved.ensures in
    let q = overflow_at m c.args.x.now (stand_after p (stand_self c.requires.right)).stand_for c.in_ok-over.ensures in
    let z = stands_not c.not.ensures (builds_answer q) in
    let moved = stand_given c.deref.ensures.value (stand_after q (builds_answer p)) in
    builds_then _ p (builds_then _ q (builds_at_list_and_one (λ (xs : List Edge) (e : Edge). each (both e) xs) moved z c.masked.ensures))
