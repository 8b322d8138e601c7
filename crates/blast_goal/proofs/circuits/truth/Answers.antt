use Rattle.gate_shape.proofs.Building.{builds_exit, builds_then, builds_plain, builds_answer}
use Rattle.blast_logic.proofs.Wiring.{stand_given}
use Rattle.blast_goal.specs.Circuit.{truth_row}
use Rattle.blast_goal.proofs.Meaning.{expr_positive}
use Rattle.blast_goal.proofs.Rows.{long_as, stands_first}
use Rattle.blast_goal.proofs.circuits.truth.Goals as goal

pub returns-in_err-bits-clause-built : goal.returns-in_err-bits-clause-built
unfolding truth_row
returns-in_err-bits-clause-built g c = builds_exit _ c.from_residual.ensures.1 c.in_err-bits.ensures.built

pub first-requires : goal.first-requires
first-requires g c = long_as c.deref.ensures.value (builds_answer c.in_ok-bits.ensures.built) (expr_positive _ c.in_ok-bits.ensures.expr)

pub returns-clause-built : goal.returns-clause-built
unfolding truth_row
returns-clause-built g c =
    let p = c.in_ok-bits.ensures.built in
    let long = long_as c.deref.ensures.value (builds_answer p) (expr_positive _ c.in_ok-bits.ensures.expr) in
    builds_then _ p (builds_plain (stands_first (stand_given c.deref.ensures.value (builds_answer p)) long (c.first.ensures _)))
