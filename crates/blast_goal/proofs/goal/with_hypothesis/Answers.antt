use Rattle.gate_shape.specs.Row.{both}
use Rattle.gate_shape.proofs.Building.{builds_exit, builds_then, builds_at_two, stands_self, stands_answer, stands_after}
use Rattle.blast_goal.specs.Circuit.{and_hypothesis}
use Rattle.blast_goal.proofs.goal.with_hypothesis.Goals as goal

pub returns-in_err-c-clause-built : goal.returns-in_err-c-clause-built
unfolding and_hypothesis
returns-in_err-c-clause-built g c = builds_exit _ c.from_residual.ensures.1 c.in_err-c.ensures.built

pub returns-clause-built : goal.returns-clause-built
unfolding and_hypothesis
returns-clause-built g c =
    let p = c.in_ok-c.ensures.built in
    builds_then _ p (builds_at_two both (stands_after p (stands_self c.requires)) (stands_answer p) c.and.ensures.built)
