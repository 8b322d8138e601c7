use Rattle.std.proofs.Common.{◌∙◌}
use Rattle.bv_normal.proofs.Normalising.{unary_ready, binary_ready, choice_of_ready}
use Rattle.bv_normal.proofs.terms.+normalised.Goals as goal

pub normalised-unary_step-requires : goal.normalised-unary_step-requires
normalised-unary_step-requires t c =
    rw (c.in_ok-part-in-Unary.ensures, c.into_inner.ensures) (unary_ready c.args.expr c.in-Unary.op c.in-Unary.x.value (c.in-Unary.ensures ∙ c.into_node.ensures) c.has_parts.ensures.expr)

pub normalised-binary_step-requires : goal.normalised-binary_step-requires
normalised-binary_step-requires t c =
    rw (c.in_ok-left-in-Binary.ensures.left, c.in_ok-left-in-Binary.ensures.right)
    (binary_ready c.args.expr c.in-Binary.op c.in-Binary.x.value c.in-Binary.y.value (c.in-Binary.ensures ∙ c.into_node.ensures) c.has_parts.ensures.expr)

pub normalised-choice_step-requires : goal.normalised-choice_step-requires
normalised-choice_step-requires t c =
    rw (c.in_ok-test-in-Choice.ensures, c.into_inner-in-Choice.ensures, c.in_ok-yes-in-Choice.ensures.left, c.in_ok-yes-in-Choice.ensures.right)
    (choice_of_ready c.args.expr c.in-Choice.truths c.in-Choice.c.value c.in-Choice.x.value c.in-Choice.y.value (c.in-Choice.ensures ∙ c.into_node.ensures) c.has_parts.ensures.expr)
