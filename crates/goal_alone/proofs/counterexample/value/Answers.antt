use Rattle.std.proofs.Common.{◌∙◌, ap}
use Rattle.bv_expr.specs.declared.ops.Val.TheVariants.{Vector}
use Rattle.goal_alone.specs.Inputs.{has}
use Rattle.goal_alone.proofs.Numbers.{vector_of}
use Rattle.goal_alone.proofs.counterexample.value.Goals as goal

pub returns-in-Vector : goal.returns-in-Vector
returns-in-Vector c =
    rw c.in-Vector.is (ap Vector c.new.ensures ∙ vector_of (has c.args.inputs.now c.args.variable) c.in-Vector.width c.number.result c.number.ensures)
