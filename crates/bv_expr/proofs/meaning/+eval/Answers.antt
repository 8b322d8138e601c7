use Rattle.std.proofs.Common.{◌∙◌}
use Rattle.bv_expr.proofs.Sorted.{unary_fits_at, binary_fits_at}
use Rattle.bv_expr.proofs.meaning.+eval.Goals as goal

pub unary_value-requires : goal.unary_value-requires
unary_value-requires t c =
    rw c.eval.ensures (unary_fits_at c.args.expr.now c.in-Unary.op c.in-Unary.x.now c.args.env.now (c.in-Unary.ensures ∙ c.node.ensures.tree) c.node.ensures.expr c.requires)

pub binary_value-requires : goal.binary_value-requires
binary_value-requires t c =
    rw (c.eval-in-Binary.ensures, c.eval-in-Binary-2.ensures)
    (binary_fits_at c.args.expr.now c.in-Binary.op c.in-Binary.x.now c.in-Binary.y.now c.args.env.now (c.in-Binary.ensures ∙ c.node.ensures.tree) c.node.ensures.expr c.requires)
