-- The terms that rewrites of operands stand for.
use Rattle.std.specs.Prelude.{Bool, true, false}
use Rattle.bv_expr.specs.declared.ops.Binary.TheVariants as on
use Rattle.bv_expr.specs.Term.{Term, truth, unary, binary}
use Rattle.bv_normal.specs.declared.rewrites.Rewrite.{Rewrite}
use Rattle.bv_normal.specs.declared.rewrites.Rewrite.TheVariants as into
use Rattle.bv_normal.specs.declared.rewrites.Operand.{Operand}
use Rattle.bv_normal.specs.declared.rewrites.Operand.TheVariants as of
use Rattle.bv_normal.specs.Constants.{number_like}

-- A node with one part.
abbrev pub has_one_part : Term → Bool
has_one_part (unary op x) = true
has_one_part _ = false

-- Its part.
abbrev pub part : Term → Term
part (unary op x) = x
part t = t

abbrev pub of_one : Term → Rewrite → Term
of_one x (into.Truth b) = truth b
of_one x (into.Number n) = number_like x n
of_one x into.Itself = x
of_one x into.Part = part x
of_one x (into.Under op) = unary op x
of_one x (into.Masked n) = binary on.And x (number_like x n)

abbrev pub of_two : Term → Term → Operand → Term
of_two x y (of.Left r) = of_one x r
of_two x y (of.Right r) = of_one y r
