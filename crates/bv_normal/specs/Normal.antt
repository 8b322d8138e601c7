-- The normal form: parts first, left to right, then the first rule that fits, once at each node.
use Rattle.std.specs.Prelude.{◌≡◌, List, [], ◌∷◌, Option, Some, None, All}
use Rattle.bv_expr.specs.declared.ops.Val.{Val}
use Rattle.bv_expr.specs.Term.{Term, constant, variable, truth, truth_variable, unary, binary, choice, truth_choice}
use Rattle.bv_expr.specs.Meaning.{meaning, HasValues}
use Rattle.bv_expr.specs.Goal.{IsValue}
use Rattle.bv_normal.specs.Fitting.{Rule, first_fit}
use Rattle.bv_normal.specs.Folding.{constant_parts, undone}
use Rattle.bv_normal.specs.Operands.{equal_cancelled, zero_dropped, zero_kept, one_dropped, ones_kept, equal_joined}
use Rattle.bv_normal.specs.Comparisons.{equal_holds, equal_fails}
use Rattle.bv_normal.specs.Shifts.{shift_by_constant, shift_by_nothing, shift_past_width}
use Rattle.bv_normal.specs.Choices.{decided_choice}
use Rattle.bv_normal.specs.Quotients.{product_by_power, division_by_zero, division_by_one, division_by_power}
use Rattle.bv_normal.specs.Widths.{same_width}

-- The rules in their order.
abbrev pub rules : List Rule
rules =
    constant_parts ∷ undone ∷ equal_cancelled ∷ zero_dropped ∷ zero_kept ∷ one_dropped ∷ ones_kept ∷ equal_joined
    ∷ equal_holds ∷ equal_fails ∷ shift_by_constant ∷ shift_by_nothing ∷ shift_past_width ∷ decided_choice
    ∷ product_by_power ∷ division_by_zero ∷ division_by_one ∷ division_by_power ∷ same_width ∷ []

abbrev pub or_itself : Option Term → Term → Term
or_itself (Some u) t = u
or_itself None t = t

-- What the first rule that fits makes of a node, or the node itself.
unfoldable pub rewritten : Term → Term
rewritten t = or_itself (first_fit rules t) t

-- The normal form of a term.
unfoldable pub normal : Term → Term
normal (constant v) = rewritten (constant v)
normal (variable k w) = rewritten (variable k w)
normal (truth b) = rewritten (truth b)
normal (truth_variable k) = rewritten (truth_variable k)
normal (unary op x) = rewritten (unary op (normal x))
normal (binary op x y) = rewritten (binary op (normal x) (normal y))
normal (choice c x y) = rewritten (choice (normal c) (normal x) (normal y))
normal (truth_choice c x y) = rewritten (truth_choice (normal c) (normal x) (normal y))

-- Wherever the first term has values for its variables, the second has them, and means the same.
abbrev pub MeansTheSame : Term → Term → Type 0
MeansTheSame t u = (values : List Val) → All IsValue values → HasValues values t → HasValues values u × (meaning u values ≡ meaning t values)
