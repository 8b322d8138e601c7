-- Operands that are 0, 1, all ones, or equal.
use Rattle.std.specs.Prelude.{List, [], ◌∷◌, None}
use Rattle.bv_expr.specs.declared.ops.Binary.TheVariants as on
use Rattle.bv_expr.specs.Term.{binary}
use Rattle.bv_normal.specs.Same.{same}
use Rattle.bv_normal.specs.Constants.{is_number, is_all_ones, number_like}
use Rattle.bv_normal.specs.Fitting.{Rule, gives, beside, the_one}

-- Sub(x, x) and Xor(x, x) become 0.
unfoldable pub equal_cancelled : Rule
equal_cancelled (binary on.Sub x y) = gives (same x y) (number_like x 0)
equal_cancelled (binary on.Xor x y) = gives (same x y) (number_like x 0)
equal_cancelled _ = None

-- Add, Or and Xor with 0 on either side, and Sub(x, 0), become x.
unfoldable pub zero_dropped : Rule
zero_dropped (binary on.Add x y) = beside (is_number 0) x y
zero_dropped (binary on.Or x y) = beside (is_number 0) x y
zero_dropped (binary on.Xor x y) = beside (is_number 0) x y
zero_dropped (binary on.Sub x y) = gives (is_number 0 y) x
zero_dropped _ = None

-- And and Mul with 0 on either side become that 0.
unfoldable pub zero_kept : Rule
zero_kept (binary on.And x y) = the_one (is_number 0) x y
zero_kept (binary on.Mul x y) = the_one (is_number 0) x y
zero_kept _ = None

-- And with all ones, and Mul with 1, on either side, become x.
unfoldable pub one_dropped : Rule
one_dropped (binary on.And x y) = beside is_all_ones x y
one_dropped (binary on.Mul x y) = beside (is_number 1) x y
one_dropped _ = None

-- Or with all ones on either side becomes those ones.
unfoldable pub ones_kept : Rule
ones_kept (binary on.Or x y) = the_one is_all_ones x y
ones_kept _ = None

-- And(x, x) and Or(x, x) become x.
unfoldable pub equal_joined : Rule
equal_joined (binary on.And x y) = gives (same x y) x
equal_joined (binary on.Or x y) = gives (same x y) x
equal_joined _ = None

abbrev pub operand_rules : List Rule
operand_rules = equal_cancelled ∷ zero_dropped ∷ zero_kept ∷ one_dropped ∷ ones_kept ∷ equal_joined ∷ []
