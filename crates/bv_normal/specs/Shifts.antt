-- Shifts and rotations.
use Rattle.std.specs.Prelude.{◌%◌, ◌==◌, nat_le, None, option_map}
use Rattle.bv_expr.specs.declared.ops.Unary.TheVariants as of
use Rattle.bv_expr.specs.declared.ops.Binary.TheVariants as on
use Rattle.bv_expr.specs.Term.{unary, binary}
use Rattle.bv_normal.specs.Constants.{number, width, number_like}
use Rattle.bv_normal.specs.Fitting.{Rule, gives}

-- Shl, Lshr and Ashr by a constant become the shift by its number.
unfoldable pub shift_by_constant : Rule
shift_by_constant (binary on.Shl x y) = option_map (λ n. unary (of.ShlBy n) x) (number y)
shift_by_constant (binary on.Lshr x y) = option_map (λ n. unary (of.LshrBy n) x) (number y)
shift_by_constant (binary on.Ashr x y) = option_map (λ n. unary (of.AshrBy n) x) (number y)
shift_by_constant _ = None

-- ShlBy, LshrBy and AshrBy 0, and RotL and RotR by a multiple of the width, become x.
unfoldable pub shift_by_nothing : Rule
shift_by_nothing (unary (of.ShlBy n) x) = gives (n == 0) x
shift_by_nothing (unary (of.LshrBy n) x) = gives (n == 0) x
shift_by_nothing (unary (of.AshrBy n) x) = gives (n == 0) x
shift_by_nothing (unary (of.RotL n) x) = gives (n % width x == 0) x
shift_by_nothing (unary (of.RotR n) x) = gives (n % width x == 0) x
shift_by_nothing _ = None

-- ShlBy and LshrBy by at least the width become 0.
unfoldable pub shift_past_width : Rule
shift_past_width (unary (of.ShlBy n) x) = gives (nat_le (width x) n) (number_like x 0)
shift_past_width (unary (of.LshrBy n) x) = gives (nat_le (width x) n) (number_like x 0)
shift_past_width _ = None
