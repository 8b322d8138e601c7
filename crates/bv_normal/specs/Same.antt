-- When two terms are the same: node by node, with the numbers that the nodes keep.
use Rattle.std.specs.Prelude.{Bool, true, false, ◌&&◌, ◌==◌, not}
use Rattle.bv_value.specs.Bits.{differ}
use Rattle.bv_expr.specs.declared.ops.Unary.{Unary}
use Rattle.bv_expr.specs.declared.ops.Unary.TheVariants as of
use Rattle.bv_expr.specs.declared.ops.Binary.{Binary}
use Rattle.bv_expr.specs.declared.ops.Binary.TheVariants as on
use Rattle.bv_expr.specs.Term.{Term, constant, variable, truth, truth_variable, unary, binary, choice, truth_choice}

-- The same operator on one part, with the same numbers.
unfoldable pub same_unary : Unary → Unary → Bool
same_unary of.Not of.Not = true
same_unary of.Neg of.Neg = true
same_unary of.Msb of.Msb = true
same_unary of.TNot of.TNot = true
same_unary (of.ShlBy m) (of.ShlBy n) = m == n
same_unary (of.LshrBy m) (of.LshrBy n) = m == n
same_unary (of.AshrBy m) (of.AshrBy n) = m == n
same_unary (of.RotL m) (of.RotL n) = m == n
same_unary (of.RotR m) (of.RotR n) = m == n
same_unary (of.Bit m) (of.Bit n) = m == n
same_unary (of.Extract start len) (of.Extract from count) = (start == from) && (len == count)
same_unary (of.SetWidth v) (of.SetWidth w) = v == w
same_unary (of.SignExtend v) (of.SignExtend w) = v == w
same_unary _ _ = false

-- The same operator on two parts.
unfoldable pub same_binary : Binary → Binary → Bool
same_binary on.And on.And = true
same_binary on.Or on.Or = true
same_binary on.Xor on.Xor = true
same_binary on.Add on.Add = true
same_binary on.Sub on.Sub = true
same_binary on.Mul on.Mul = true
same_binary on.Udiv on.Udiv = true
same_binary on.Umod on.Umod = true
same_binary on.Sdiv on.Sdiv = true
same_binary on.Srem on.Srem = true
same_binary on.Smod on.Smod = true
same_binary on.Append on.Append = true
same_binary on.Shl on.Shl = true
same_binary on.Lshr on.Lshr = true
same_binary on.Ashr on.Ashr = true
same_binary on.Eq on.Eq = true
same_binary on.Ult on.Ult = true
same_binary on.Ule on.Ule = true
same_binary on.Slt on.Slt = true
same_binary on.Sle on.Sle = true
same_binary on.TAnd on.TAnd = true
same_binary on.TOr on.TOr = true
same_binary on.TXor on.TXor = true
same_binary on.Implies on.Implies = true
same_binary on.TEq on.TEq = true
same_binary _ _ = false

-- The same term.
unfoldable pub same : Term → Term → Bool
same (constant v) (constant w) = (v.width == w.width) && (v.number == w.number)
same (variable k v) (variable l w) = (k == l) && (v == w)
same (truth a) (truth b) = not (differ a b)
same (truth_variable k) (truth_variable l) = k == l
same (unary op x) (unary p y) = same_unary op p && same x y
same (binary op x y) (binary p v w) = same_binary op p && (same x v && same y w)
same (choice c x y) (choice d v w) = same c d && (same x v && same y w)
same (truth_choice c x y) (truth_choice d v w) = same c d && (same x v && same y w)
same _ _ = false
