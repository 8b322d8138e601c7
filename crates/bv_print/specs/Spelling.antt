-- How each operator is written in canonical text.
use Rattle.std.specs.Prelude.{ℕ, List, [], ◌∷◌, codes}
use Rattle.bv_expr.specs.declared.ops.Unary.{Unary}
use Rattle.bv_expr.specs.declared.ops.Unary.TheVariants as of
use Rattle.bv_expr.specs.declared.ops.Binary.{Binary}
use Rattle.bv_expr.specs.declared.ops.Binary.TheVariants as on

-- A sign before its part, a sign behind its first part, or a method of its first part.
pub data Form : Type 0 where
  Prefix : List ℕ → Form
  Infix : List ℕ → Form
  Method : List ℕ → Form

-- An operator on one part. One that keeps numbers has them behind its sign or method.
abbrev pub unary_form : Unary → Form
unary_form of.Not = Prefix (codes "~~~")
unary_form of.Neg = Prefix (codes "-")
unary_form of.TNot = Prefix (codes "!")
unary_form of.Msb = Method (codes "msb")
unary_form (of.ShlBy n) = Infix (codes "<<<")
unary_form (of.LshrBy n) = Infix (codes ">>>")
unary_form (of.AshrBy n) = Method (codes "sshiftRight")
unary_form (of.RotL n) = Method (codes "rotateLeft")
unary_form (of.RotR n) = Method (codes "rotateRight")
unary_form (of.Bit i) = Method (codes "getLsbD")
unary_form (of.Extract start len) = Method (codes "extractLsb'")
unary_form (of.SetWidth w) = Method (codes "setWidth")
unary_form (of.SignExtend w) = Method (codes "signExtend")

-- The numbers that an operator keeps: an amount, a bit's place, a start and a length, or a new width.
abbrev pub kept_numbers : Unary → List ℕ
kept_numbers of.Not = []
kept_numbers of.Neg = []
kept_numbers of.TNot = []
kept_numbers of.Msb = []
kept_numbers (of.ShlBy n) = n ∷ []
kept_numbers (of.LshrBy n) = n ∷ []
kept_numbers (of.AshrBy n) = n ∷ []
kept_numbers (of.RotL n) = n ∷ []
kept_numbers (of.RotR n) = n ∷ []
kept_numbers (of.Bit i) = i ∷ []
kept_numbers (of.Extract start len) = start ∷ len ∷ []
kept_numbers (of.SetWidth w) = w ∷ []
kept_numbers (of.SignExtend w) = w ∷ []

-- An operator on two parts.
abbrev pub binary_form : Binary → Form
binary_form on.And = Infix (codes "&&&")
binary_form on.Or = Infix (codes "|||")
binary_form on.Xor = Infix (codes "^^^")
binary_form on.Add = Infix (codes "+")
binary_form on.Sub = Infix (codes "-")
binary_form on.Mul = Infix (codes "*")
binary_form on.Udiv = Infix (codes "/")
binary_form on.Umod = Infix (codes "%")
binary_form on.Sdiv = Method (codes "sdiv")
binary_form on.Srem = Method (codes "srem")
binary_form on.Smod = Method (codes "smod")
binary_form on.Append = Infix (codes "++")
binary_form on.Shl = Infix (codes "<<<")
binary_form on.Lshr = Infix (codes ">>>")
binary_form on.Ashr = Method (codes "sshiftRight'")
binary_form on.Eq = Infix (codes "=")
binary_form on.Ult = Infix (codes "<")
binary_form on.Ule = Infix (codes "<=")
binary_form on.Slt = Method (codes "slt")
binary_form on.Sle = Method (codes "sle")
binary_form on.TAnd = Infix (codes "&&")
binary_form on.TOr = Infix (codes "||")
binary_form on.TXor = Infix (codes "^^")
binary_form on.Implies = Infix (codes "->")
binary_form on.TEq = Infix (codes "=")
