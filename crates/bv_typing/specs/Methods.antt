-- The names of methods.
use Rattle.std.specs.Prelude.{ℕ, List, [], ◌∷◌, Option, Some, None, codes, bytes_eq, if◌then◌else◌}
use Rattle.bv_expr.specs.declared.ops.Binary.TheVariants as on
use Rattle.bv_typing.specs.declared.method.Method.{Method}
use Rattle.bv_typing.specs.declared.method.Method.TheVariants.{Msb, With, ArithmeticShift, By, Extract, ExtractBetween}
use Rattle.bv_typing.specs.declared.method.Numbered.TheVariants as numbered

abbrev pub methods : List (List ℕ × Method)
methods =
    (codes "udiv", With on.Udiv) ∷ (codes "umod", With on.Umod) ∷ (codes "sdiv", With on.Sdiv) ∷ (codes "srem", With on.Srem)
    ∷ (codes "smod", With on.Smod) ∷ (codes "ult", With on.Ult) ∷ (codes "ule", With on.Ule) ∷ (codes "slt", With on.Slt)
    ∷ (codes "sle", With on.Sle) ∷ (codes "sshiftRight'", ArithmeticShift) ∷ (codes "sshiftRight", By numbered.AshrBy)
    ∷ (codes "rotateLeft", By numbered.RotL) ∷ (codes "rotateRight", By numbered.RotR) ∷ (codes "getLsbD", By numbered.Bit)
    ∷ (codes "setWidth", By numbered.SetWidth) ∷ (codes "zeroExtend", By numbered.SetWidth) ∷ (codes "truncate", By numbered.SetWidth)
    ∷ (codes "signExtend", By numbered.SignExtend) ∷ (codes "extractLsb'", Extract) ∷ (codes "extractLsb", ExtractBetween)
    ∷ (codes "msb", Msb) ∷ []

abbrev pub listed : List ℕ → List (List ℕ × Method) → Option Method
listed name [] = None
listed name (m ∷ ms) = if bytes_eq m.0 name then Some m.1 else listed name ms

-- the method of a name
abbrev pub method_of : List ℕ → Option Method
method_of name = listed name methods
