-- The operators, with their levels and bounds.
use Rattle.std.specs.Prelude.{ℕ, Option, Some, None, nat_le, ◌&&◌, if◌then◌else◌}
use Rattle.bv_grammar.specs.declared.words.Word.{Word}
use Rattle.bv_grammar.specs.declared.words.Word.TheVariants as words
use Rattle.bv_grammar.specs.declared.words.Fixity.{Fixity}

-- the level of a prefix operator, at which its operand is read too
abbrev pub prefix_level : Word → Option ℕ
prefix_level words.Complement = Some 100
prefix_level words.Minus = Some 75
prefix_level words.Not = Some 40
prefix_level words.BoolNot = Some 40
prefix_level _ = None

abbrev pub fixity : ℕ → ℕ → ℕ → Option Fixity
fixity p l r = Some (record { level = p; left = l; right = r })

-- an infix operator's level, left bound and right bound
abbrev pub fixity_of : Word → Option Fixity
fixity_of words.ShiftLeft = fixity 75 75 76
fixity_of words.ShiftRight = fixity 75 75 76
fixity_of words.Times = fixity 70 70 71
fixity_of words.Divide = fixity 70 70 71
fixity_of words.Modulo = fixity 70 70 71
fixity_of words.Plus = fixity 65 65 66
fixity_of words.Minus = fixity 65 65 66
fixity_of words.Append = fixity 65 65 66
fixity_of words.BitAnd = fixity 60 60 61
fixity_of words.BitXor = fixity 58 58 59
fixity_of words.BitOr = fixity 55 55 56
fixity_of words.Equal = fixity 50 51 51
fixity_of words.NotEqual = fixity 50 51 51
fixity_of words.BoolEqual = fixity 50 51 51
fixity_of words.BoolNotEqual = fixity 50 51 51
fixity_of words.Less = fixity 50 51 51
fixity_of words.AtMost = fixity 50 51 51
fixity_of words.Greater = fixity 50 51 51
fixity_of words.AtLeast = fixity 50 51 51
fixity_of words.And = fixity 35 35 36
fixity_of words.BoolAnd = fixity 35 35 36
fixity_of words.BoolXor = fixity 33 33 34
fixity_of words.Or = fixity 30 30 31
fixity_of words.BoolOr = fixity 30 30 31
fixity_of words.Implies = fixity 25 26 25
fixity_of words.Iff = fixity 20 21 21
fixity_of _ = None

-- the operator, where it has level at least p and its left bound is at most l
abbrev pub when_fits : ℕ → ℕ → Option Fixity → Option Fixity
when_fits p l None = None
when_fits p l (Some o) = if nat_le p o.level && nat_le o.left l then Some o else None
