-- Constant parts, and operators that undo each other.
use Rattle.std.specs.Prelude.{Bool, true, false, ◌&&◌, [], None}
use Rattle.bv_expr.specs.declared.ops.Unary.{Unary}
use Rattle.bv_expr.specs.declared.ops.Unary.TheVariants as of
use Rattle.bv_expr.specs.Term.{Term, unary, binary, choice, truth_choice}
use Rattle.bv_expr.specs.Meaning.{meaning}
use Rattle.bv_normal.specs.Constants.{literal, is_constant}
use Rattle.bv_normal.specs.Fitting.{Rule, gives}

-- A node with parts.
abbrev pub has_parts : Term → Bool
has_parts (unary op x) = true
has_parts (binary op x y) = true
has_parts (choice c x y) = true
has_parts (truth_choice c x y) = true
has_parts _ = false

-- A node with parts, all of them constants.
abbrev pub has_constant_parts : Term → Bool
has_constant_parts (unary op x) = is_constant x
has_constant_parts (binary op x y) = is_constant x && is_constant y
has_constant_parts (choice c x y) = is_constant c && (is_constant x && is_constant y)
has_constant_parts (truth_choice c x y) = is_constant c && (is_constant x && is_constant y)
has_constant_parts _ = false

-- It becomes its value.
unfoldable pub constant_parts : Rule
constant_parts t = gives (has_constant_parts t) (literal (meaning t []))

-- Two equal operators that undo each other.
abbrev pub cancels : Unary → Unary → Bool
cancels of.Not of.Not = true
cancels of.TNot of.TNot = true
cancels of.Neg of.Neg = true
cancels _ _ = false

-- Not(Not x), TNot(TNot a) and Neg(Neg x) become the inner part.
unfoldable pub undone : Rule
undone (unary op (unary p x)) = gives (cancels op p) x
undone _ = None
