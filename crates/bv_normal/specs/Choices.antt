-- Choices that are decided.
use Rattle.std.specs.Prelude.{true, false, Option, Some, None}
use Rattle.bv_expr.specs.Term.{Term, truth, choice, truth_choice}
use Rattle.bv_normal.specs.Same.{same}
use Rattle.bv_normal.specs.Fitting.{Rule, gives}

-- The branch that a constant condition takes, or the branch that equals the other.
abbrev pub chosen : Term → Term → Term → Option Term
chosen (truth true) x y = Some x
chosen (truth false) x y = Some y
chosen c x y = gives (same x y) x

-- If and TIf with a constant condition or equal branches become the branch.
unfoldable pub decided_choice : Rule
decided_choice (choice c x y) = chosen c x y
decided_choice (truth_choice c x y) = chosen c x y
decided_choice _ = None
