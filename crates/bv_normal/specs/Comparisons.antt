-- Comparisons of equal parts.
use Rattle.std.specs.Prelude.{true, false, List, [], ◌∷◌, None}
use Rattle.bv_expr.specs.declared.ops.Binary.TheVariants as on
use Rattle.bv_expr.specs.Term.{binary, truth}
use Rattle.bv_normal.specs.Same.{same}
use Rattle.bv_normal.specs.Fitting.{Rule, gives}

-- Eq, Ule, Sle and TEq of equal parts become true.
unfoldable pub equal_holds : Rule
equal_holds (binary on.Eq x y) = gives (same x y) (truth true)
equal_holds (binary on.Ule x y) = gives (same x y) (truth true)
equal_holds (binary on.Sle x y) = gives (same x y) (truth true)
equal_holds (binary on.TEq x y) = gives (same x y) (truth true)
equal_holds _ = None

-- Ult, Slt and TXor of equal parts become false.
unfoldable pub equal_fails : Rule
equal_fails (binary on.Ult x y) = gives (same x y) (truth false)
equal_fails (binary on.Slt x y) = gives (same x y) (truth false)
equal_fails (binary on.TXor x y) = gives (same x y) (truth false)
equal_fails _ = None

abbrev pub comparison_rules : List Rule
comparison_rules = equal_holds ∷ equal_fails ∷ []
