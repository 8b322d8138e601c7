-- Goals of truths alone: constants and variables that are truths, and not, and, or, exclusive or and equality of truths.
use Rattle.std.specs.Prelude.{Bool, true, false, ◌&&◌, IsTrue, List, All}
use Rattle.bv_expr.specs.declared.ops.Unary.{Unary}
use Rattle.bv_expr.specs.declared.ops.Unary.TheVariants as of
use Rattle.bv_expr.specs.declared.ops.Binary.{Binary}
use Rattle.bv_expr.specs.declared.ops.Binary.TheVariants as on
use Rattle.bv_expr.specs.Term.{Term, constant, variable, truth, truth_variable, unary, binary, choice, truth_choice}

unfoldable pub is_not : Unary → Bool
is_not of.TNot = true
is_not _ = false

unfoldable pub is_connective : Binary → Bool
is_connective on.TAnd = true
is_connective on.TOr = true
is_connective on.TXor = true
is_connective on.TEq = true
is_connective _ = false

-- Are all nodes of the term such ones?
unfoldable pub is_propositional : Term → Bool
is_propositional (truth b) = true
is_propositional (truth_variable k) = true
is_propositional (unary op x) = is_not op && is_propositional x
is_propositional (binary op x y) = is_connective op && (is_propositional x && is_propositional y)
is_propositional (constant v) = false
is_propositional (variable k w) = false
is_propositional (choice c x y) = false
is_propositional (truth_choice c x y) = false

-- All hypotheses and the conclusion are such terms.
pub record IsPropositional (hyps : List Term) (concl : Term) : Type 0 where
  pub hyps_are : All (λ h. IsTrue (is_propositional h)) hyps
  pub concl_is : IsTrue (is_propositional concl)
