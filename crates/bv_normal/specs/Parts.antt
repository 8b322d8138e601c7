-- The term that a node's parts stand for.
use Rattle.std.specs.Prelude.{Bool, true, false}
use Rattle.bv_expr.specs.Term.{Term, unary, binary, choice, truth_choice}
use Rattle.bv_normal.specs.declared.parts.Parts.{Parts}
use Rattle.bv_normal.specs.declared.parts.Parts.TheVariants as p

-- A choice between truths or vectors.
abbrev pub choice_of : Bool → Term → Term → Term → Term
choice_of true c x y = truth_choice c x y
choice_of false c x y = choice c x y

abbrev pub parts_term : Parts → Term
parts_term (p.Unary op x) = unary op x.value
parts_term (p.Binary op x y) = binary op x.value y.value
parts_term (p.Choice truths c x y) = choice_of truths c.value x.value y.value
