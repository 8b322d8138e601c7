use Rattle.std.proofs.Common.{take}
use Rattle.std.specs.Prelude.{All, IsTrue}
use Rattle.bv_expr.specs.Propositional.{is_propositional}
use Rattle.bv_expr.proofs.propositional.are_propositional.Given as goal

abbrev pub invariant-loop-term : goal.invariant-loop-term
invariant-loop-term l = All (λ h. IsTrue (is_propositional h)) (take l.term-index l.terms)
