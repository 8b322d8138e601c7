use Rattle.std.proofs.Common.{◌≡◌, All, IsTrue, arith, subst, take, refl}
use Rattle.std.proofs.lemmas.List.{take_all}
use Rattle.std.proofs.lemmas.List.Elements.{All-more}
use Rattle.bv_expr.specs.Term.{Term}
use Rattle.bv_expr.specs.Propositional.{is_propositional}
use Rattle.bv_expr.proofs.propositional.are_propositional.Goals as goal

pub loop-term-preserved : goal.loop-term-preserved
loop-term-preserved c =
    let P : Term → Type 0 = λ h. IsTrue (is_propositional h) in
    let here : P c.term-item.result = cc in
    All-more P c.args.terms.now c.loop-term.term-index c.term-item.result (omega arith) c.loop-term.invariant
    (subst P c.term-item.is here)

pub returns : goal.returns
returns c =
    let P : Term → Type 0 = λ h. IsTrue (is_propositional h) in
    let end : take c.loop-term.term-index c.args.terms.now ≡ c.args.terms.now = take_all c.loop-term.term-index c.args.terms.now (omega arith) in
    (λ _. subst (All P) end c.loop-term.invariant, λ _. refl)
