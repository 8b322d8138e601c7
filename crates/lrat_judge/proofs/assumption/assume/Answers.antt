use Rattle.std.proofs.Common.{◌≡◌, ◌+◌, List, drop, length, arith, refl, subst, sym, ◌∙◌, true, false}
use Rattle.std.specs.Prelude.{Some}
use Rattle.std.proofs.lemmas.List.{take_all, drop_all}
use Rattle.sat_form.specs.Literals.{Literal, member}
use Rattle.lrat_judge.specs.Assumed.{rest_of}
use Rattle.lrat_judge.proofs.Hinted.{keeps_more}
use Rattle.lrat_judge.proofs.Assuming.{IsAssumed, skip, assumed, next_is, ends}
use Rattle.lrat_judge.proofs.assumption.assume.Goals as goal

pub loop-lit-init : goal.loop-lit-init
loop-lit-init c = record { rest = λ a same. (a, same, refl, λ x. refl); keeps = take_all (length c.args.marks.now) c.args.marks.now (omega arith) }

pub loop-lit-preserved-then-is_left_out : goal.loop-lit-preserved-then-is_left_out
loop-lit-preserved-then-is_left_out c =
    let e : c.args.left_out ≡ Some c.lit-item.result = c.is_left_out.ensures.yes c.if-is_left_out.true in
    let next = next_is c.args.clause.now c.loop-lit.lit-index c.lit-item.result (omega arith) c.lit-item.is in
    record {
      rest = λ a same. skip c.args.left_out c.loop-lit.marks c.loop-lit.marks a (rest_of c.args.left_out c.args.clause.now) (drop (c.loop-lit.lit-index + 1) c.args.clause.now) c.lit-item.result e
          (subst (λ (d : List Literal). IsAssumed c.args.left_out c.loop-lit.marks a (rest_of c.args.left_out c.args.clause.now) d) next (c.loop-lit.invariant.rest a same));
      keeps = c.loop-lit.invariant.keeps;
    }

pub loop-lit-preserved : goal.loop-lit-preserved
loop-lit-preserved c =
    let e : c.args.left_out ≡ Some c.lit-item.result → ⊥ = λ q. (let t : c.is_left_out.result ≡ true = c.is_left_out.ensures.no q in let f : c.is_left_out.result ≡ false = c.if-is_left_out.false in cc) in
    let next = next_is c.args.clause.now c.loop-lit.lit-index c.lit-item.result (omega arith) c.lit-item.is in
    let untrue : member c.loop-lit.marks c.lit-item.result ≡ false = sym c.is_true.ensures ∙ c.if-is_true.false in
    record {
      rest = λ a same. assumed c.args.left_out c.loop-lit.marks c.falsify.new.self a (rest_of c.args.left_out c.args.clause.now) (drop (c.loop-lit.lit-index + 1) c.args.clause.now) c.lit-item.result e untrue
          c.in_ok-falsify.ensures.more
          (subst (λ (d : List Literal). IsAssumed c.args.left_out c.loop-lit.marks a (rest_of c.args.left_out c.args.clause.now) d) next (c.loop-lit.invariant.rest a same));
      keeps = keeps_more c.args.marks.now c.loop-lit.marks c.falsify.new.self c.loop-lit.invariant.keeps c.in_ok-falsify.ensures.keeps;
    }

pub returns-clause-assumed : goal.returns-clause-assumed
returns-clause-assumed c a same = ends c.args.left_out c.loop-lit.marks a (rest_of c.args.left_out c.args.clause.now) (drop c.loop-lit.lit-index c.args.clause.now) (drop_all c.loop-lit.lit-index c.args.clause.now (omega arith)) (c.loop-lit.invariant.rest a same)
