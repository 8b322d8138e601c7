use Rattle.std.proofs.Common.{◌≡◌, All, arith, subst, take, refl}
use Rattle.std.proofs.lemmas.List.{take_all}
use Rattle.std.proofs.lemmas.List.Elements.{All-more}
use Rattle.bv_expr.specs.Goal.{MeansTrue}
use Rattle.bv_expr.proofs.goal.all_mean_true.Goals as goal

pub loop-truth-preserved : goal.loop-truth-preserved
loop-truth-preserved c =
    let here : MeansTrue c.args.values.now c.truth-item.result = cc in
    All-more (MeansTrue c.args.values.now) c.args.truths.now c.loop-truth.truth-index c.truth-item.result (omega arith) c.loop-truth.invariant
    (subst (MeansTrue c.args.values.now) c.truth-item.is here)

pub returns : goal.returns
returns c =
    let end : take c.loop-truth.truth-index c.args.truths.now ≡ c.args.truths.now = take_all c.loop-truth.truth-index c.args.truths.now (omega arith) in
    (λ _. subst (All (MeansTrue c.args.values.now)) end c.loop-truth.invariant, λ _. refl)
