use Rattle.std.proofs.Common.{◌≡◌, ◌+◌, All, arith, subst, take, map}
use Rattle.std.proofs.lemmas.Grind.{common_steps}
use Rattle.std.proofs.lemmas.List.Elements.{All-more}
use Rattle.bv_expr.specs.Sorts.{IsExpr}
use Rattle.bv_normal.specs.Normal.{normal}
use Rattle.bv_normal.proofs.goals.all_normal.Goals as goal

pub loop-term-preserved : goal.loop-term-preserved
loop-term-preserved c =
    let more : All IsExpr (take (c.loop-term.term-index + 1) c.args.terms.now) =
    All-more IsExpr c.args.terms.now c.loop-term.term-index c.term-item.result (omega arith) c.loop-term.invariant.exprs (subst IsExpr c.term-item.is c.normal_of.ensures.expr) in
    let forms : c.push.new.self ≡ map normal (take (c.loop-term.term-index + 1) c.args.terms.now) = grind (arith, common_steps) in
    record { forms = forms; exprs = more }
