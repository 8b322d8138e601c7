use Rattle.std.proofs.Common.{◌<◌, ◌≤◌, true, length, sym, arith}
use Rattle.gate_shape.specs.Edge.{constant}
use Rattle.gate_shape.specs.Builds.{Stands}
use Rattle.gate_shape.proofs.Building.{builds_answer, stands_true}
use Rattle.gate_shape.proofs.Looping.{reached_none, reached_more, reached_all, reached_refusal}
use Rattle.bv_expr.specs.Sorts.{IsExpr}
use Rattle.blast_goal.specs.Circuit.{and_hypothesis, all_hypotheses}
use Rattle.blast_goal.proofs.Rows.{builds_at_one, one_more_holds}
use Rattle.blast_goal.proofs.goal.hypotheses.Goals as goal

pub loop-hyp-init : goal.loop-hyp-init
loop-hyp-init g c = (reached_none _ Stands and_hypothesis (constant true) c.args.hyps.now (g.B.Builder.meaning c.args.b.now) _ (stands_true c.new-e.ensures), λ k d l. absurd (omega arith))

pub returns-in_err-e-clause-built : goal.returns-in_err-e-clause-built
unfolding all_hypotheses
returns-in_err-e-clause-built g c =
    let p = c.loop-hyp.invariant.0 in
    let inside : c.loop-hyp.hyp-index < length c.args.hyps.now = omega arith in
    reached_refusal _ Stands and_hypothesis (constant true) c.args.hyps.now c.from_residual.ensures.1 inside (sym c.hyp-item.is) p
    (builds_at_one (λ e. and_hypothesis e c.hyp-item.result) (builds_answer p) c.in_err-e.ensures.built)

pub loop-hyp-preserved : goal.loop-hyp-preserved
loop-hyp-preserved g c =
    let p = c.loop-hyp.invariant.0 in
    let inside : c.loop-hyp.hyp-index < length c.args.hyps.now = omega arith in (
      reached_more _ Stands and_hypothesis (constant true) c.args.hyps.now inside (sym c.hyp-item.is) p
          (builds_at_one (λ e. and_hypothesis e c.hyp-item.result) (builds_answer p) c.in_ok-e.ensures.built),
      one_more_holds IsExpr c.args.hyps.now inside c.hyp-item.is c.loop-hyp.invariant.1 c.in_ok-e.ensures.expr,
    )

pub returns-clause-built : goal.returns-clause-built
unfolding all_hypotheses
returns-clause-built g c =
    let outside : length c.args.hyps.now ≤ c.loop-hyp.hyp-index = omega arith in
    reached_all _ Stands and_hypothesis (constant true) c.args.hyps.now outside c.loop-hyp.invariant.0

pub returns-clause-exprs : goal.returns-clause-exprs
returns-clause-exprs g c =
    let outside : length c.args.hyps.now ≤ c.loop-hyp.hyp-index = omega arith in
    λ k d l. c.loop-hyp.invariant.1 k d (omega (arith, l, outside))
