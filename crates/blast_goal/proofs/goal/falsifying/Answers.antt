use Rattle.std.proofs.Common.{ℕ, Bool, List}
use Rattle.std.specs.Prelude.{IsTrue, ◌↔◌}
use Rattle.gate_shape.specs.Edge.{value}
use Rattle.gate_shape.specs.Builds.{edge}
use Rattle.gate_shape.proofs.Building.{builds_exit, builds_then, answers_with, stands_answer}
use Rattle.bv_expr.specs.declared.ops.Val.{Val}
use Rattle.bv_expr.specs.Goal.{AreValues, Falsifies}
use Rattle.blast_goal.specs.Circuit.{falsifying_row, and_not_conclusion}
use Rattle.blast_goal.specs.Values.{input_bits, values_of}
use Rattle.blast_goal.proofs.Falsifying.{edge-value, edge-read}
use Rattle.blast_goal.proofs.Rows.{builds_at_one}
use Rattle.blast_goal.proofs.goal.falsifying.Goals as goal

pub returns-in_err-e-clause-built : goal.returns-in_err-e-clause-built
unfolding falsifying_row
returns-in_err-e-clause-built g c = builds_exit _ c.from_residual.ensures.1 (rw c.as_slice.ensures at c.in_err-e.ensures.built)

pub returns-clause-built : goal.returns-clause-built
unfolding falsifying_row
returns-clause-built g c =
    let p = rw c.as_slice.ensures at c.in_ok-e.ensures.built in
    builds_then _ p (builds_at_one (λ e. and_not_conclusion e c.args.goal.now.concl) (stands_answer p) c.without_conclusion.ensures.built)

pub returns-clause-value : goal.returns-clause-value
returns-clause-value g c =
    let new = g.B.Builder.meaning c.without_conclusion.new.b in
    let exprs = rw c.as_slice.ensures at c.in_ok-e.ensures.exprs in
    answers_with (λ l. (values : List Val) → AreValues c.args.goal.now.binders values → IsTrue (value (input_bits values) (edge new l)) ↔ Falsifies c.args.goal.now.hyps c.args.goal.now.concl values) (returns-clause-built g c)
    (λ l s values are. rw s.stands_for (edge-value c.args.goal.now.binders c.args.goal.now.hyps c.args.goal.now.concl c.args.goal.now.fits exprs c.without_conclusion.ensures.expr values are))

pub returns-clause-read : goal.returns-clause-read
returns-clause-read g c =
    let new = g.B.Builder.meaning c.without_conclusion.new.b in
    let exprs = rw c.as_slice.ensures at c.in_ok-e.ensures.exprs in
    answers_with (λ l. (bits : ℕ → ℕ → Bool) → IsTrue (value bits (edge new l)) ↔ Falsifies c.args.goal.now.hyps c.args.goal.now.concl (values_of c.args.goal.now.binders bits)) (returns-clause-built g c)
    (λ l s bits. rw s.stands_for (edge-read c.args.goal.now.binders c.args.goal.now.hyps c.args.goal.now.concl c.args.goal.now.fits exprs c.without_conclusion.ensures.expr bits))
