use Rattle.std.proofs.Common.{◌≡◌, ◌<◌, ◌++◌, ◌∷◌, [], ◌∙◌, ap₂, length}
use Rattle.blast_goal.specs.Values.{value_with}
use Rattle.goal_alone.specs.Inputs.{has}
use Rattle.goal_alone.proofs.Numbers.{values_more}
use Rattle.goal_alone.proofs.counterexample.counterexample.Goals as goal

pub loop-variable-preserved : goal.loop-variable-preserved
loop-variable-preserved c =
    let binders = c.args.goal.now.binders in
    let f = has c.in_ok-inputs.inputs.items in
    let within : c.loop-variable.variable < length binders = rw c.as_slice-binder-items.ensures at c.loop-variable-test.true in
    let is : c.value.result ≡ value_with c.binder-item.result.1 (f c.loop-variable.variable) = rw c.deref.ensures.value at c.value.ensures in
    c.in_ok-push.ensures.items
    ∙ (ap₂ (λ vs v. vs ++ v ∷ []) c.loop-variable.invariant is
    ∙ values_more binders c.loop-variable.variable c.binder-item.result f within (rw c.as_slice-binder-items.ensures at c.binder-item.is))
