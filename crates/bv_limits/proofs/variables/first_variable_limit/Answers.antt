use Rattle.std.proofs.Common.{◌≡◌, true, sym, ap, arith, ◌∙◌}
use Rattle.bv_limits.specs.Naming.{is_variable, is_full}
use Rattle.bv_limits.proofs.Counted.{is_not}
use Rattle.bv_limits.proofs.Named.{variable_at, counting_more, few_more, too_many, not_too_many, clean_more, is_first, is_none, known_more}
use Rattle.bv_limits.proofs.variables.first_variable_limit.Goals as goal
use Rattle.bv_limits.proofs.variables.first_variable_limit.Goals.{else-variable-via-then-variable+else-is_full, else-variable-via-else-variable}

pub returns-then-is_full : goal.returns-then-is_full
returns-then-is_full c =
    let told : c.is_variable-variable.result ≡ variable_at c.args.taken.now c.loop-at.at c.role_at-role.result = c.is_variable-variable.ensures ∙ ap (is_variable c.role_at-role.result) c.sorted-sorted.ensures in
    is_first c.args.taken.now c.loop-at.at c.loop-at.invariant.clean (too_many c.args.taken.now c.loop-at.at c.role_at-role.result c.loop-at.variables c.is_variable-variable.result c.role_at-role.ensures told c.if-variable.true (sym c.is_full.ensures ∙ c.if-is_full.true) c.loop-at.invariant.counted)

pub loop-at-preserved : goal.loop-at-preserved
loop-at-preserved c =
    let told : c.is_variable-variable.result ≡ variable_at c.args.taken.now c.loop-at.at c.role_at-role.result = c.is_variable-variable.ensures ∙ ap (is_variable c.role_at-role.result) c.sorted-sorted.ensures in
    let few : c.is_variable-variable.result ≡ true → is_full c.loop-at.variables ≡ true → ⊥ = elim c.else-variable.branch [
      | else-variable-via-then-variable+else-is_full w ↦ (λ e f. is_not (sym w.is_full.ensures ∙ w.if-is_full.false) f)
      | else-variable-via-else-variable w ↦ (λ e f. is_not w.if-variable.false e)
    ] in
    record {
      within = omega (arith, c.loop-at-test.true);
      few = few_more c.is_head.result c.is_variable-variable.result c.loop-at.variables c.counted-variables.result c.counted-variables.ensures c.loop-at.invariant.few few;
      known = known_more c.args.taken.now c.loop-at.at c.role_at-role.result c.sorted-sorted.result c.role_at-role.ensures c.sorted-sorted.ensures;
      counted = counting_more c.args.taken.now c.loop-at.at c.role_at-role.result c.loop-at.variables c.counted-variables.result c.is_head.result c.is_variable-variable.result c.role_at-role.ensures c.is_head.ensures told c.counted-variables.ensures c.loop-at.invariant.counted;
      clean = clean_more c.args.taken.now c.loop-at.at c.loop-at.invariant.clean (not_too_many c.args.taken.now c.loop-at.at c.role_at-role.result c.loop-at.variables c.is_variable-variable.result c.role_at-role.ensures told few c.loop-at.invariant.counted);
    }

pub returns : goal.returns
returns c = is_none c.args.taken.now c.loop-at.at c.loop-at-test.false c.loop-at.invariant.clean
