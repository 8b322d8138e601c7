use Rattle.std.proofs.Common.{sym, ◌∙◌}
use Rattle.bv_limits.proofs.Named.{name_more, no_name_left, at_colon, at_other}
use Rattle.bv_limits.proofs.variables.names_sort.Goals as goal

pub returns-then-is_colon : goal.returns-then-is_colon
returns-then-is_colon c = at_colon c.args.taken.now c.args.from c.loop-at.at c.role_at-role.result c.is_colon.result c.is_sort.result c.role_at-role.ensures (sym c.is_binder.ensures ∙ c.if-not-is_binder.true) c.is_colon.ensures c.if-is_colon.true c.is_sort.ensures c.loop-at.invariant

pub returns-else-is_colon : goal.returns-else-is_colon
returns-else-is_colon c = at_other c.args.taken.now c.args.from c.loop-at.at c.role_at-role.result c.is_colon.result c.role_at-role.ensures (sym c.is_binder.ensures ∙ c.if-not-is_binder.true) c.is_colon.ensures c.if-is_colon.false c.loop-at.invariant

pub loop-at-preserved : goal.loop-at-preserved
loop-at-preserved c = name_more c.args.taken.now c.loop-at.at c.role_at-role.result c.role_at-role.ensures (sym c.is_binder.ensures ∙ c.if-not-is_binder.false) ∙ c.loop-at.invariant

pub returns : goal.returns
returns c = no_name_left c.args.taken.now c.loop-at.at c.loop-at-test.false ∙ c.loop-at.invariant
