use Rattle.std.proofs.Common.{◌∙◌}
use Rattle.bv_limits.proofs.Named.{sort_told, no_sort_told}
use Rattle.bv_limits.proofs.variables.is_sort.Goals as goal

pub returns-then-at-taken : goal.returns-then-at-taken
returns-then-at-taken c = c.begins_sort.ensures ∙ sort_told c.args.taken.now c.args.at c.role_at.result c.role_at.ensures

pub returns : goal.returns
returns c = no_sort_told c.args.taken.now c.args.at c.if-at-taken.false
