use Rattle.bv_limits.proofs.Chosen.{counted_is_first}
use Rattle.bv_limits.proofs.limits.first_counted_limit.Goals as goal

pub returns : goal.returns
returns c = λ ts a. counted_is_first c.args.tokens.now ts _ c.first_plain_limit-plain.result _ _ c.first_variable_limit.result (c.first_plain_limit-plain.ensures ts a) (c.first_variable_limit.ensures ts a) c.variable-variable.ensures c.sooner.ensures
