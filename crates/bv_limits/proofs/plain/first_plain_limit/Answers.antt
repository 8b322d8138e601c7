use Rattle.bv_limits.proofs.Tested.{first_plain}
use Rattle.bv_limits.proofs.plain.first_plain_limit.Goals as goal

pub returns : goal.returns
returns c = λ ts a. first_plain c.args.tokens.now ts c.args.taken.now c.find_limit.result a c.find_limit.ensures
