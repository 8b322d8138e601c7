use Rattle.std.proofs.Common.{ap}
use Rattle.std.proofs.lemmas.Option.{slice_get-get_or}
use Rattle.bv_limits.specs.Naming.{role_of}
use Rattle.bv_limits.proofs.variables.role_at.Goals as goal

pub returns : goal.returns
returns c = ap role_of (slice_get-get_or c.args.taken.now c.args.at _ c.requires)
