use Rattle.blast_shift.proofs.Staging.{weight_is}
use Rattle.blast_shift.proofs.stages.weight.Goals as goal

pub returns : goal.returns
returns c = weight_is c.args.k c.requires
