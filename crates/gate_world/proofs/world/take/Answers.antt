use Rattle.std.proofs.Common.{refl}
use Rattle.gate_world.proofs.world.take.Goals as goal

pub returns-clause-rest : goal.returns-clause-rest
returns-clause-rest c = (c.replace.new.dest, refl)
