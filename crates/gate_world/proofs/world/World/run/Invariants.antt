use Rattle.std.proofs.Common.{take}
use Rattle.gate_world.proofs.Happening.{HaveHappened}
use Rattle.gate_world.proofs.world.World.run.Given as goal

abbrev pub invariant-loop-event : goal.invariant-loop-event
invariant-loop-event l = HaveHappened (take l.event-index l.events) l.initial.self l.self
