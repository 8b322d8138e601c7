use Rattle.gate_probe.specs.Sound.{IsSound}
use Rattle.gate_world.specs.Coding.{IsAtWork}
use Rattle.gate_world.proofs.tests.worked.Given as goal

-- the goal goes on over sound words
abbrev pub invariant-loop : goal.invariant-loop
invariant-loop l = IsAtWork l.words l.next × IsSound l.words
