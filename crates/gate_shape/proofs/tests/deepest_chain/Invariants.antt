use Rattle.gate_shape.specs.Builds.{Known}
use Rattle.gate_shape.specs.Listed.{listed}
use Rattle.gate_shape.proofs.tests.deepest_chain.Given as goal

-- the last literal is known
abbrev pub invariant-loop-level : goal.invariant-loop-level
invariant-loop-level g l = Known (listed l.list) l.last
