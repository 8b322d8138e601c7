use Rattle.gate_shape.specs.Builds.{Known}
use Rattle.table_speed.proofs.blocks.build_block.Given as goal

-- the last sum and the last carry are known
abbrev pub invariant-loop-place : goal.invariant-loop-place
invariant-loop-place g l = Known (g.B.Builder.meaning l.b) l.sum × Known (g.B.Builder.meaning l.b) l.carry
