use Rattle.std.proofs.Common.{◌≡◌, drop}
use Rattle.bv_typing.specs.Judging.{judge_all, start, env_at}
use Rattle.bv_typing.proofs.judging.walk.Given as goal

abbrev pub invariant-loop-piece : goal.invariant-loop-piece
invariant-loop-piece l = judge_all (env_at l.file l.bindings) (drop l.piece-index l.pieces) l.findings ≡ judge_all (env_at l.file l.bindings) l.pieces start
