use Rattle.std.proofs.Common.{◌≡◌, drop, []}
use Rattle.bv_typing.specs.Judging.{env_at}
use Rattle.bv_terms.specs.Building.{build}
use Rattle.bv_terms.proofs.building.build.Given as goal

abbrev pub invariant-loop-piece : goal.invariant-loop-piece
invariant-loop-piece l = build (env_at l.file l.bindings) (drop l.piece-index l.pieces) l.widths l.built ≡ build (env_at l.file l.bindings) l.pieces l.initial.widths []
