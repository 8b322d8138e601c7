use Rattle.std.proofs.Common.{◌≡◌, take}
use Rattle.std.specs.Prelude.{flat_map}
use Rattle.bv_typing.specs.Variables.{piece_bindings}
use Rattle.bv_typing.proofs.variables.bindings_of.Given as goal

abbrev pub invariant-loop-piece : goal.invariant-loop-piece
invariant-loop-piece l = l.bindings.items ≡ flat_map (piece_bindings l.file) (take l.piece-index l.pieces)
