-- The move of a stage, by the way that the code names.
use Rattle.std.specs.Prelude.{ℕ, List}
use Rattle.gate_shape.specs.Edge.{Edge}
use Rattle.blast_shift.specs.Wires.{shifted_left, shifted_right, shifted_right_signed}
use Rattle.blast_shift.specs.declared.stages.Way.{Way}
use Rattle.blast_shift.specs.declared.stages.Way.TheVariants.{Up, Down, DownSigned}

-- the bits moved by a number this way
abbrev pub moved_by : Way → ℕ → List Edge → List Edge
moved_by Up = shifted_left
moved_by Down = shifted_right
moved_by DownSigned = shifted_right_signed
