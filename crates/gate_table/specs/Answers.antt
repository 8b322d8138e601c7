-- What a seat's builder answers.
use Rattle.std.specs.Prelude.{Result, Ok, Err}
use Rattle.gate_shape.specs.Literal.{Literal}
use Rattle.gate_shape.specs.Edge.{Gate}
use Rattle.gate_shape.specs.Builds.{Meaning, Noting, edge}
use Rattle.gate_shape.specs.declared.builder.GateStop.{GateStop}
use Rattle.gate_shape.specs.declared.builder.GateStop.TheVariants.{Deep, Full, Memory}

-- a seat notes no gate
abbrev pub no_note : Noting
no_note t g ok = t

-- the gate of the edges of two literals
abbrev pub gate_of : Meaning → Literal → Literal → Gate
gate_of m l r = record { left = edge m l; right = edge m r }

-- it isn't want of memory
abbrev pub IsAnswered : Result Literal GateStop → Type 0
IsAnswered (Ok l) = Unit {0}
IsAnswered (Err Deep) = Unit {0}
IsAnswered (Err Full) = Unit {0}
IsAnswered (Err (Memory e)) = ⊥
