-- The row of a bitwise operator, by the operator that the code names.
use Rattle.gate_shape.specs.Edge.{Edge}
use Rattle.gate_shape.specs.Row.{Row, both, either, differ}
use Rattle.blast_logic.specs.declared.vectors.Connective.{Connective}
use Rattle.blast_logic.specs.declared.vectors.Connective.TheVariants.{And, Or, Xor}

abbrev pub connective : Connective → Edge → Edge → Row Edge
connective And a b = both a b
connective Or a b = either a b
connective Xor a b = differ a b
