use Rattle.bv_grammar.proofs.Stepping.{IsReading, left_over}
use Rattle.bv_grammar.proofs.reading.read.Given as goal

abbrev pub invariant-loop-symbol : goal.invariant-loop-symbol
invariant-loop-symbol l = IsReading l.terminals l.taken.items l.stack.symbols.items

abbrev pub decreases-loop-symbol : goal.decreases-loop-symbol
decreases-loop-symbol l = left_over l.terminals l.taken.items l.stack.symbols.items
