use Rattle.std.proofs.Common.{◌≡◌, ◌++◌, List, map, drop, ◌≤◌, length}
use Rattle.bv_grammar.specs.Grammar.{Symbol}
use Rattle.bv_grammar.specs.Moves.{symbol_of, opened}
use Rattle.bv_grammar.proofs.stack.push_symbols.Given as goal

abbrev pub invariant-loop-left : goal.invariant-loop-left
invariant-loop-left l = record {
  within : l.left ≤ length l.symbols;
  held : (a : List Symbol) → opened l.stack.symbols.items a ≡ map symbol_of (drop l.left l.symbols) ++ opened l.initial.stack.symbols.items a;
}

abbrev pub decreases-loop-left : goal.decreases-loop-left
decreases-loop-left l = l.left
