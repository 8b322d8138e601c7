use Rattle.std.proofs.Common.{◌≡◌, map, take}
use Rattle.bv_terminals.specs.Spellings.{terminal_of}
use Rattle.bv_terminals.proofs.spellings.terminals.Given as goal

abbrev pub invariant-loop-token : goal.invariant-loop-token
invariant-loop-token l = l.terminals.items ≡ map (terminal_of l.bytes) (take l.token-index l.tokens)
