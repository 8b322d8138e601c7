use Rattle.std.proofs.Common.{◌≡◌, ◌≤◌, ◌<◌, ◌-◌, ℕ, Bool, List, length, drop, Some, IfSome}
use Rattle.bv_grammar.specs.declared.words.Terminal.{Terminal}
use Rattle.bv_grammar.specs.Taking.{AreTaken}
use Rattle.bv_limits.specs.Naming.{names_sort}
use Rattle.bv_limits.specs.Limits.{IsTooMany}
use Rattle.bv_limits.proofs.Named.{Counting}
use Rattle.bv_limits.proofs.variables.first_variable_limit.Given as goal

abbrev pub invariant-loop-at : goal.invariant-loop-at
invariant-loop-at l = record {
  within : l.at ≤ length l.taken;
  few : IfSome l.variables (λ n. n ≤ 64);
  known : (b : Bool) → l.known ≡ Some b → b ≡ names_sort (drop l.at l.taken);
  counted : (ts : List Terminal) → AreTaken ts l.taken → Counting ts (length l.taken) l.at l.variables;
  clean : (ts : List Terminal) → AreTaken ts l.taken → (k : ℕ) → k < l.at → IsTooMany ts (length l.taken) k → ⊥;
}

abbrev pub decreases-loop-at : goal.decreases-loop-at
decreases-loop-at l = length l.taken - l.at
