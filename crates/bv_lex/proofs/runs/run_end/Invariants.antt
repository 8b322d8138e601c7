use Rattle.std.proofs.Common.{ℕ, ◌≡◌, ◌<◌, ◌≤◌, get_or, true}
use Rattle.bv_lex.specs.Runs.{belongs}
use Rattle.bv_lex.proofs.runs.run_end.Given as goal

abbrev pub invariant-loop-at : goal.invariant-loop-at
invariant-loop-at l = (k : ℕ) → l.from ≤ k → k < l.at → belongs l.run (get_or l.text k 0) ≡ true
