use Rattle.std.proofs.Common.{length, ◌-◌, ℕ, ◌+◌, ◌<◌, ◌≤◌}
use Rattle.bv_lex.specs.Pieces.{Closes}
use Rattle.bv_lex.proofs.comments.comment_end.Given as goal

abbrev pub invariant-loop-i : goal.invariant-loop-i
invariant-loop-i l = record {
  deep : 0 < l.depth;
  counted : l.depth ≤ l.i + 1;
  on : (j : ℕ) → Closes l.text 1 l.at j → Closes l.text l.depth l.i j;
  back : (j : ℕ) → Closes l.text l.depth l.i j → Closes l.text 1 l.at j;
}

abbrev pub decreases-loop-i : goal.decreases-loop-i
decreases-loop-i l = length l.text - l.i
