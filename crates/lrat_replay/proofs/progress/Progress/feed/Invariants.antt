use Rattle.std.proofs.Common.{ℕ, ◌≡◌, ◌+◌, ◌≤◌, ◌++◌, List, length, vec_len}
use Rattle.lrat_lines.specs.Replay.{Verdict}
use Rattle.lrat_replay.specs.Standing.{WillComeTo}
use Rattle.lrat_replay.proofs.progress.Progress.feed.Given as goal

abbrev pub invariant-lines : goal.invariant-lines
invariant-lines l = record {
  leads : (most : ℕ) (rest : List ℕ) (v : Verdict) → WillComeTo l.self (length l.rest + most) (l.rest ++ rest) v → WillComeTo l.fn.self (length l.piece + most) (l.piece ++ rest) v;
  judged : l.self.judged + vec_len l.self.begun + length l.rest ≤ l.fn.self.judged + vec_len l.fn.self.begun + length l.piece;
  left : l.self.left ≡ l.fn.self.left;
}

abbrev pub decreases-lines : goal.decreases-lines
decreases-lines l = length l.rest
