use Rattle.std.proofs.Common.{◌≡◌, ◌+◌, ◌-◌, ◌^◌, ◌<◌, ◌≤◌, length, vec_len}
use Rattle.std.specs.Prelude.{Result}
use Rattle.lrat_replay.specs.Passed.{Passes}
use Rattle.lrat_replay.specs.Standing.{WillAnswer}
use Rattle.lrat_replay.specs.Taken.{TookAtMost}
use Rattle.lrat_replay.specs.Told.{IsAbove, OfText}
use Rattle.lrat_replay.specs.declared.stop.ReplayStop.{ReplayStop}
use Rattle.lrat_replay.proofs.checker.run.Given as goal

abbrev pub invariant-pieces : goal.invariant-pieces
invariant-pieces g l = record {
  bytes : l.progress.judged + vec_len l.progress.begun + l.progress.left < 2 ^ 64;
  piece : length l.piece.items ≡ 65536;
  answers : (r : Result (Unit {0}) ReplayStop) → OfText (g.R.Source.left l.source) (λ text. WillAnswer l.progress text r) → OfText (g.R.Source.left l.initial.source) (λ text. WillAnswer l.initial.progress text r);
  within : l.progress.left ≤ l.initial.progress.left;
  taken : TookAtMost (g.R.Source.left l.initial.source) (g.R.Source.left l.source) (l.initial.progress.left - l.progress.left);
  passed : Passes (g.R.Source.left l.initial.source) (g.R.Source.left l.source) l.initial.progress l.progress;
  room : IsAbove (g.R.Source.room l.source) l.progress.left → IsAbove (g.R.Source.room l.initial.source) l.initial.progress.left;
  faults : g.R.Source.faults l.source ≡ g.R.Source.faults l.initial.source;
  missing : g.R.Source.missing l.source ≡ g.R.Source.missing l.initial.source;
  base : g.R.Source.base l.source ≡ g.R.Source.base l.initial.source;
  lender : g.R.Source.lender l.source ≡ g.R.Source.lender l.initial.source;
}

abbrev pub decreases-pieces : goal.decreases-pieces
decreases-pieces g l = l.progress.left
