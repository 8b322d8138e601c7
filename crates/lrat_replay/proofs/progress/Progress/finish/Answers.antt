use Rattle.std.proofs.Common.{◌≡◌, [], refl, ap, arith}
use Rattle.std.specs.Prelude.{Err}
use Rattle.lrat_lines.specs.Replay.Verdict.{Accepted, Refused, Undecided}
use Rattle.lrat_replay.specs.Standing.{WillComeTo}
use Rattle.lrat_replay.proofs.Stepping.{accepted, line_not_long, line_not_read, onward}
use Rattle.lrat_replay.proofs.progress.Progress.finish.Goals as goal

pub returns-in-Ok-true-clause-ok : goal.returns-in-Ok-true-clause-ok
returns-in-Ok-true-clause-ok c _ =
    (Accepted, accepted c.in-Ok-true.field-0 (WillComeTo c.args.self.now c.args.self.now.left []) (λ v. v ≡ Undecided) c.in-Ok-true.field-0-test (c.in-Ok-true.ensures c.args.self.now.left), refl)

pub returns-in-Ok-false-clause-err : goal.returns-in-Ok-false-clause-err
returns-in-Ok-false-clause-err c _ =
    (Undecided, onward c.in-Ok-false.field-0 (WillComeTo c.args.self.now c.args.self.now.left []) (λ v. v ≡ Undecided) c.in-Ok-false.field-0-test (c.in-Ok-false.ensures c.args.self.now.left) Undecided refl, (λ _. refl, λ over. absurd (omega arith)))

pub returns-in-Err-clause-err : goal.returns-in-Err-clause-err
returns-in-Err-clause-err c known = let l = c.in-Err.ensures c.args.self.now.left known in (Refused l.0 l.1, l.3, ap Err l.2)

pub returns-in-Err-clause-too_long : goal.returns-in-Err-clause-too_long
returns-in-Err-clause-too_long c = line_not_long c.in-Err.stop (WillComeTo c.args.self.now 0 []) (λ v. v ≡ Undecided) (c.in-Err.ensures 0)

pub returns-in-Err-clause-inside : goal.returns-in-Err-clause-inside
returns-in-Err-clause-inside c = line_not_read c.in-Err.stop (WillComeTo c.args.self.now 0 []) (λ v. v ≡ Undecided) (c.in-Err.ensures 0)
