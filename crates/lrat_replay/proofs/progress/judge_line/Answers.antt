use Rattle.std.proofs.Common.{ap, refl}
use Rattle.std.specs.Prelude.{Err}
use Rattle.lrat_judge.specs.Judged.{cause_shown}
use Rattle.lrat_lines.specs.Replay.Fault.{Because, Malformed}
use Rattle.lrat_lines.specs.Seen.{seen}
use Rattle.lrat_replay.proofs.Stepping.{malformed, refused_line}
use Rattle.lrat_replay.proofs.progress.judge_line.Goals as goal

pub returns-in-Err-Bad : goal.returns-in-Err-Bad
returns-in-Err-Bad c rest known = (c.args.number, Malformed, refl, malformed c.args.judge.now c.args.number c.args.text.now rest (c.in-Err-Bad.ensures.bad (ap Err c.in-Err-Bad.field-0-is)))

pub returns-in-Refused : goal.returns-in-Refused
returns-in-Refused c rest known =
    let verdict = rw c.in-Refused.is at c.in_ok-cause.ensures.judged in (
      c.args.number,
      Because (cause_shown c.in-Refused.cause),
      c.refused.ensures,
      refused_line c.args.judge.now c.args.number c.args.text.now rest (seen c.in-Ok.line) (cause_shown c.in-Refused.cause) c.in-Ok.ensures.line verdict.0,
    )
