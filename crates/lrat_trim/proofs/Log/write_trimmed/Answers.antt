use Rattle.std.proofs.Common.{◌+◌}
use Rattle.lrat_trim.specs.Derivation.{logged_from}
use Rattle.lrat_trim.proofs.Reached.{logged_numbered, trimmed_reached}
use Rattle.lrat_trim.proofs.Log.write_trimmed.Goals as goal

pub returns-in_err-marks-clause-reached : goal.returns-in_err-marks-clause-reached
returns-in_err-marks-clause-reached c =
    let p = c.self.inside in
    rw (← c.self.view_is) (trimmed_reached p.inputs (logged_from (p.inputs + 1) p.lines) (logged_numbered (p.inputs + 1) p.lines c.self.invariant.earlier))

pub returns-clause-reached : goal.returns-clause-reached
returns-clause-reached c =
    let p = c.self.inside in
    rw (← c.self.view_is) (trimmed_reached p.inputs (logged_from (p.inputs + 1) p.lines) (logged_numbered (p.inputs + 1) p.lines c.self.invariant.earlier))
