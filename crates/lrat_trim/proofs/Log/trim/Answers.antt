use Rattle.std.proofs.Common.{◌+◌}
use Rattle.lrat_trim.proofs.Reached.{if_trimmed, logged_numbered}
use Rattle.lrat_trim.proofs.Log.trim.Goals as goal

pub returns-clause-reached : goal.returns-clause-reached
returns-clause-reached c =
    let p = c.self.inside in
    rw (← c.self.view_is) (if_trimmed p.inputs _ (logged_numbered (p.inputs + 1) p.lines c.self.invariant.earlier) c.marked_lines.result c.marked_lines.ensures.lines)
