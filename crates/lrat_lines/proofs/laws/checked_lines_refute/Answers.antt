use Rattle.lrat_lines.proofs.Refutes.{checks_refutes}
use Rattle.lrat_lines.proofs.laws.checked_lines_refute.Goals as goal

pub returns : goal.returns
returns c = checks_refutes
