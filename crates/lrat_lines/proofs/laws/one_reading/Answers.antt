use Rattle.lrat_lines.proofs.Readings.{one_reading}
use Rattle.lrat_lines.proofs.Verdicts.{one_verdict}
use Rattle.lrat_lines.proofs.laws.one_reading.Goals as goal

pub returns : goal.returns
returns c = record { line = one_reading; verdict = one_verdict }
