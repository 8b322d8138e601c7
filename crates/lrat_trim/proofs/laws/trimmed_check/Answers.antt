use Rattle.lrat_trim.proofs.Derived as derived
use Rattle.lrat_trim.proofs.laws.trimmed_check.Goals as goal

pub returns : goal.returns
returns c = derived.trimmed_check
