use Rattle.search_learn.proofs.Runs.{run_ends}
use Rattle.search_learn.proofs.laws.runs_end.Goals as goal

pub returns : goal.returns
returns c = run_ends
