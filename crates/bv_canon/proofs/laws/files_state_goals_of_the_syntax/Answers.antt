use Rattle.bv_canon.proofs.Parsed.{stated_of_syntax}
use Rattle.bv_canon.proofs.laws.files_state_goals_of_the_syntax.Goals as goal

pub returns : goal.returns
returns c = stated_of_syntax
