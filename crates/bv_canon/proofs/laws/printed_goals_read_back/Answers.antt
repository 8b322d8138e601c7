use Rattle.bv_canon.proofs.Reread.{reread}
use Rattle.bv_canon.proofs.laws.printed_goals_read_back.Goals as goal

pub returns : goal.returns
returns c = reread c.goals_are_read_back.ensures.some c.files_state_goals_of_the_syntax.ensures
