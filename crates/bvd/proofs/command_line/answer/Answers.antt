use Rattle.bvd.specs.Given.{words_given}
use Rattle.bvd.proofs.Wanted.{wanted_at_once}
use Rattle.bvd.proofs.command_line.answer.Goals as goal

pub returns-in-Err-behind_name-clause-ending : goal.returns-in-Err-behind_name-clause-ending
returns-in-Err-behind_name-clause-ending g c = wanted_at_once (words_given c.args.args) _ _ c.from-in-Err-behind_name.ensures
