use Rattle.search_watch.specs.contracts.Rounds.{the_view}
use Rattle.search_learn.proofs.Cases.{case_ended}
use Rattle.search_watch.proofs.Rounds.next_case.Goals as goal

pub returns-in_default : goal.returns-in_default
returns-in_default c = let p = c.self.inside in rw (← c.self.view_is) (case_ended p.budget (the_view p).state c.in_default.not-More)
