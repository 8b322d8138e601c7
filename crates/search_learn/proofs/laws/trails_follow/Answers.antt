use Rattle.search_learn.proofs.Reached.{reached_kept}
use Rattle.search_learn.proofs.laws.trails_follow.Goals as goal

pub returns : goal.returns
returns c = λ vars cs budget m within reached. (reached_kept vars cs budget m within reached).is_trail
