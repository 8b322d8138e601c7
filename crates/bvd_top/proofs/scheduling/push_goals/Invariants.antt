use Rattle.std.proofs.Common.{◌≡◌, ◌++◌, map, take}
use Rattle.bvd_top.proofs.scheduling.push_goals.Given as goal

abbrev pub invariant-more : goal.invariant-more
invariant-more l = map (λ g. g.now) l.goals.items ≡ map (λ g. g.now) l.initial.goals.items ++ take l.goal-index l.more
