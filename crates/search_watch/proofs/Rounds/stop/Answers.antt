use Rattle.std.proofs.Common.{take}
use Rattle.search_watch.specs.contracts.Rounds.{the_view}
use Rattle.search_watch.proofs.Follows.{follows_stop}
use Rattle.search_watch.proofs.Rounds.stop.Goals as goal

pub invariant_of-self : goal.invariant_of-self
invariant_of-self c =
    let p = c.self.inside in
    λ whole. follows_stop (take p.inputs p.watches.clauses) p.budget _ _ _ _ (the_view p).state (c.self.invariant whole) c.args.turn (rw (← c.self.view_is) at c.requires.here) (rw (← c.self.view_is) at c.requires.turn)
