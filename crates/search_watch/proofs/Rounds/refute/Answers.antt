use Rattle.std.proofs.Common.{take}
use Rattle.search_watch.specs.contracts.Rounds.{the_view}
use Rattle.search_watch.proofs.Follows.{follows_refute}
use Rattle.search_watch.proofs.Rounds.refute.Goals as goal

pub invariant_of-self : goal.invariant_of-self
invariant_of-self c =
    let p = c.self.inside in
    λ whole. follows_refute (take p.inputs p.watches.clauses) p.budget _ _ _ _ (the_view p).state (c.self.invariant whole) _ (rw (← c.self.view_is) at c.requires.here) c.requires.empty
