use Rattle.std.proofs.Common.{◌<◌, ◌≤◌, refl, sym, ◌∙◌, subst}
use Rattle.gate_table.proofs.Searched.{found_at, missed, home_small, wanted_more}
use Rattle.gate_table.proofs.seats.GateTable.find.Goals as goal

pub returns-in-Found-clause-ok : goal.returns-in-Found-clause-ok
returns-in-Found-clause-ok c = let i = c.loop-next.invariant in found_at _ c.loop-next.prober _ c.in-Found.node c.new.result i.search (i.last ∙ c.in-Found.is) i.for.word c.new.ensures

pub returns-in-Full-clause-full : goal.returns-in-Full-clause-full
returns-in-Full-clause-full c =
    let i = c.loop-next.invariant in
    let n : 1 ≤ c.args.self.now.words = subst (λ k. 1 ≤ k) c.size.ensures.value c.size.ensures.small.0 in
    (refl, missed _ c.loop-next.prober _ _ i.search (i.last ∙ c.in-Full.is) i.for.places i.for.word (subst (λ k. k < c.args.self.now.words) (sym i.for.from) (home_small c.args.self.now.words c.args.left c.args.right n)))

pub turn-next-requires-clause-wanted : goal.turn-next-requires-clause-wanted
turn-next-requires-clause-wanted c = wanted_more _ _ _ _ _ c.loop-next.invariant.kept c.requires.wanted

pub turn-next-requires-in-Claim-clause-wanted : goal.turn-next-requires-in-Claim-clause-wanted
turn-next-requires-in-Claim-clause-wanted c = wanted_more _ _ _ _ _ c.loop-next.invariant.kept c.requires.wanted
