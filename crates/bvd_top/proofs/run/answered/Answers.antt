use Rattle.bvd_top.proofs.run.answered.Goals as goal

pub returns-in_ok-parts-in-Schedule-clause-found :
    goal.returns-in_ok-parts-in-Schedule-clause-found
returns-in_ok-parts-in-Schedule-clause-found g c =
    c.in_ok-parts-in-Schedule.ensures.found (g.K.Keeper.files c.args.keeper.now) (g.K.Keeper.missing c.args.keeper.now) (g.K.Keeper.missing c.args.keeper.now)
