use Rattle.bvd_top.proofs.Replays.{told_by, told_cause}
use Rattle.bvd_top.proofs.checking.told_by.Goals as goal

pub returns-in-Ok-clause-told : goal.returns-in-Ok-clause-told
returns-in-Ok-clause-told g c =
    told_by (g.K.Keeper.files c.find.new.keeper) (g.K.Keeper.files c.args.keeper.now) _ c.args.name.now c.args.cnf.now.clauses c.replay_kept.result c.told_end.result
    c.find.ensures.files c.replay_kept.ensures.answers c.replay_kept.ensures.short c.replay_kept.ensures.refuted c.told_end.ensures.told

pub returns-in-Ok-clause-cause : goal.returns-in-Ok-clause-cause
returns-in-Ok-clause-cause g c =
    told_cause c.replay_kept.result c.told_end.result _ _ _ (c.find.ensures.cause.faults.spared (λ failed. cc)) c.told_end.ensures.device c.replay_kept.ensures.cause
