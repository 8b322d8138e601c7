use Rattle.std.proofs.Common.{◌∙◌, arith}
use Rattle.bvd_top.proofs.Replays.{known}
use Rattle.bvd_top.proofs.checking.replay_kept.Goals as goal

pub returns-clause-answers : goal.returns-clause-answers
returns-clause-answers g c =
    known (g.K.Keeper.files c.args.keeper.now) c.args.name.now c.args.size c.args.cnf.now.clauses c.replay.result (omega arith) c.requires
    (λ text left. c.replay.ensures.exact text (c.new-file.ensures.left ∙ left)) c.replay.ensures.told_or_not
