use Rattle.bvd_host.specs.Causes.{Rose}
use Rattle.bv_expr.specs.Statement.{statement_of}
use Rattle.bvd_words.specs.Asked.{command_shown}
use Rattle.bvd_report.specs.Shown.{told_shown}
use Rattle.bvd_top.proofs.Tellable.{told_tellable}
use Rattle.bvd_top.proofs.answering.line_of.Goals as goal

pub returns-clause-tellable : goal.returns-clause-tellable
returns-clause-tellable g c =
    told_tellable (command_shown c.args.request.now.command) c.args.request.now.steps (g.K.Keeper.files c.args.keeper.now)
    (Rose (g.K.Keeper.missing c.args.keeper.now) (g.K.Keeper.missing c.told_of.new.keeper)) c.as_str.result.now (statement_of c.args.goal.now) (told_shown c.in_ok-told.told) c.in_ok-told.ensures.told
