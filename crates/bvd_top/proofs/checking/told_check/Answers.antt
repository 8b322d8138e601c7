use Rattle.bvd_host.specs.Causes.{Rose}
use Rattle.bv_expr.specs.Statement.{statement_of}
use Rattle.bvd_report.specs.Shown.{told_shown}
use Rattle.bvd_top.specs.Replayed.{IsToldBy}
use Rattle.bvd_top.specs.Checked.{IsChecked}
use Rattle.bvd_top.proofs.Checks.{checked}
use Rattle.bvd_top.proofs.Endings.{ok_then}
use Rattle.bvd_top.proofs.checking.told_check.Goals as goal

pub returns-in-Ok-clause-told : goal.returns-in-Ok-clause-told
returns-in-Ok-clause-told g c =
    let files = g.K.Keeper.files c.args.keeper.now in
    let missing = Rose (g.K.Keeper.missing c.args.keeper.now) (g.K.Keeper.missing c.told_by.new.keeper) in
    let here = statement_of c.args.goal.now in
    let clauses = c.in-Ok.formula.cnf.clauses in
    ok_then (λ t. IsToldBy files missing c.args.name.now clauses (told_shown t)) (λ t. IsChecked files missing c.args.name.now here (told_shown t))
    (λ t is. checked files missing c.args.name.now here clauses c.in-Ok.ensures.made c.in-Ok.ensures.clauses c.in-Ok.ensures.satisfiable (told_shown t) is)
    c.told_by.result c.told_by.ensures.told
