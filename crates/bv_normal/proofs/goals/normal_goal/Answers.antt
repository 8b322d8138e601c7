use Rattle.std.proofs.Common.{All}
use Rattle.bv_expr.specs.Sorts.{IsExpr}
use Rattle.bv_normal.proofs.Goaling.{goal_again, falsified_alike, valid_alike}
use Rattle.bv_normal.proofs.goals.normal_goal.Goals as goal

pub new-requires : goal.new-requires
new-requires c =
    let g = c.args.goal.now in
    let hs : All IsExpr g.hyps = rw c.as_slice-2.ensures at c.in_ok-hyps.ensures.exprs in
    rw (c.in_ok-binders.ensures, c.as_slice.ensures, c.in_ok-hyps.ensures.forms, c.as_slice-2.ensures, c.in_ok-concl.ensures.form) (goal_again g.binders g.hyps g.concl g.fits hs c.normal_of.ensures.expr)

pub returns-clause-values : goal.returns-clause-values
returns-clause-values c =
    let g = c.args.goal.now in
    let hs : All IsExpr g.hyps = rw c.as_slice-2.ensures at c.in_ok-hyps.ensures.exprs in
    rw (c.new.ensures.hypotheses, c.new.ensures.conclusion, c.in_ok-hyps.ensures.forms, c.as_slice-2.ensures, c.in_ok-concl.ensures.form) (falsified_alike g.binders g.hyps g.concl g.fits hs c.normal_of.ensures.expr)

pub returns-clause-validity : goal.returns-clause-validity
returns-clause-validity c =
    let g = c.args.goal.now in
    let hs : All IsExpr g.hyps = rw c.as_slice-2.ensures at c.in_ok-hyps.ensures.exprs in
    rw (c.new.ensures.bound, c.new.ensures.hypotheses, c.new.ensures.conclusion, c.in_ok-binders.ensures, c.as_slice.ensures, c.in_ok-hyps.ensures.forms, c.as_slice-2.ensures, c.in_ok-concl.ensures.form) (valid_alike g.binders g.hyps g.concl g.fits hs c.normal_of.ensures.expr)
