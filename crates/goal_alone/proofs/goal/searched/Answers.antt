use Rattle.goal_alone.proofs.Turns.{has_ended}
use Rattle.goal_alone.proofs.goal.searched.Goals as goal

pub reply_of-requires-clause-ended : goal.reply_of-requires-clause-ended
reply_of-requires-clause-ended c =
    let f = c.args.formula.now in
    rw (c.requires.vars, c.requires.clauses) at (has_ended f.cnf.vars f.cnf.clauses c.args.budget c.in_ok-search.search c.in_ok-search.end c.in_ok-search.ensures.search c.in_ok-search.ensures.end)
