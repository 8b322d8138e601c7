use Rattle.goal_alone.proofs.Turns.{IsGoing}
use Rattle.goal_alone.proofs.solve.solve.Given as goal

abbrev pub invariant-loop-turn : goal.invariant-loop-turn
invariant-loop-turn l = IsGoing l.cnf.vars l.cnf.clauses l.budget l._turn l.search
