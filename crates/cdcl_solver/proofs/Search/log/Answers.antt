use Rattle.cdcl_solver.proofs.Derives.{log_checks, log_finished}
use Rattle.cdcl_solver.proofs.Search.log.Goals as goal

pub returns-clause-finished : goal.returns-clause-finished
returns-clause-finished c = let s = c.self.inside in rw (← c.self.view_is) (λ whole unsat. log_finished s.rounds s.log (c.self.invariant.1 whole) unsat)

pub returns-clause-checks : goal.returns-clause-checks
returns-clause-checks c = let s = c.self.inside in rw (← c.self.view_is) (λ whole unsat. log_checks s.rounds s.log (c.self.invariant.1 whole) c.self.invariant.0 unsat)
