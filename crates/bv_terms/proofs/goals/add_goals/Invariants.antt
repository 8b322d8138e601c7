use Rattle.std.proofs.Common.{length, map}
use Rattle.bv_expr.specs.Statement.{statement_of}
use Rattle.bv_terms.proofs.Stating.{AllPassed}
use Rattle.bv_terms.proofs.goals.add_goals.Given as goal

abbrev pub invariant-goals : goal.invariant-goals
invariant-goals l = AllPassed l.file l.pieces l.rest l.found (map statement_of l.initial.goals.items) (map statement_of l.goals.items)

abbrev pub decreases-goals : goal.decreases-goals
decreases-goals l = length l.rest
