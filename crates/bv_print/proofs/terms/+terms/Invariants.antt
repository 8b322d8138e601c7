use Rattle.std.proofs.Common.{◌+◌, ◌*◌}
use Rattle.bv_expr.specs.Term.{nodes}
use Rattle.bv_print.proofs.terms.+terms.Given as goal

abbrev pub decreases-push_choice : goal.decreases-push_choice
decreases-push_choice l = 2 * (nodes l.c.now + nodes l.x.now + nodes l.y.now) + 1

abbrev pub decreases-push_term : goal.decreases-push_term
decreases-push_term l = 2 * nodes l.term.now
