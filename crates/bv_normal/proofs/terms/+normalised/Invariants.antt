use Rattle.std.proofs.Common.{◌+◌, ◌*◌}
use Rattle.bv_expr.specs.Term.{nodes}
use Rattle.bv_normal.proofs.terms.+normalised.Given as goal

-- the parts of a node have fewer nodes together
abbrev pub decreases-normalised : goal.decreases-normalised
decreases-normalised l = 2 * nodes l.expr

abbrev pub decreases-both_normalised : goal.decreases-both_normalised
decreases-both_normalised l = 2 * (nodes l.x.value + nodes l.y.value) + 1
