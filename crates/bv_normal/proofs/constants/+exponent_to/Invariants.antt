use Rattle.bv_normal.proofs.constants.+exponent_to.Given as goal

abbrev pub decreases-exponent_to : goal.decreases-exponent_to
decreases-exponent_to l = l.bound
