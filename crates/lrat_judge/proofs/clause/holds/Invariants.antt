use Rattle.std.proofs.Common.{◌≡◌, drop}
use Rattle.sat_form.specs.Literals.{member}
use Rattle.lrat_judge.proofs.clause.holds.Given as goal

abbrev pub invariant-loop-other : goal.invariant-loop-other
invariant-loop-other l = member l.clause l.lit ≡ member (drop l.other-index l.clause) l.lit
