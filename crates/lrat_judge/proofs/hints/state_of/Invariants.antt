use Rattle.std.proofs.Common.{drop}
use Rattle.lrat_judge.specs.Scanned.{Scanned}
use Rattle.lrat_judge.proofs.hints.state_of.Given as goal

abbrev pub invariant-loop-lit : goal.invariant-loop-lit
invariant-loop-lit l = Scanned l.marks l.clause l.unit (drop l.lit-index l.clause)
