use Rattle.std.proofs.Common.{◌≡◌, drop}
use Rattle.search_learn.specs.Trail.{clause_false}
use Rattle.search_watch.proofs.learnt.free_literal.Given as goal

abbrev pub invariant-loop-lit : goal.invariant-loop-lit
invariant-loop-lit l = clause_false l.trail.steps l.lits ≡ clause_false l.trail.steps (drop l.lit-index l.lits)
