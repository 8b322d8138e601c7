use Rattle.std.proofs.Common.{drop}
use Rattle.search_learn.specs.Marks.{AreMarksOf}
use Rattle.search_learn.proofs.learner.unmark_all.Given as goal

abbrev pub invariant-loop-lit : goal.invariant-loop-lit
invariant-loop-lit l = AreMarksOf l.marks (drop l.lit-index l.lits)
