use Rattle.std.proofs.Common.{◌≡◌, List, drop}
use Rattle.sat_form.specs.Literals as literals
use Rattle.sat_form.specs.Literals.{Literal}
use Rattle.search_learn.specs.declared.Step.{Step}
use Rattle.search_learn.specs.Marks.{AreFalse, AreMarks}
use Rattle.search_learn.proofs.learner.mark_all.Given as goal

abbrev pub invariant-loop-lit : goal.invariant-loop-lit
invariant-loop-lit l =
    (t : List Step) (s : List Literal) → AreMarks l.level t l.levels l.initial.marks 0 s → AreFalse t l.clause
    → (r : List Literal) × AreMarks l.level t l.levels l.marks l.count r × (literals.put_all r (drop l.lit-index l.clause) ≡ literals.put_all s l.clause)
