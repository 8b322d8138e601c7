use Rattle.std.proofs.Common.{◌≡◌, List, drop}
use Rattle.sat_form.specs.Literals as literals
use Rattle.sat_form.specs.Literals.{Literal}
use Rattle.search_learn.specs.declared.Step.{Step}
use Rattle.search_learn.specs.Marks.{AreFalse, AreMarks}
use Rattle.search_learn.proofs.learner.mark_others.Given as goal

abbrev pub invariant-loop-lit : goal.invariant-loop-lit
invariant-loop-lit l =
    (t : List Step) (s : List Literal) → AreMarks l.level t l.levels l.initial.marks l.count s → AreFalse t (literals.without l.clause l.but)
    → (r : List Literal) × AreMarks l.level t l.levels l.marks l.total r × (literals.put_all r (literals.without (drop l.lit-index l.clause) l.but) ≡ literals.put_all s (literals.without l.clause l.but))
