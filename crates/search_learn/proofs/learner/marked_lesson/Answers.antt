use Rattle.std.proofs.Common.{◌≡◌, ◌<◌, true}
use Rattle.sat_form.specs.Literals.{Literal, member}
use Rattle.sat_form.proofs.Sets.{either_right}
use Rattle.search_learn.specs.Analysis.{lesson}
use Rattle.search_learn.specs.Rule.{clause_with}
use Rattle.search_learn.specs.Trail.{assigned, is_assigned, level}
use Rattle.search_learn.proofs.Collected.{lesson_seen}
use Rattle.search_learn.proofs.Marks.{false_range}
use Rattle.search_learn.proofs.learner.marked_lesson.Goals as goal

pub returns-clause-lesson : goal.returns-clause-lesson
returns-clause-lesson c =
    let clause_of = clause_with c.args.clauses.now in
    let vars = c.args.trail.now.vars in
    let t = c.args.trail.now.steps in
    let d = c.level-level.result in
    let s = (lesson clause_of t d c.args.false_id).lits in
    let are = c.in_ok-lits.ensures.marks.2 in
    let lits_is : c.sort.new.lits.items ≡ s = c.sort.ensures s are.ordered c.in_ok-lits.ensures.left in
    let back = rw c.deref-2.ensures.value at c.greatest_other-back.ensures in
    let known : (l : Literal) → member s l ≡ true → (0 < l.var) × (is_assigned t l ≡ true) =
    λ l has. ((false_range vars t l (clause_of, c.requires.trail) (are.falsified l has)).0, either_right (member (assigned t) l) _ (are.falsified l has)) in
    lesson_seen clause_of t vars d (level t) c.args.false_id c.levels.result.now c.sort.new.lits.items c.in_ok-lits.field-0.hints.items c.greatest_other-back.result c.level-level.ensures.level c.levels.ensures known lits_is c.in_ok-lits.ensures.hints back
