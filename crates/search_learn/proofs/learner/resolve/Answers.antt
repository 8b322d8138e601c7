use Rattle.std.proofs.Common.{◌∙◌, nat_eq, length, ap}
use Rattle.sat_form.specs.Literals.{negate, without}
use Rattle.search_learn.proofs.Marks.{false_range, some_counted, without_mark}
use Rattle.search_learn.proofs.learner.resolve.Goals as goal

pub unmark-left-requires-clause-place : goal.unmark-left-requires-clause-place
unmark-left-requires-clause-place c =
    let are = c.requires.2 in
    (false_range (length c.args.marks.now) c.requires.0 (negate c.args.step.now.lit) are.machine (are.falsified (negate c.args.step.now.lit) c.requires.3)).1

pub unmark-left-requires-clause-some : goal.unmark-left-requires-clause-some
unmark-left-requires-clause-some c = λ here.
    some_counted c.args.level c.requires.0 c.args.levels.now c.args.marks.now c.args.count c.requires.1 c.requires.2 (negate c.args.step.now.lit) c.requires.3 (ap (λ n. nat_eq n c.args.level) c.requires.4 ∙ here)

pub mark_others-requires : goal.mark_others-requires
mark_others-requires c =
    let n = negate c.args.step.now.lit in
    let gone = without_mark c.args.level c.requires.0 c.args.levels.now c.args.marks.now c.args.count c.requires.1 c.requires.2 n c.requires.3 in
    (c.requires.0, without c.requires.1 n, rw (c.unmark-left.ensures.marks, c.unmark-left.ensures.count, ← c.requires.4) gone, c.requires.5)

pub returns : goal.returns
returns c = λ t s are has level_is falsified.
    let n = negate c.args.step.now.lit in
    let gone = without_mark c.args.level t c.args.levels.now c.args.marks.now c.args.count s are n has in
    c.mark_others.ensures t (without s n) (rw (c.unmark-left.ensures.marks, c.unmark-left.ensures.count, ← level_is) gone) falsified
