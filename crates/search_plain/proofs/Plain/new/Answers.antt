use Rattle.std.proofs.Common.{ap}
use Rattle.search_learn.specs.Values.{Entries}
use Rattle.search_learn.proofs.Held as lessons
use Rattle.search_plain.proofs.Plain.new.Goals as goal

pub invariant_of-result : goal.invariant_of-result
invariant_of-result c = λ _.
    rw (c.in_ok-copy.ensures.clauses) (rw (c.in_ok-copy.ensures.vars)
    (lessons.holds_start c.args.cnf.now.vars c.args.cnf.now.clauses c.args.budget c.requires _ _ _ c.new.result c.in_ok-new.field-0.steps
    (ap (λ (t : Entries). t.vars) c.in_ok-new.ensures)
    (c.in_ok-vec.ensures.items_if_clones_equal (λ y h. h))
    (c.in_ok-vec-2.ensures.items_if_clones_equal (λ y h. h))
    c.new.ensures
    (ap (λ (t : Entries). t.steps) c.in_ok-new.ensures)))
