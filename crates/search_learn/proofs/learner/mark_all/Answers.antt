use Rattle.std.proofs.Common.{◌+◌, ◌∷◌, ◌∙◌, List, length, drop, ap, sym, subst, arith}
use Rattle.std.proofs.lemmas.List.{drop_more, drop_all}
use Rattle.sat_form.specs.Literals.{Literal, put, put_all}
use Rattle.search_learn.specs.Marks.{AreMarks}
use Rattle.search_learn.proofs.Marks.{count_fits, false_range, member_at, with_mark}
use Rattle.search_learn.proofs.learner.mark_all.Goals as goal

pub mark-count-requires-clause-place : goal.mark-count-requires-clause-place
mark-count-requires-clause-place c =
    let q = c.loop-lit.invariant c.requires.0 c.requires.1 c.requires.2 c.requires.3 in
    let lit = c.lit-item.result in
    let wrong = c.requires.3 lit (member_at c.args.clause.now c.loop-lit.lit-index lit c.loop-lit-test.true c.lit-item.is) in
    (false_range (length c.loop-lit.marks) c.requires.0 lit q.1.machine wrong).1

pub mark-count-requires-clause-room : goal.mark-count-requires-clause-room
mark-count-requires-clause-room c =
    let q = c.loop-lit.invariant c.requires.0 c.requires.1 c.requires.2 c.requires.3 in
    count_fits c.args.level c.requires.0 c.args.levels.now c.loop-lit.marks c.loop-lit.count q.0 q.1

pub loop-lit-preserved : goal.loop-lit-preserved
loop-lit-preserved c = λ t s are falsified.
    let q = c.loop-lit.invariant t s are falsified in
    let clause = c.args.clause.now in
    let at = c.loop-lit.lit-index in
    let lit = c.lit-item.result in
    let inside = c.loop-lit-test.true in
    let wrong = falsified lit (member_at clause at lit inside c.lit-item.is) in
    let rest = drop_more clause at lit inside ∙ ap (λ (x : Literal). x ∷ drop (at + 1) clause) (sym c.lit-item.is) in (
      put q.0 lit,
      rw (c.mark-count.ensures.marks, c.mark-count.ensures.count) (with_mark c.args.level t c.args.levels.now c.loop-lit.marks c.loop-lit.count q.0 q.1 lit wrong),
      sym (ap (put_all q.0) rest) ∙ q.2,
    )

pub returns : goal.returns
returns c = λ t s are falsified.
    let q = c.loop-lit.invariant t s are falsified in
    let clause = c.args.clause.now in
    let over = c.loop-lit-test.false in
    subst (λ (x : List Literal). AreMarks c.args.level t c.args.levels.now c.loop-lit.marks c.loop-lit.count x) (sym (ap (put_all q.0) (drop_all c.loop-lit.lit-index clause (omega arith))) ∙ q.2) q.1
