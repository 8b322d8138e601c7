use Rattle.std.proofs.Common.{ℕ, sym, refl, subst, arith, take}
use Rattle.search_learn.specs.Rule.{IsTrail, clause_with}
use Rattle.search_learn.specs.Trail.{clause_false}
use Rattle.search_learn.proofs.Lessons as learnt
use Rattle.search_watch.specs.contracts.Rounds.{the_view}
use Rattle.search_watch.proofs.Follows as follows
use Rattle.search_watch.proofs.Numbered.{find-place}
use Rattle.search_watch.proofs.Rounds.lesson.Goals as goal

pub learn-requires-clause-trail : goal.learn-requires-clause-trail
learn-requires-clause-trail c =
    let p = c.self.inside in
    let m = (the_view p).state in
    let f = c.self.invariant (rw (← c.self.view_is) at c.requires.whole) in
    let kept = follows.kept (take p.inputs p.watches.clauses) p.budget _ _ _ _ m f f.formula in
    subst (λ (v : ℕ). IsTrail (clause_with p.watches.clauses) v p.trail.steps) (sym f.holds.over) (learnt.trail_by_place p.watches.clauses p.vars p.trail.steps kept.is_trail)

pub learn-requires-clause-known : goal.learn-requires-clause-known
learn-requires-clause-known c =
    let p = c.self.inside in
    let m = (the_view p).state in
    let here = rw (← c.self.view_is) at c.requires.here in
    let found = find-place (clause_false m.trail) 1 p.watches.clauses here.clause here.found in
    let low = found.low in
    let at = found.id in
    let is = here.is in
    (omega arith, omega arith)

pub learn-requires-clause-conflict : goal.learn-requires-clause-conflict
learn-requires-clause-conflict c =
    let p = c.self.inside in
    let m = (the_view p).state in
    let f = c.self.invariant (rw (← c.self.view_is) at c.requires.whole) in
    let kept = follows.kept (take p.inputs p.watches.clauses) p.budget _ _ _ _ m f f.formula in
    learnt.false_by_place p.budget m p.watches.clauses c.args.id refl kept (rw (← c.self.view_is) at c.requires.here)

pub returns-clause-lesson : goal.returns-clause-lesson
returns-clause-lesson c =
    let p = c.self.inside in
    let here = rw (← c.self.view_is) at c.requires.here in
    rw (← c.self.view_is) (learnt.teaches p.budget (the_view p).state p.watches.clauses c.args.id refl here c.learn.result c.learn.ensures.lesson)
