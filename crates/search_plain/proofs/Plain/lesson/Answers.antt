use Rattle.std.proofs.Common.{◌++◌, refl}
use Rattle.search_plain.specs.contracts.Plain.{the_view}
use Rattle.search_learn.proofs.Steps as steps
use Rattle.search_learn.proofs.Lessons as learnt
use Rattle.search_plain.proofs.Plain.lesson.Goals as goal

pub level-requires : goal.level-requires
level-requires c =
    let p = c.self.inside in
    let holds = c.self.invariant (rw (← c.self.view_is) at c.requires.whole) in
    steps.machine_of p.clauses.clauses p.budget _ _ (the_view p).state p.clauses.in_range holds

pub learn-requires-clause-trail : goal.learn-requires-clause-trail
learn-requires-clause-trail c =
    let p = c.self.inside in
    let holds = c.self.invariant (rw (← c.self.view_is) at c.requires.whole) in
    let kept = steps.kept_of p.clauses.clauses p.budget _ _ (the_view p).state p.clauses.in_range holds in
    rw (c.steps.ensures) (learnt.trail_by_place (p.clauses.clauses ++ p.learnt) p.clauses.vars p.trail.steps kept.is_trail)

pub learn-requires-clause-level : goal.learn-requires-clause-level
learn-requires-clause-level c = rw (c.steps.ensures) c.level.ensures.level

pub learn-requires-clause-known : goal.learn-requires-clause-known
learn-requires-clause-known c =
    let p = c.self.inside in
    learnt.id_known p.budget (the_view p).state p.clauses.clauses p.learnt c.args.id refl (rw (← c.self.view_is) at c.requires.here)

pub learn-requires-clause-conflict : goal.learn-requires-clause-conflict
learn-requires-clause-conflict c =
    let p = c.self.inside in
    let holds = c.self.invariant (rw (← c.self.view_is) at c.requires.whole) in
    let kept = steps.kept_of p.clauses.clauses p.budget _ _ (the_view p).state p.clauses.in_range holds in
    rw (c.steps.ensures) (learnt.false_by_place p.budget (the_view p).state (p.clauses.clauses ++ p.learnt) c.args.id refl kept (rw (← c.self.view_is) at c.requires.here))

pub returns : goal.returns
returns c =
    let p = c.self.inside in
    let here = rw (← c.self.view_is) at c.requires.here in
    let e = rw (c.steps.ensures, c.level.ensures.level) at c.learn.ensures in
    rw (← c.self.view_is) (learnt.teaches p.budget (the_view p).state (p.clauses.clauses ++ p.learnt) c.args.id refl here c.learn.result e)
