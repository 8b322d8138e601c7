use Rattle.std.proofs.Common.{◌+◌, ◌++◌, ◌∷◌, ◌≡◌, [], ◌∙◌, ap, sym, refl, List, length, length-append}
use Rattle.std.proofs.lemmas.List.{with_items_is}
use Rattle.sat_form.specs.Literals.{Literal}
use Rattle.search_learn.specs.Machine.{clause_at}
use Rattle.search_learn.specs.Values.{Entries}
use Rattle.search_plain.specs.contracts.Plain.{the_view}
use Rattle.search_learn.proofs.Steps as steps
use Rattle.search_learn.proofs.Cases as cases
use Rattle.search_learn.proofs.Held as lessons
use Rattle.search_learn.proofs.Lessons as learnt
use Rattle.search_learn.specs.Analysis.{seen}
use Rattle.search_learn.specs.Machine.{numbered, add_lesson, count_conflict}
use Rattle.search_learn.proofs.Reach.{cut_continues}
use Rattle.search_plain.proofs.Plain.add.Goals as goal

pub cut-requires : goal.cut-requires
cut-requires c =
    let p = c.self.inside in
    let holds = c.self.invariant (rw (← c.self.view_is) at c.requires.whole) in
    steps.machine_of p.clauses.clauses p.budget _ _ (the_view p).state p.clauses.in_range holds

pub raise-requires-clause-within : goal.raise-requires-clause-within
raise-requires-clause-within c =
    let p = c.self.inside in
    let m = (the_view p).state in
    let holds = c.self.invariant (rw (← c.self.view_is) at c.requires.whole) in
    let here = rw (← c.self.view_is) at c.requires.here in
    let kept = steps.kept_of p.clauses.clauses p.budget _ _ m p.clauses.in_range holds in
    let s = seen c.args.learnt in
    rw (c.deref-2.ensures.value, c.deref_mut.ensures.value, holds.scores) (learnt.all_ranged m.vars s.lits (learnt.teaches_ranged p.budget m s kept here))

pub raise-requires-clause-room : goal.raise-requires-clause-room
raise-requires-clause-room c =
    let p = c.self.inside in
    let m = (the_view p).state in
    let holds = c.self.invariant (rw (← c.self.view_is) at c.requires.whole) in
    let here = rw (← c.self.view_is) at c.requires.here in
    let s = seen c.args.learnt in
    rw (c.deref-2.ensures.value, c.deref_mut.ensures.value) (lessons.raise_room p.clauses.clauses p.budget _ _ m s holds here)

pub restart-requires-clause-trail : goal.restart-requires-clause-trail
restart-requires-clause-trail c =
    let p = c.self.inside in
    let m = (the_view p).state in
    let holds = c.self.invariant (rw (← c.self.view_is) at c.requires.whole) in
    let kept = steps.kept_of p.clauses.clauses p.budget _ _ m p.clauses.in_range holds in
    let s = seen c.args.learnt in
    rw (c.cut.ensures, holds.over) (clause_at m.clauses, cut_continues (clause_at m.clauses) m.vars s.back [] m.trail kept.is_trail)

pub invariant_of-self-2 : goal.invariant_of-self-2
invariant_of-self-2 c =
    let p = c.self.inside in
    let m = (the_view p).state in
    let whole = rw (← c.self.view_is) at c.requires.whole in
    let holds = c.self.invariant whole in
    let here = rw (← c.self.view_is) at c.requires.here in
    let kept = steps.kept_of p.clauses.clauses p.budget _ _ m p.clauses.in_range holds in
    let s = seen c.args.learnt in
    let more = (rw (c.deref.ensures.value) at c.in_ok-push.ensures).ok in
    let pushed = ap (λ (l : List (List Literal)). numbered 1 (p.clauses.clauses ++ l)) more
    ∙ learnt.clauses_pushed m p.clauses.clauses p.learnt s.lits refl refl (holds.each here.before) in
    let raised = rw (c.deref_mut.ensures.value, c.deref-2.ensures.value) at c.raise.ensures in
    let scores_back = with_items_is p.scores c.raise.new.scores (ap length raised ∙ learnt.length_raised (m.conflicts + 1) m.scores s.lits ∙ sym p.scores.ok.0) in
    let scores = scores_back ∙ raised in
    let out = c.restart.ensures in
    let restarted = out.restart (add_lesson (count_conflict m) s) (sym (ap (λ (t : Entries). t.steps) c.cut.ensures)) refl refl in
    let moves = learnt.add_moves p.budget m s _ _ _ _ _ here c.requires.some pushed scores restarted in
    let over : c.restart.new.trail.vars ≡ m.vars = out.vars ∙ ap (λ (t : Entries). t.vars) c.cut.ensures ∙ holds.over in
    λ _. lessons.holds_add p.clauses.clauses p.budget _ _ _ m s _ _ _ _ _ _ holds kept here moves scores over out.restarts out.since (ap length more ∙ length-append p.learnt (s.lits ∷ []))

pub returns-clause-ok : goal.returns-clause-ok
returns-clause-ok c =
    let p = c.self.inside in
    let m = (the_view p).state in
    let whole = rw (← c.self.view_is) at c.requires.whole in
    let holds = c.self.invariant whole in
    let here = rw (← c.self.view_is) at c.requires.here in
    let s = seen c.args.learnt in
    let more = (rw (c.deref.ensures.value) at c.in_ok-push.ensures).ok in
    let pushed = ap (λ (l : List (List Literal)). numbered 1 (p.clauses.clauses ++ l)) more
    ∙ learnt.clauses_pushed m p.clauses.clauses p.learnt s.lits refl refl (holds.each here.before) in
    let raised = rw (c.deref_mut.ensures.value, c.deref-2.ensures.value) at c.raise.ensures in
    let scores_back = with_items_is p.scores c.raise.new.scores (ap length raised ∙ learnt.length_raised (m.conflicts + 1) m.scores s.lits ∙ sym p.scores.ok.0) in
    let restarted = c.restart.ensures.restart (add_lesson (count_conflict m) s) (sym (ap (λ (t : Entries). t.steps) c.cut.ensures)) refl refl in
    let moves = learnt.add_moves p.budget m s _ _ _ _ _ here c.requires.some pushed (scores_back ∙ raised) restarted in
    rw (← c.self.view_is) (cases.stepped_whole (the_view p) _ moves whole)
