use Rattle.std.proofs.Common.{◌≡◌, ◌+◌, ◌++◌, ◌∷◌, ◌∙◌, ◌<◌, ℕ, [], List, length, take, ap, sym, refl, subst, arith, length-append}
use Rattle.std.specs.Prelude.{Ok, Err, MatchResult, ⊤}
use Rattle.std.specs.declared.result.Result.{Result}
use Rattle.search_learn.specs.declared.Step.{Step}
use Rattle.search_learn.specs.Analysis.{seen}
use Rattle.search_learn.specs.Machine.{add_lesson, count_conflict, numbered, raise}
use Rattle.search_learn.specs.Trail.{cut}
use Rattle.search_learn.specs.Values.{Entries, IsOfMachine}
use Rattle.search_learn.proofs.Cases as cases
use Rattle.search_learn.proofs.Lessons as learnt
use Rattle.search_learn.proofs.Held as lessons
use Rattle.search_watch.specs.Chosen.{IsOpen}
use Rattle.search_watch.specs.Members.{HasFree, IsCutOrSame}
use Rattle.search_watch.specs.Nets.{Net, IsNet, net}
use Rattle.search_watch.specs.contracts.Rounds.{the_view}
use Rattle.search_watch.proofs.Follows as follows
use Rattle.search_watch.proofs.Levels.{cut-machine}
use Rattle.search_watch.proofs.Numbered.{numbered-push}
use Rattle.search_watch.proofs.Rounds.add.Goals as goal

pub cut-requires-clause-trail : goal.cut-requires-clause-trail
cut-requires-clause-trail c =
    let p = c.self.inside in
    let f = c.self.invariant (rw (← c.self.view_is) at c.requires.whole) in
    subst (λ (v : ℕ). IsOfMachine v p.trail.steps) (sym f.holds.over) (follows.machine (take p.inputs p.watches.clauses) p.budget _ _ _ _ (the_view p).state f f.formula)

pub raise-requires-clause-within : goal.raise-requires-clause-within
raise-requires-clause-within c =
    let p = c.self.inside in
    let m = (the_view p).state in
    let f = c.self.invariant (rw (← c.self.view_is) at c.requires.whole) in
    let here = rw (← c.self.view_is) at c.requires.here in
    let s = seen c.args.learnt in
    rw (c.deref.ensures.value, c.cut.ensures.scores, f.holds.scores) (follows.ranged (take p.inputs p.watches.clauses) p.budget _ _ _ _ m f f.formula s here c.requires.some)

pub restart-requires-clause-trail : goal.restart-requires-clause-trail
restart-requires-clause-trail c =
    let p = c.self.inside in
    let m = (the_view p).state in
    let f = c.self.invariant (rw (← c.self.view_is) at c.requires.whole) in
    let machine = cut-machine m.vars c.args.learnt.back m.trail (follows.machine (take p.inputs p.watches.clauses) p.budget _ _ _ _ m f f.formula) in
    rw (c.cut.ensures.trail, f.holds.over) machine

pub restart-requires-clause-scores : goal.restart-requires-clause-scores
restart-requires-clause-scores c =
    let p = c.self.inside in
    let f = c.self.invariant (rw (← c.self.view_is) at c.requires.whole) in
    ap length c.raise.ensures.scores ∙ learnt.length_raised _ c.cut.new.heap.scores c.deref.result.now ∙ ap length c.cut.ensures.scores ∙ f.holds.scores ∙ sym f.holds.over ∙ sym (ap (λ (t : Entries). t.vars) c.cut.ensures.trail)

pub add-requires-clause-net : goal.add-requires-clause-net
add-requires-clause-net c =
    let p = c.self.inside in
    let m = (the_view p).state in
    let f = c.self.invariant (rw (← c.self.view_is) at c.requires.whole) in
    let here = rw (← c.self.view_is) at c.requires.here in
    let s = seen c.args.learnt in
    let u = c.restart.new.trail.steps in
    let shorter : IsCutOrSame (cut s.back m.trail) u = subst (λ (t : List Step). IsCutOrSame t u) (ap (λ (t : Entries). t.steps) c.cut.ensures.trail) c.restart.ensures.cut in
    let over : c.restart.new.trail.vars ≡ m.vars = c.restart.ensures.vars ∙ ap (λ (t : Entries). t.vars) c.cut.ensures.trail ∙ f.holds.over in
    let cutting = follows.net-cut (take p.inputs p.watches.clauses) p.budget _ _ (net p.watches) _ m f f.formula s here c.requires.some u shorter in
    subst (λ (v : ℕ). IsNet v u [] (net c.forget.new.self)) (sym over) (subst (IsNet m.vars u []) (sym c.forget.ensures) cutting)

pub add-requires-clause-variables : goal.add-requires-clause-variables
add-requires-clause-variables c =
    let p = c.self.inside in
    let m = (the_view p).state in
    let f = c.self.invariant (rw (← c.self.view_is) at c.requires.whole) in
    let here = rw (← c.self.view_is) at c.requires.here in
    let over : c.restart.new.trail.vars ≡ m.vars = c.restart.ensures.vars ∙ ap (λ (t : Entries). t.vars) c.cut.ensures.trail ∙ f.holds.over in
    subst (λ (v : ℕ). 0 < v) (sym over) (follows.variables (take p.inputs p.watches.clauses) p.budget _ _ _ _ m f f.formula (seen c.args.learnt) here c.requires.some)

pub add-requires-clause-within : goal.add-requires-clause-within
add-requires-clause-within c =
    let p = c.self.inside in
    let m = (the_view p).state in
    let f = c.self.invariant (rw (← c.self.view_is) at c.requires.whole) in
    let here = rw (← c.self.view_is) at c.requires.here in
    let s = seen c.args.learnt in
    let over : c.restart.new.trail.vars ≡ m.vars = c.restart.ensures.vars ∙ ap (λ (t : Entries). t.vars) c.cut.ensures.trail ∙ f.holds.over in
    rw (c.deref-2.ensures.value, over) (follows.ranged (take p.inputs p.watches.clauses) p.budget _ _ _ _ m f f.formula s here c.requires.some)

pub add-requires-clause-machine : goal.add-requires-clause-machine
add-requires-clause-machine c =
    let p = c.self.inside in
    let m = (the_view p).state in
    let f = c.self.invariant (rw (← c.self.view_is) at c.requires.whole) in
    let here = rw (← c.self.view_is) at c.requires.here in
    let s = seen c.args.learnt in
    let u = c.restart.new.trail.steps in
    let shorter : IsCutOrSame (cut s.back m.trail) u = subst (λ (t : List Step). IsCutOrSame t u) (ap (λ (t : Entries). t.steps) c.cut.ensures.trail) c.restart.ensures.cut in
    let over : c.restart.new.trail.vars ≡ m.vars = c.restart.ensures.vars ∙ ap (λ (t : Entries). t.vars) c.cut.ensures.trail ∙ f.holds.over in
    let k = follows.cut-is (take p.inputs p.watches.clauses) p.budget _ _ _ _ m f f.formula s here c.requires.some u shorter in
    let machine = cut-machine m.vars k.0 m.trail (follows.machine (take p.inputs p.watches.clauses) p.budget _ _ _ _ m f f.formula) in
    subst (λ (v : ℕ). IsOfMachine v u) (sym over) (subst (IsOfMachine m.vars) (sym k.2) machine)

pub add-requires-clause-open : goal.add-requires-clause-open
add-requires-clause-open c =
    let p = c.self.inside in
    let m = (the_view p).state in
    let f = c.self.invariant (rw (← c.self.view_is) at c.requires.whole) in
    let here = rw (← c.self.view_is) at c.requires.here in
    let s = seen c.args.learnt in
    let u = c.restart.new.trail.steps in
    let shorter : IsCutOrSame (cut s.back m.trail) u = subst (λ (t : List Step). IsCutOrSame t u) (ap (λ (t : Entries). t.steps) c.cut.ensures.trail) c.restart.ensures.cut in
    λ above. subst (IsOpen u) (sym c.deref-2.ensures.value) (follows.opens (take p.inputs p.watches.clauses) p.budget _ _ _ _ m f f.formula s here c.requires.some u shorter above)

pub invariant_of-self-2 : goal.invariant_of-self-2
invariant_of-self-2 c =
    let p = c.self.inside in
    let m = (the_view p).state in
    let f = c.self.invariant (rw (← c.self.view_is) at c.requires.whole) in
    let here = rw (← c.self.view_is) at c.requires.here in
    let kept = follows.kept (take p.inputs p.watches.clauses) p.budget _ _ _ _ m f f.formula in
    let s = seen c.args.learnt in
    let u = c.restart.new.trail.steps in
    let all = c.in_ok-add.ensures.clauses ∙ (λ i. (ap (λ (x : Net). x.clauses) c.forget.ensures) i ++ c.deref-2.ensures.value i ∷ []) in
    let each = f.holds.each here.before in
    let size = f.size in
    let given = f.given in
    let pushed = ap (numbered 1) all ∙ numbered-push 1 p.watches.clauses s.lits (m.inputs + (m.conflicts + 1)) (omega arith) in
    let by = m.conflicts + 1 in
    let raised = c.raise.ensures.scores ∙ (λ i. raise by (c.cut.ensures.scores i) (c.deref.ensures.value i)) in
    let scores = c.restart.ensures.scores ∙ raised in
    let out = c.restart.ensures in
    let restarted = out.restart (add_lesson (count_conflict m) s) (sym (ap (λ (t : Entries). t.steps) c.cut.ensures.trail)) refl refl in
    let moves = learnt.add_moves p.budget m s _ _ _ _ _ here c.requires.some pushed scores restarted in
    let cut_vars : c.cut.new.trail.vars ≡ p.trail.vars = ap (λ (t : Entries). t.vars) c.cut.ensures.trail in
    let over : c.restart.new.trail.vars ≡ m.vars = out.vars ∙ cut_vars ∙ f.holds.over in
    let free_cut : HasFree m.vars c.cut.new.trail.steps c.cut.new.heap =
    subst (λ (v : ℕ). HasFree v c.cut.new.trail.steps c.cut.new.heap) f.holds.over (c.cut.ensures.free (subst (λ (v : ℕ). HasFree v m.trail p.heap) (sym f.holds.over) (f.free here.before))) in
    let free_raised = follows.free-members m.vars c.cut.new.trail.steps c.cut.new.heap c.raise.new.heap c.raise.ensures.members free_cut in
    let both : c.cut.new.trail.vars ≡ m.vars = cut_vars ∙ f.holds.over in
    let free = subst (λ (v : ℕ). HasFree v u c.restart.new.heap) both (out.free (subst (λ (v : ℕ). HasFree v c.cut.new.trail.steps c.raise.new.heap) (sym both) free_raised)) in
    λ _. follows.follows_given _ (take p.inputs p.watches.clauses) _ _ _ _ _ _ (ap (take p.inputs) all ∙ follows.taken_more p.inputs p.watches.clauses (s.lits ∷ []) f.given) (record {
      learnt = f.learnt + 1;
      size = ap length all ∙ length-append p.watches.clauses (s.lits ∷ []) ∙ more (length p.watches.clauses) (length (take p.inputs p.watches.clauses)) f.learnt size;
      given = f.given;
      formula = f.formula;
      holds = lessons.holds_add (take p.inputs p.watches.clauses) p.budget _ _ f.learnt m s _ _ _ _ _ (f.learnt + 1) f.holds kept here moves scores over out.restarts out.since refl;
      clauses = refl;
      learner = f.learner;
      members = out.size ∙ ap length c.raise.ensures.members ∙ c.cut.ensures.size ∙ f.members;
      net = λ _. subst (λ (v : ℕ). IsNet v u [] (net c.add.new.self)) over c.in_ok-add.ensures.net;
      free = λ _. free;
    })
  where
    more : (a b n : ℕ) → a ≡ b + n → a + 1 ≡ b + (n + 1)
    more a b n e = omega arith

pub returns-clause-ok : goal.returns-clause-ok
returns-clause-ok c =
    let p = c.self.inside in
    let m = (the_view p).state in
    let whole = rw (← c.self.view_is) at c.requires.whole in
    let f = c.self.invariant whole in
    let here = rw (← c.self.view_is) at c.requires.here in
    let s = seen c.args.learnt in
    let all = c.in_ok-add.ensures.clauses ∙ (λ i. (ap (λ (x : Net). x.clauses) c.forget.ensures) i ++ c.deref-2.ensures.value i ∷ []) in
    let each = f.holds.each here.before in
    let size = f.size in
    let given = f.given in
    let pushed = ap (numbered 1) all ∙ numbered-push 1 p.watches.clauses s.lits (m.inputs + (m.conflicts + 1)) (omega arith) in
    let by = m.conflicts + 1 in
    let raised = c.raise.ensures.scores ∙ (λ i. raise by (c.cut.ensures.scores i) (c.deref.ensures.value i)) in
    let scores = c.restart.ensures.scores ∙ raised in
    let restarted = c.restart.ensures.restart (add_lesson (count_conflict m) s) (sym (ap (λ (t : Entries). t.steps) c.cut.ensures.trail)) refl refl in
    let moves = learnt.add_moves p.budget m s _ _ _ _ _ here c.requires.some pushed scores restarted in
    rw (← c.self.view_is) (follows.stepped_given (the_view p) _ _ (ap (take p.inputs) all ∙ follows.taken_more p.inputs p.watches.clauses (s.lits ∷ []) f.given) moves whole)

on_err : {A E : Type 0} (r : Result A E) (P : Type 0) → P → MatchResult r (λ _. ⊤) (λ _. P)
on_err (Ok x) P p = tt
on_err (Err e) P p = p

pub returns-in_err-add-clause-kept : goal.returns-in_err-add-clause-kept
returns-in_err-add-clause-kept c =
    let p = c.self.inside in
    rw (← c.self.view_is) (on_err c.from_residual.result _ (record { vars = refl; clauses = ap (take p.inputs) (c.in_err-add.ensures.kept ∙ ap (λ (x : Net). x.clauses) c.forget.ensures); budget = refl }))
