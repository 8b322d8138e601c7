use Rattle.std.proofs.Common.{◌≡◌, ◌+◌, ◌-◌, ◌++◌, ◌∷◌, ◌∙◌, ◌≤◌, ℕ, Bool, false, [], List, length, get_or, set, take, ap, sym, refl, subst, arith, length-set}
use Rattle.std.specs.Prelude.{Ok, Err, MatchResult, ⊤}
use Rattle.std.specs.declared.result.Result.{Result}
use Rattle.std.specs.Option.{option_map}
use Rattle.std.specs.Vec.{with_items}
use Rattle.std.proofs.lemmas.List.{with_items_is}
use Rattle.search_learn.specs.declared.Step.{Step}
use Rattle.search_learn.specs.declared.Turn.TheVariants.{Budget, Sat}
use Rattle.search_learn.specs.Machine.{Clause, decide, numbered, quietly}
use Rattle.search_learn.specs.Values.{Entries, IsOfMachine}
use Rattle.search_learn.proofs.Cases as cases
use Rattle.search_learn.specs.Kept.{Holds}
use Rattle.search_learn.proofs.Steps as steps
use Rattle.search_watch.specs.Added.{decision}
use Rattle.search_watch.specs.Members.{HasFree}
use Rattle.search_watch.specs.Nets.{IsNet, net}
use Rattle.search_watch.specs.contracts.Rounds.{the_view}
use Rattle.search_watch.proofs.Follows as follows
use Rattle.search_watch.proofs.Rounds.decide.Goals as goal

pub decide-requires-clause-least : goal.decide-requires-clause-least
decide-requires-clause-least c =
    let p = c.self.inside in
    let f = c.self.invariant (rw (← c.self.view_is) at c.requires.whole) in
    let q = rw (← c.self.view_is) at c.requires.here in
    follows.quiet-least (take p.inputs p.watches.clauses) p.budget _ _ _ _ (the_view p).state f f.formula q.unbroken

pub decide-requires-clause-units : goal.decide-requires-clause-units
decide-requires-clause-units c =
    let p = c.self.inside in
    let f = c.self.invariant (rw (← c.self.view_is) at c.requires.whole) in
    follows.quiet-units (take p.inputs p.watches.clauses) p.budget _ _ _ _ (the_view p).state f f.formula (rw (← c.self.view_is) at c.requires.here)

pub decide-requires-clause-machine : goal.decide-requires-clause-machine
decide-requires-clause-machine c =
    let p = c.self.inside in
    let f = c.self.invariant (rw (← c.self.view_is) at c.requires.whole) in
    subst (λ (v : ℕ). IsOfMachine v p.trail.steps) (sym f.holds.over) (follows.machine (take p.inputs p.watches.clauses) p.budget _ _ _ _ (the_view p).state f f.formula)

pub invariant_of-self-then-self : goal.invariant_of-self-then-self
invariant_of-self-then-self c =
    let p = c.self.inside in
    let m = (the_view p).state in
    let f = c.self.invariant (rw (← c.self.view_is) at c.requires.whole) in
    let q = rw (← c.self.view_is) at c.requires.here in
    let more = q.unbroken.before in
    let var = c.in-Some.var in
    let first = c.in-Some.ensures.some in
    let within : var ≤ m.vars = subst (λ (n : ℕ). var ≤ n) f.holds.scores first.within in
    let none = sym (ap (option_map (λ (x : Clause). x.id)) q.unbroken.none) in
    let made = cases.choice_made p.budget m more none q.unit (follows.one-free m var first.above within first.free) c.if-self.true in
    let chosen = follows.first-chosen m p.heap var refl f.holds.scores (f.free more) first in
    let out = c.in_ok-decide.ensures in
    let e = decision m.trail m.signs var in
    let steps_is : c.decide.new.trail.steps ≡ m.trail ++ e ∷ [] = ap (λ (x : Entries). x.steps) out.trail ∙ ap (λ (s : List Bool). m.trail ++ decision m.trail s var ∷ []) c.deref_mut.ensures.value in
    let set_is : c.decide.new.signs ≡ set m.signs (var - 1) (get_or m.signs (var - 1) false) = out.signs ∙ ap (λ (s : List Bool). set s (var - 1) (get_or s (var - 1) false)) c.deref_mut.ensures.value in
    let signs = with_items_is p.signs c.decide.new.signs (ap length set_is ∙ length-set m.signs _ _ ∙ sym p.signs.ok.0) ∙ set_is in
    let moves = made.moves ∙ ap (λ (v : ℕ). quietly (decide m v)) chosen ∙ (λ i. quietly (record m { trail = sym steps_is i; signs = sym signs i; spent = m.spent + 1 })) in
    let over : c.decide.new.trail.vars ≡ m.vars = ap (λ (x : Entries). x.vars) out.trail ∙ f.holds.over in
    let held = steps.holds_more (take p.inputs p.watches.clauses) p.budget _ c.decide.new.trail.vars _ m _ _ _ f.holds moves over (ap length signs ∙ length-set m.signs _ _ ∙ f.holds.signs) (omega arith) in
    let all : numbered 1 c.decide.new.self.clauses ≡ m.clauses = ap (numbered 1) out.clauses in
    let scores = c.choose.ensures.scores in
    λ _. follows.follows_given _ (take p.inputs p.watches.clauses) _ _ _ _ _ _ (ap (take p.inputs) out.clauses) (record {
      learnt = f.learnt;
      size = ap length out.clauses ∙ f.size;
      given = f.given;
      formula = f.formula;
      holds = subst (Holds (take p.inputs p.watches.clauses) p.budget c.decide.new.trail.vars f.learnt) (λ i. record m { clauses = sym all i; trail = c.decide.new.trail.steps; scores = sym scores i; signs = (with_items p.signs c.decide.new.signs).items; spent = m.spent + 1 }) held;
      clauses = refl;
      learner = f.learner;
      members = c.choose.ensures.size ∙ f.members;
      net = λ _. subst (λ (v : ℕ). IsNet v c.decide.new.trail.steps [] (net c.decide.new.self)) over out.net;
      free = λ _. subst (λ (t : List Step). HasFree m.vars t c.choose.new.heap) (sym steps_is) (follows.free-decided m.vars m.trail e p.heap c.choose.new.heap var refl (f.free more) c.in-Some.ensures.rest);
    })

pub returns-then-self-clause-ok : goal.returns-then-self-clause-ok
returns-then-self-clause-ok c =
    let p = c.self.inside in
    let m = (the_view p).state in
    let whole = rw (← c.self.view_is) at c.requires.whole in
    let f = c.self.invariant whole in
    let q = rw (← c.self.view_is) at c.requires.here in
    let more = q.unbroken.before in
    let var = c.in-Some.var in
    let first = c.in-Some.ensures.some in
    let within : var ≤ m.vars = subst (λ (n : ℕ). var ≤ n) f.holds.scores first.within in
    let none = sym (ap (option_map (λ (x : Clause). x.id)) q.unbroken.none) in
    let made = cases.choice_made p.budget m more none q.unit (follows.one-free m var first.above within first.free) c.if-self.true in
    let chosen = follows.first-chosen m p.heap var refl f.holds.scores (f.free more) first in
    let out = c.in_ok-decide.ensures in
    let e = decision m.trail m.signs var in
    let steps_is : c.decide.new.trail.steps ≡ m.trail ++ e ∷ [] = ap (λ (x : Entries). x.steps) out.trail ∙ ap (λ (s : List Bool). m.trail ++ decision m.trail s var ∷ []) c.deref_mut.ensures.value in
    let set_is : c.decide.new.signs ≡ set m.signs (var - 1) (get_or m.signs (var - 1) false) = out.signs ∙ ap (λ (s : List Bool). set s (var - 1) (get_or s (var - 1) false)) c.deref_mut.ensures.value in
    let signs = with_items_is p.signs c.decide.new.signs (ap length set_is ∙ length-set m.signs _ _ ∙ sym p.signs.ok.0) ∙ set_is in
    let all : numbered 1 c.decide.new.self.clauses ≡ m.clauses = ap (numbered 1) out.clauses in
    let scores = c.choose.ensures.scores in
    let moves = made.moves ∙ ap (λ (v : ℕ). quietly (decide m v)) chosen ∙ (λ i. quietly (record m { clauses = sym all i; trail = sym steps_is i; scores = sym scores i; signs = sym signs i; spent = m.spent + 1 })) in
    rw (← c.self.view_is) (follows.stepped_given (the_view p) _ _ (ap (take p.inputs) out.clauses) moves whole)

pub invariant_of-self-in-Some : goal.invariant_of-self-in-Some
invariant_of-self-in-Some c =
    let p = c.self.inside in
    let m = (the_view p).state in
    let f = c.self.invariant (rw (← c.self.view_is) at c.requires.whole) in
    let q = rw (← c.self.view_is) at c.requires.here in
    let more = q.unbroken.before in
    let first = c.in-Some.ensures.some in
    let within : c.in-Some.var ≤ m.vars = subst (λ (n : ℕ). c.in-Some.var ≤ n) f.holds.scores first.within in
    let none = sym (ap (option_map (λ (x : Clause). x.id)) q.unbroken.none) in
    let moves = cases.choice_spent p.budget m more none q.unit (follows.one-free m c.in-Some.var first.above within first.free) c.if-self.false in
    λ _. follows.follows_ends (take p.inputs p.watches.clauses) p.budget _ _ (net p.watches) p.heap m f (Budget m.spent) c.choose.new.heap (λ e. cc) c.choose.ensures.scores c.choose.ensures.size moves

pub returns-in-Some-clause-ok : goal.returns-in-Some-clause-ok
returns-in-Some-clause-ok c =
    let p = c.self.inside in
    let m = (the_view p).state in
    let whole = rw (← c.self.view_is) at c.requires.whole in
    let f = c.self.invariant whole in
    let q = rw (← c.self.view_is) at c.requires.here in
    let more = q.unbroken.before in
    let first = c.in-Some.ensures.some in
    let within : c.in-Some.var ≤ m.vars = subst (λ (n : ℕ). c.in-Some.var ≤ n) f.holds.scores first.within in
    let none = sym (ap (option_map (λ (x : Clause). x.id)) q.unbroken.none) in
    let moves = cases.choice_spent p.budget m more none q.unit (follows.one-free m c.in-Some.var first.above within first.free) c.if-self.false
    ∙ ap (λ (s : List ℕ). quietly (record m { scores = s; end = Budget m.spent })) (sym c.choose.ensures.scores) in
    rw (← c.self.view_is) (cases.stepped_whole (the_view p) _ moves whole)

pub invariant_of-self-2 : goal.invariant_of-self-2
invariant_of-self-2 c =
    let p = c.self.inside in
    let m = (the_view p).state in
    let f = c.self.invariant (rw (← c.self.view_is) at c.requires.whole) in
    let q = rw (← c.self.view_is) at c.requires.here in
    let more = q.unbroken.before in
    let none = sym (ap (option_map (λ (x : Clause). x.id)) q.unbroken.none) in
    let moves = cases.all_solved p.budget m more none q.unit (follows.all-taken m p.heap (f.free more) c.in_default.ensures.none) in
    λ _. follows.follows_ends (take p.inputs p.watches.clauses) p.budget _ _ (net p.watches) p.heap m f Sat c.choose.new.heap (λ e. cc) c.choose.ensures.scores c.choose.ensures.size moves

pub returns-clause-ok : goal.returns-clause-ok
returns-clause-ok c =
    let p = c.self.inside in
    let m = (the_view p).state in
    let whole = rw (← c.self.view_is) at c.requires.whole in
    let f = c.self.invariant whole in
    let q = rw (← c.self.view_is) at c.requires.here in
    let more = q.unbroken.before in
    let none = sym (ap (option_map (λ (x : Clause). x.id)) q.unbroken.none) in
    let moves = cases.all_solved p.budget m more none q.unit (follows.all-taken m p.heap (f.free more) c.in_default.ensures.none)
    ∙ ap (λ (s : List ℕ). quietly (record m { scores = s; end = Sat })) (sym c.choose.ensures.scores) in
    rw (← c.self.view_is) (cases.stepped_whole (the_view p) _ moves whole)

on_err : {A E : Type 0} (r : Result A E) (P : Type 0) → P → MatchResult r (λ _. ⊤) (λ _. P)
on_err (Ok x) P p = tt
on_err (Err e) P p = p

pub returns-in_err-decide-clause-kept : goal.returns-in_err-decide-clause-kept
returns-in_err-decide-clause-kept c =
    let p = c.self.inside in
    rw (← c.self.view_is) (on_err c.from_residual.result _ (record { vars = refl; clauses = ap (take p.inputs) c.decide.ensures.clauses; budget = refl }))
