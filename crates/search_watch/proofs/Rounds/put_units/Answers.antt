use Rattle.std.proofs.Common.{◌≡◌, ◌+◌, ◌∙◌, ℕ, Bool, true, [], List, length, take, ap, sym, refl, subst, arith}
use Rattle.std.proofs.lemmas.List.{with_items_is}
use Rattle.std.specs.Vec.{with_items}
use Rattle.search_learn.specs.declared.Step.{Step}
use Rattle.search_learn.specs.Cases.{unit_entries}
use Rattle.search_learn.specs.Machine.{State, numbered, quietly}
use Rattle.search_learn.specs.Trail.{is_assigned}
use Rattle.search_learn.specs.Values.{IsOfMachine}
use Rattle.search_learn.proofs.Cases as cases
use Rattle.search_learn.specs.Kept.{Holds}
use Rattle.search_learn.proofs.Steps as steps
use Rattle.search_watch.specs.Nets.{IsNet, net}
use Rattle.search_watch.specs.contracts.Rounds.{the_view}
use Rattle.search_watch.proofs.Follows as follows
use Rattle.search_watch.proofs.Rounds.put_units.Goals as goal

pub level-level-requires : goal.level-level-requires
level-level-requires c =
    let p = c.self.inside in
    let f = c.self.invariant (rw (← c.self.view_is) at c.requires.whole) in
    subst (λ (v : ℕ). IsOfMachine v p.trail.steps) (sym f.holds.over) (follows.machine (take p.inputs p.watches.clauses) p.budget _ _ _ _ (the_view p).state f f.formula)

pub round-requires-clause-quiet : goal.round-requires-clause-quiet
round-requires-clause-quiet c =
    let p = c.self.inside in
    let f = c.self.invariant (rw (← c.self.view_is) at c.requires.whole) in
    follows.quiet-least (take p.inputs p.watches.clauses) p.budget _ _ _ _ (the_view p).state f f.formula (rw (← c.self.view_is) at c.requires.unbroken)

pub round-requires-clause-machine : goal.round-requires-clause-machine
round-requires-clause-machine c =
    let p = c.self.inside in
    let f = c.self.invariant (rw (← c.self.view_is) at c.requires.whole) in
    subst (λ (v : ℕ). IsOfMachine v p.trail.steps) (sym f.holds.over) (follows.machine (take p.inputs p.watches.clauses) p.budget _ _ _ _ (the_view p).state f f.formula)

pub overflow_add-self : goal.overflow_add-self
overflow_add-self c =
    let p = c.self.inside in
    let f = c.self.invariant (rw (← c.self.view_is) at c.requires.whole) in
    let here = rw (← c.self.view_is) at c.requires.here in
    let going = here.going in
    let limit = f.holds.limit in
    let count = c.in_ok-self-inside.ensures.count in
    omega arith

pub invariant_of-self-2 : goal.invariant_of-self-2
invariant_of-self-2 c =
    let p = c.self.inside in
    let m = (the_view p).state in
    let f = c.self.invariant (rw (← c.self.view_is) at c.requires.whole) in
    let here = rw (← c.self.view_is) at c.requires.here in
    let out = c.in_ok-self-inside.ensures in
    let u = c.round.new.trail.steps in
    let spent = p.spent + c.in_ok-self-inside.field-0 in
    let size : length c.round.new.signs ≡ length p.signs.items = out.signs ∙ ap length c.deref_mut.ensures.value in
    let signs = with_items_is p.signs c.round.new.signs (size ∙ sym p.signs.ok.0) in
    let es = unit_entries p.trail.steps c.level-level.result m.clauses in
    let put = out.put m refl (sym c.deref_mut.ensures.value) in
    let moves = cases.round_is p.budget m _ es here (ap (λ (d : ℕ). unit_entries p.trail.steps d m.clauses) c.level-level.ensures.level) put
    ∙ ap (λ (x : List Bool). quietly (record m { trail = u; signs = x; spent = spent })) (sym signs) in
    let held = steps.holds_more (take p.inputs p.watches.clauses) p.budget _ c.round.new.trail.vars _ m _ _ _ f.holds moves (out.vars ∙ f.holds.over) (ap length signs ∙ size ∙ f.holds.signs) (omega arith) in
    let all : numbered 1 c.round.new.self.clauses ≡ m.clauses = ap (numbered 1) out.clauses in
    λ _. follows.follows_given _ (take p.inputs p.watches.clauses) _ _ _ _ _ _ (ap (take p.inputs) out.clauses) (record {
      learnt = f.learnt;
      size = ap length out.clauses ∙ f.size;
      given = f.given;
      formula = f.formula;
      holds = subst (Holds (take p.inputs p.watches.clauses) p.budget c.round.new.trail.vars f.learnt) (λ i. record m { clauses = sym all i; trail = u; signs = (with_items p.signs c.round.new.signs).items; spent = spent }) held;
      clauses = refl;
      learner = f.learner;
      members = f.members;
      net = λ e. subst (λ (v : ℕ). IsNet v u [] (net c.round.new.self)) (out.vars ∙ f.holds.over) out.net;
      free = λ e. follows.free-grown p.vars p.trail.steps u p.heap (λ l h. subst (λ (t : List Step). is_assigned t l ≡ true) (ap (λ (x : State). x.trail) put) (follows.entries-keep es m l h)) (f.free e);
    })

pub returns-clause-ok : goal.returns-clause-ok
returns-clause-ok c =
    let p = c.self.inside in
    let m = (the_view p).state in
    let whole = rw (← c.self.view_is) at c.requires.whole in
    let here = rw (← c.self.view_is) at c.requires.here in
    let out = c.in_ok-self-inside.ensures in
    let u = c.round.new.trail.steps in
    let spent = p.spent + c.in_ok-self-inside.field-0 in
    let size : length c.round.new.signs ≡ length p.signs.items = out.signs ∙ ap length c.deref_mut.ensures.value in
    let signs = with_items_is p.signs c.round.new.signs (size ∙ sym p.signs.ok.0) in
    let all : numbered 1 c.round.new.self.clauses ≡ m.clauses = ap (numbered 1) out.clauses in
    let moves = cases.round_is p.budget m _ (unit_entries p.trail.steps c.level-level.result m.clauses) here (ap (λ (d : ℕ). unit_entries p.trail.steps d m.clauses) c.level-level.ensures.level) (out.put m refl (sym c.deref_mut.ensures.value))
    ∙ (λ i. quietly (record m { clauses = sym all i; trail = u; signs = sym signs i; spent = spent })) in
    rw (← c.self.view_is) (follows.stepped_given (the_view p) _ _ (ap (take p.inputs) out.clauses) moves whole)
