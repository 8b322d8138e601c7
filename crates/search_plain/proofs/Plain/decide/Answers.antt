use Rattle.std.proofs.Common.{◌≡◌, ◌+◌, ◌-◌, ◌++◌, ◌∷◌, [], ◌∙◌, ap, sym, refl, false, arith, ℕ, length, get_or, set, length-set}
use Rattle.std.proofs.lemmas.List.{with_items_is}
use Rattle.std.specs.List.{range_with_len}
use Rattle.sat_form.specs.Literals.{Literal}
use Rattle.search_learn.specs.Trail.{level}
use Rattle.search_learn.specs.Machine.{quietly, choose}
use Rattle.search_learn.specs.Values.{Entries}
use Rattle.search_plain.specs.contracts.Plain.{the_view}
use Rattle.search_learn.proofs.Steps as steps
use Rattle.search_learn.proofs.Cases as cases
use Rattle.search_learn.proofs.Lessons as learnt
use Rattle.search_learn.proofs.Reached.{either_sign}
use Rattle.search_plain.proofs.Plain.decide.Goals as goal

pub overflow_sub-var : goal.overflow_sub-var
overflow_sub-var c =
    let p = c.self.inside in
    let m = (the_view p).state in
    let whole = rw (← c.self.view_is) at c.requires.whole in
    let here = rw (← c.self.view_is) at c.requires.here in
    let holds = c.self.invariant whole in
    let free = cases.chosen_free p.budget m here in
    let v = choose m 0 (range_with_len 1 m.vars) in
    let var : c.choose-var.result ≡ v = c.choose-var.ensures m refl (sym c.deref.ensures.value) in
    let low = free.above in
    let high = free.within in
    let size = holds.signs in
    omega arith

pub index-requires : goal.index-requires
index-requires c =
    let p = c.self.inside in
    let m = (the_view p).state in
    let whole = rw (← c.self.view_is) at c.requires.whole in
    let here = rw (← c.self.view_is) at c.requires.here in
    let holds = c.self.invariant whole in
    let free = cases.chosen_free p.budget m here in
    let v = choose m 0 (range_with_len 1 m.vars) in
    let var : c.choose-var.result ≡ v = c.choose-var.ensures m refl (sym c.deref.ensures.value) in
    let low = free.above in
    let high = free.within in
    let size = holds.signs in
    omega arith

pub new-requires : goal.new-requires
new-requires c =
    let p = c.self.inside in
    let m = (the_view p).state in
    let whole = rw (← c.self.view_is) at c.requires.whole in
    let here = rw (← c.self.view_is) at c.requires.here in
    let holds = c.self.invariant whole in
    let free = cases.chosen_free p.budget m here in
    let v = choose m 0 (range_with_len 1 m.vars) in
    let var : c.choose-var.result ≡ v = c.choose-var.ensures m refl (sym c.deref.ensures.value) in
    let low = free.above in
    let high = free.within in
    let size = holds.signs in
    let small = cases.vars_small p.clauses.vars p.clauses.clauses p.clauses.in_range in
    (omega arith, omega arith)

pub level-requires : goal.level-requires
level-requires c =
    let p = c.self.inside in
    let holds = c.self.invariant (rw (← c.self.view_is) at c.requires.whole) in
    steps.machine_of p.clauses.clauses p.budget _ _ (the_view p).state p.clauses.in_range holds

pub assign-requires-clause-within : goal.assign-requires-clause-within
assign-requires-clause-within c =
    let p = c.self.inside in
    let m = (the_view p).state in
    let whole = rw (← c.self.view_is) at c.requires.whole in
    let here = rw (← c.self.view_is) at c.requires.here in
    let holds = c.self.invariant whole in
    let free = cases.chosen_free p.budget m here in
    let v = choose m 0 (range_with_len 1 m.vars) in
    let var : c.choose-var.result ≡ v = c.choose-var.ensures m refl (sym c.deref.ensures.value) in
    let low = free.above in
    let high = free.within in
    let size = holds.signs in
    let over = holds.over in
    let lit = ap (λ (x : Literal). x.var) c.new.ensures in
    omega arith

pub assign-requires-clause-free : goal.assign-requires-clause-free
assign-requires-clause-free c =
    let p = c.self.inside in
    let m = (the_view p).state in
    let whole = rw (← c.self.view_is) at c.requires.whole in
    let here = rw (← c.self.view_is) at c.requires.here in
    let holds = c.self.invariant whole in
    let free = cases.chosen_free p.budget m here in
    let v = choose m 0 (range_with_len 1 m.vars) in
    let var : c.choose-var.result ≡ v = c.choose-var.ensures m refl (sym c.deref.ensures.value) in
    let low = free.above in
    let high = free.within in
    let size = holds.signs in
    rw (c.new.ensures, var) (either_sign p.trail.steps v c.index.result.now free.free)

pub invariant_of-self-2 : goal.invariant_of-self-2
invariant_of-self-2 c =
    let p = c.self.inside in
    let m = (the_view p).state in
    let whole = rw (← c.self.view_is) at c.requires.whole in
    let here = rw (← c.self.view_is) at c.requires.here in
    let holds = c.self.invariant whole in
    let free = cases.chosen_free p.budget m here in
    let v = choose m 0 (range_with_len 1 m.vars) in
    let var : c.choose-var.result ≡ v = c.choose-var.ensures m refl (sym c.deref.ensures.value) in
    let low = free.above in
    let high = free.within in
    let size = holds.signs in
    let out = c.in_ok-assign.ensures in
    let sign : c.index.result.now ≡ get_or m.signs (v - 1) false =
    c.index.ensures ∙ ap (λ (x : ℕ). get_or m.signs (x - 1) c.index.result.now) var ∙ learnt.any_default m.signs (v - 1) c.index.result.now false (omega arith) in
    let lit : c.new.result ≡ record { var = v; positive = get_or m.signs (v - 1) false } = c.new.ensures ∙ (λ i. record { var = var i; positive = sign i }) in
    let level_is = c.level.ensures.level in
    let trail : c.assign.new.trail.steps ≡ m.trail ++ record { lit = record { var = v; positive = get_or m.signs (v - 1) false }; level = level m.trail + 1; reason = 0 } ∷ [] =
    ap (λ (t : Entries). t.steps) out.trail ∙ (λ i. m.trail ++ record { lit = lit i; level = level_is i + 1; reason = 0 } ∷ []) in
    let set_is : c.assign.new.signs ≡ set m.signs (c.new.result.var - 1) c.new.result.positive = rw c.deref_mut.ensures.value at out.signs in
    let new_size : length c.assign.new.signs ≡ m.vars = ap length set_is ∙ length-set m.signs _ _ ∙ holds.signs in
    let signs = with_items_is p.signs c.assign.new.signs (new_size ∙ sym holds.signs ∙ sym p.signs.ok.0) in
    let all_signs = signs ∙ set_is ∙ ap (λ (x : Literal). set m.signs (x.var - 1) x.positive) lit in
    let moves = here.moves ∙ (λ i. quietly (record m { trail = sym trail i; signs = sym all_signs i; spent = m.spent + 1 })) in
    let over : c.assign.new.trail.vars ≡ m.vars = ap (λ (t : Entries). t.vars) out.trail ∙ holds.over in
    λ _. steps.holds_more p.clauses.clauses p.budget _ _ _ m _ _ _ holds moves over (ap length signs ∙ new_size) (omega arith)

pub returns-clause-ok : goal.returns-clause-ok
returns-clause-ok c =
    let p = c.self.inside in
    let m = (the_view p).state in
    let whole = rw (← c.self.view_is) at c.requires.whole in
    let here = rw (← c.self.view_is) at c.requires.here in
    let holds = c.self.invariant whole in
    let free = cases.chosen_free p.budget m here in
    let v = choose m 0 (range_with_len 1 m.vars) in
    let var : c.choose-var.result ≡ v = c.choose-var.ensures m refl (sym c.deref.ensures.value) in
    let low = free.above in
    let high = free.within in
    let size = holds.signs in
    let out = c.in_ok-assign.ensures in
    let sign : c.index.result.now ≡ get_or m.signs (v - 1) false =
    c.index.ensures ∙ ap (λ (x : ℕ). get_or m.signs (x - 1) c.index.result.now) var ∙ learnt.any_default m.signs (v - 1) c.index.result.now false (omega arith) in
    let lit : c.new.result ≡ record { var = v; positive = get_or m.signs (v - 1) false } = c.new.ensures ∙ (λ i. record { var = var i; positive = sign i }) in
    let level_is = c.level.ensures.level in
    let trail : c.assign.new.trail.steps ≡ m.trail ++ record { lit = record { var = v; positive = get_or m.signs (v - 1) false }; level = level m.trail + 1; reason = 0 } ∷ [] =
    ap (λ (t : Entries). t.steps) out.trail ∙ (λ i. m.trail ++ record { lit = lit i; level = level_is i + 1; reason = 0 } ∷ []) in
    let set_is : c.assign.new.signs ≡ set m.signs (c.new.result.var - 1) c.new.result.positive = rw c.deref_mut.ensures.value at out.signs in
    let new_size : length c.assign.new.signs ≡ m.vars = ap length set_is ∙ length-set m.signs _ _ ∙ holds.signs in
    let signs = with_items_is p.signs c.assign.new.signs (new_size ∙ sym holds.signs ∙ sym p.signs.ok.0) in
    let all_signs = signs ∙ set_is ∙ ap (λ (x : Literal). set m.signs (x.var - 1) x.positive) lit in
    let moves = here.moves ∙ (λ i. quietly (record m { trail = sym trail i; signs = sym all_signs i; spent = m.spent + 1 })) in
    rw (← c.self.view_is) (cases.stepped_whole (the_view p) _ moves whole)
