use Rattle.std.proofs.Common.{◌+◌, ◌∙◌, ◌≡◌, ap, sym, refl, arith, List, length, Bool}
use Rattle.std.proofs.lemmas.List.{with_items_is}
use Rattle.search_learn.specs.Machine.{quietly}
use Rattle.search_plain.specs.contracts.Plain.{the_view}
use Rattle.search_learn.proofs.Steps as steps
use Rattle.search_learn.proofs.Cases as cases
use Rattle.search_plain.proofs.Plain.put_units.Goals as goal

pub level-level-requires : goal.level-level-requires
level-level-requires c =
    let p = c.self.inside in
    let holds = c.self.invariant (rw (← c.self.view_is) at c.requires.whole) in
    steps.machine_of p.clauses.clauses p.budget _ _ (the_view p).state p.clauses.in_range holds

pub put_entries-requires-clause-within : goal.put_entries-requires-clause-within
put_entries-requires-clause-within c =
    let p = c.self.inside in
    let holds = c.self.invariant (rw (← c.self.view_is) at c.requires.whole) in
    let kept = steps.kept_of p.clauses.clauses p.budget _ _ (the_view p).state p.clauses.in_range holds in
    rw (c.deref.ensures.value, c.in_ok-entries.ensures, holds.over)
    (cases.entries_within p.trail.steps c.level-level.result p.clauses.vars (the_view p).state.clauses kept.within)

pub invariant_of-self-2 : goal.invariant_of-self-2
invariant_of-self-2 c =
    let p = c.self.inside in
    let m = (the_view p).state in
    let whole = rw (← c.self.view_is) at c.requires.whole in
    let holds = c.self.invariant whole in
    let here = rw (← c.self.view_is) at c.requires.here in
    let out = c.in_ok-self-inside.ensures in
    let size : length c.put_entries.new.signs ≡ length p.signs.items = out.signs ∙ ap length c.deref_mut.ensures.value in
    let signs = with_items_is p.signs c.put_entries.new.signs (size ∙ sym p.signs.ok.0) in
    let entries = rw (c.level-level.ensures.level) at c.in_ok-entries.ensures in
    let moves = cases.round_is p.budget m _ c.deref.result.now here (c.deref.ensures.value ∙ entries) (out.put m refl (sym c.deref_mut.ensures.value))
    ∙ ap (λ (x : List Bool). quietly (record m { trail = c.put_entries.new.trail.steps; signs = x; spent = p.spent + c.in_ok-self-inside.field-0 })) (sym signs) in
    λ _. steps.holds_more p.clauses.clauses p.budget _ _ _ m _ _ _ holds moves (out.vars ∙ holds.over) (ap length signs ∙ size ∙ holds.signs) (omega arith)

pub returns-clause-ok : goal.returns-clause-ok
returns-clause-ok c =
    let p = c.self.inside in
    let m = (the_view p).state in
    let whole = rw (← c.self.view_is) at c.requires.whole in
    let here = rw (← c.self.view_is) at c.requires.here in
    let out = c.in_ok-self-inside.ensures in
    let size : length c.put_entries.new.signs ≡ length p.signs.items = out.signs ∙ ap length c.deref_mut.ensures.value in
    let signs = with_items_is p.signs c.put_entries.new.signs (size ∙ sym p.signs.ok.0) in
    let entries = rw (c.level-level.ensures.level) at c.in_ok-entries.ensures in
    let moves = cases.round_is p.budget m _ c.deref.result.now here (c.deref.ensures.value ∙ entries) (out.put m refl (sym c.deref_mut.ensures.value))
    ∙ ap (λ (x : List Bool). quietly (record m { trail = c.put_entries.new.trail.steps; signs = x; spent = p.spent + c.in_ok-self-inside.field-0 })) (sym signs) in
    rw (← c.self.view_is) (cases.stepped_whole (the_view p) _ moves whole)
