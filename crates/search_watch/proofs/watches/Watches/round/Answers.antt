use Rattle.std.proofs.Common.{◌≡◌, ◌≤◌, ◌<◌, ◌^◌, ◌∙◌, ℕ, List, [], length, drop, ap, sym, refl, subst, arith}
use Rattle.std.specs.List.{All}
use Rattle.search_learn.specs.declared.Step.{Step}
use Rattle.search_learn.specs.Cases.{put_entries}
use Rattle.search_learn.proofs.Range.{all_in_range}
use Rattle.search_watch.specs.declared.watch.UnitClause.{UnitClause}
use Rattle.search_watch.specs.Nets.{Net, IsNet, negated}
use Rattle.search_watch.specs.Visits.{entries_of}
use Rattle.search_watch.specs.RoundUnits.{IsLeastBroken, entries}
use Rattle.search_watch.proofs.Found.{Puts, are-units, consistent, put-within, puts, round-begins, state_of, units-low, units-within}
use Rattle.search_watch.proofs.Putting.{units-put}
use Rattle.search_watch.proofs.watches.Watches.round.Goals as goal

pub put-requires-clause-room : goal.put-requires-clause-room
put-requires-clause-room c =
    let low = units-low _ _ _ _ c.requires.net c.sort.ensures.from in
    let room = c.requires.room in
    subst (λ (us : List UnitClause). All (λ u. u.clause < 2 ^ 63) us) (sym c.deref.ensures.value) (λ k d h. let a = low k d h in omega arith)

pub put-requires-clause-within : goal.put-requires-clause-within
put-requires-clause-within c =
    subst (λ (us : List UnitClause). All (λ u. u.lit.var ≤ c.args.trail.now.vars) us) (sym c.deref.ensures.value) (units-within _ _ _ _ c.requires.net c.sort.ensures.from)

pub look-requires-clause-within : goal.look-requires-clause-within
look-requires-clause-within c =
    let t = c.args.trail.now in
    let us = c.sort.new.units.items in
    let put = ap (λ (xs : List UnitClause). put_entries (entries c.args.level xs) (state_of t.steps c.args.signs.now)) (sym c.deref.ensures.value) ∙ c.in_ok-count.ensures.put (state_of t.steps c.args.signs.now) refl refl in
    let here : All (λ (e : Step). e.lit.var ≤ t.vars) t.steps = λ k d low. (all_in_range c.requires.machine.0 t.vars [] t.steps c.requires.machine.1 k d low).1 in
    let within = put-within t.vars c.args.level us (state_of t.steps c.args.signs.now) (units-within _ _ _ _ c.requires.net c.sort.ensures.from) here in
    let size : length c.values.result.now ≡ t.vars = c.values.ensures.size ∙ c.in_ok-count.ensures.vars in
    subst (λ (n : ℕ). All (λ (e : Step). e.lit.var ≤ n) c.steps.result.now) (sym size)
    (subst (λ (es : List Step). All (λ (e : Step). e.lit.var ≤ t.vars) es) (ap (λ m. m.trail) put ∙ sym c.steps.ensures) within)

pub look-requires-clause-net : goal.look-requires-clause-net
look-requires-clause-net c =
    let t = c.args.trail.now in
    let us = c.sort.new.units.items in
    let put = ap (λ (xs : List UnitClause). put_entries (entries c.args.level xs) (state_of t.steps c.args.signs.now)) (sym c.deref.ensures.value) ∙ c.in_ok-count.ensures.put (state_of t.steps c.args.signs.now) refl refl in
    let two = puts c.args.level us t.steps c.put.new.trail.steps c.args.signs.now c.put.new.signs c.in_ok-count.count put in
    let at = subst (λ (d : ℕ). Puts d us t.steps c.put.new.trail.steps) c.requires.level two in
    let least = subst (λ (xs : List UnitClause). IsLeastBroken c.put.new.trail.steps xs c.least_broken-self.result) c.deref-2.ensures.value c.least_broken-self.ensures in
    let begun = round-begins t.vars t.steps c.put.new.trail.steps _ us c.least_broken-self.result c.requires.net c.requires.quiet c.sort.ensures.from c.sort.ensures.all at least in
    let size : length c.values.result.now ≡ t.vars = c.values.ensures.size ∙ c.in_ok-count.ensures.vars in
    let w = c.args.self.now in
    let found : List UnitClause → Net = λ us. record { clauses = w.clauses; pairs = w.pairs.items; lists = entries_of w.lists.items; units = us; least = c.least_broken-self.result } in
    let steps = sym c.steps.ensures in
    let before = sym c.steps-from.ensures in
    let path : IsNet t.vars c.put.new.trail.steps (negated (drop (length t.steps) c.put.new.trail.steps)) (found []) ≡ IsNet (length c.values.result.now) c.steps.result.now (negated (drop (length c.steps-from.result.now) c.steps.result.now)) (found c.clear.new.self.items) =
    λ i. IsNet (sym size i) (steps i) (negated (drop (length (before i)) (steps i))) (found (sym c.clear.ensures.items i)) in
    subst (λ (x : Type 0). x) path begun

pub returns-clause-put : goal.returns-clause-put
returns-clause-put c =
    let t = c.args.trail.now in
    let sound = consistent t.vars t.steps c.requires.machine in
    let us = c.sort.new.units.items in
    let are = are-units t.vars c.args.level t.steps _ us c.requires.net sound c.requires.quiet c.sort.ensures.rising c.sort.ensures.from c.sort.ensures.all in
    λ m e f. sym (units-put t.steps c.args.level c.args.self.now.clauses 0 us m are) ∙ ap (λ (xs : List UnitClause). put_entries (entries c.args.level xs) m) (sym c.deref.ensures.value) ∙ c.in_ok-count.ensures.put m e f
