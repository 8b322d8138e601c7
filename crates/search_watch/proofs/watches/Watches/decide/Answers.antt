use Rattle.std.proofs.Common.{◌≡◌, ◌≤◌, ◌+◌, ◌++◌, ◌∷◌, ◌∙◌, ℕ, [], List, length, drop, refl, ap, sym, subst, arith}
use Rattle.std.specs.List.{All}
use Rattle.std.proofs.lemmas.List.Elements.{All-push}
use Rattle.sat_form.specs.Literals.{Literal}
use Rattle.search_learn.specs.declared.Step.{Step}
use Rattle.search_learn.specs.Values.{Entries}
use Rattle.search_learn.proofs.Range.{all_in_range}
use Rattle.search_watch.specs.Nets.{IsNet, negated, net}
use Rattle.search_watch.proofs.Decided.{decide-begins}
use Rattle.search_watch.proofs.watches.Watches.decide.Goals as goal

pub look-requires-clause-within : goal.look-requires-clause-within
look-requires-clause-within c =
    let t = c.args.trail.now in
    let e : Step = record { lit = c.new.result; level = c.level.result + 1; reason = 0 } in
    let here : All (λ (x : Step). x.lit.var ≤ t.vars) t.steps = λ k d low. (all_in_range c.requires.machine.0 t.vars [] t.steps c.requires.machine.1 k d low).1 in
    let var = ap (λ (x : Literal). x.var) c.new.ensures in
    let high = c.requires.var.1 in
    let all = All-push (λ (x : Step). x.lit.var ≤ t.vars) t.steps e here (omega arith) in
    let trail = c.in_ok-assign.ensures.trail in
    let size : length c.values.result.now ≡ t.vars = c.values.ensures.size ∙ ap (λ (x : Entries). x.vars) trail in
    let steps : c.steps.result.now ≡ t.steps ++ e ∷ [] = c.steps.ensures ∙ ap (λ (x : Entries). x.steps) trail in
    subst (λ (n : ℕ). All (λ (x : Step). x.lit.var ≤ n) c.steps.result.now) (sym size) (subst (λ (es : List Step). All (λ (x : Step). x.lit.var ≤ t.vars) es) (sym steps) all)

pub look-requires-clause-net : goal.look-requires-clause-net
look-requires-clause-net c =
    let t = c.args.trail.now in
    let e : Step = record { lit = c.new.result; level = c.level.result + 1; reason = 0 } in
    let trail = c.in_ok-assign.ensures.trail in
    let size : length c.values.result.now ≡ t.vars = c.values.ensures.size ∙ ap (λ (x : Entries). x.vars) trail in
    let steps : c.steps.result.now ≡ t.steps ++ e ∷ [] = c.steps.ensures ∙ ap (λ (x : Entries). x.steps) trail in
    let n = net c.args.self.now in
    let begun = decide-begins t.vars t.steps e n c.requires.net c.requires.least c.requires.units c.requires.machine (ap (λ (l : ℕ). l + 1) c.level.ensures.level) refl in
    let path : IsNet t.vars (t.steps ++ e ∷ []) (negated (drop (length t.steps) (t.steps ++ e ∷ []))) n ≡ IsNet (length c.values.result.now) c.steps.result.now (negated (drop (length c.steps-from.result.now) c.steps.result.now)) n =
    λ i. IsNet (sym size i) (sym steps i) (negated (drop (length (sym c.steps-from.ensures i)) (sym steps i))) n in
    subst (λ (x : Type 0). x) path begun
