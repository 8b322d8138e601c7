use Rattle.std.proofs.Common.{◌≡◌, ◌+◌, ◌++◌, ◌∷◌, [], ◌∙◌, List, take, ap, sym, subst}
use Rattle.std.proofs.lemmas.List.{take_more}
use Rattle.sat_form.specs.Literals.{Literal}
use Rattle.search_watch.specs.Chosen.{IsHighest}
use Rattle.search_watch.proofs.Chosen.{highest-more, highest-none}
use Rattle.search_watch.proofs.learnt.highest_beside.Goals as goal

pub loop-lit-init : goal.loop-lit-init
loop-lit-init c = record { highest = highest-none c.args.trail.now.steps c.args.first; within = c.requires.first }

pub loop-lit-preserved : goal.loop-lit-preserved
loop-lit-preserved c =
    let t = c.args.trail.now.steps in
    let lits = c.args.lits.now in
    let at = c.loop-lit.lit-index in
    let lit = c.lit-item.result in
    let more : take (at + 1) lits ≡ take at lits ++ lit ∷ [] = take_more lits at lit c.loop-lit-test.true ∙ ap (λ (x : Literal). take at lits ++ x ∷ []) (sym c.lit-item.is) in
    record {
      highest = subst (λ (c2 : List Literal). IsHighest t c2 c.args.first c.better-best.result) (sym more)
          (subst (λ (x : Literal). IsHighest t (take at lits ++ lit ∷ []) c.args.first x) (sym c.better-best.ensures.better) (highest-more t (take at lits) c.args.first c.loop-lit.best lit c.loop-lit.invariant.highest));
      within = c.better-best.ensures.within;
    }
