use Rattle.std.proofs.Common.{◌≤◌, ◌∙◌, length, ap, sym, subst}
use Rattle.sat_form.specs.Literals.{Literal, negate}
use Rattle.search_learn.specs.declared.Step.{Step}
use Rattle.search_watch.proofs.Nets.{look-step}
use Rattle.search_watch.proofs.watches.Watches.look.Goals as goal

pub loop-at-preserved : goal.loop-at-preserved
loop-at-preserved c =
    let e : Step = c.index-trail-at.result in
    let vars = length c.args.values.now in
    let low = c.loop-at-test.true in
    let within : c.not-lit.result.var ≤ vars = subst (λ (l : Literal). l.var ≤ vars) (sym c.not-lit.ensures) (c.requires.within c.loop-at.at e low) in
    let seen = c.in_ok-visit.ensures.net in
    record {
      net = look-step vars c.args.trail.now c.loop-at.at e c.not-lit.result _ _ low c.index-trail-at.is (c.not-lit.ensures ∙ ap (λ (x : Step). negate x.lit) (sym c.index-trail-at.is)) within c.loop-at.invariant.net seen;
      clauses = c.in_ok-visit.ensures.clauses ∙ c.loop-at.invariant.clauses;
    }
