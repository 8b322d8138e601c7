use Rattle.std.proofs.Common.{◌≡◌, ◌≤◌, ◌∙◌, sym, subst, inl, inr, ap, false, arith}
use Rattle.std.proofs.lemmas.Bool.{cases_lt}
use Rattle.std.proofs.lemmas.List.{get_or_default}
use Rattle.std.specs.Prelude.{get_or}
use Rattle.search_learn.proofs.Decisions.{clash}
use Rattle.search_watch.specs.declared.watch.UnitClause.{UnitClause}
use Rattle.search_watch.specs.Watched.{is_false}
use Rattle.search_watch.proofs.units.least_broken.Goals as goal

pub returns-then-is_false : goal.returns-then-is_false
returns-then-is_false c =
    let t = c.args.trail.now.steps in
    let us = c.args.units.now in
    let j = c.loop-unit.unit-index in
    let u : UnitClause = c.unit-item.result in
    let low = c.loop-unit-test.true in
    let here : get_or us j u ≡ u = sym c.unit-item.is in
    record {
      is = λ i e. (u, (j, low, here), cc, sym c.is_false.ensures ∙ c.if-is_false.true);
      at_most = λ i broken.
          let v : UnitClause = broken.0 in
          let k = broken.1.0 in
          elim (cases_lt k j) as (λ _. u.clause ≤ i) [
            | inl before ↦ clash (is_false t v.lit) broken.3 (subst (λ (x : UnitClause). is_false t x.lit ≡ false) broken.1.2 (c.loop-unit.invariant k v before))
            | inr later ↦
                let a = c.requires j k v later broken.1.1 in
                let b : get_or us j v ≡ u = get_or_default us j v u low ∙ here in
                let d = ap (λ (x : UnitClause). x.clause) b in
                let e = ap (λ (x : UnitClause). x.clause) broken.1.2 in
                let f = broken.2 in
                omega arith
          ];
    }
