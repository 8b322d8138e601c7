use Rattle.std.proofs.Common.{◌≡◌, ◌<◌, ◌-◌, ◌∙◌, ap, sym, length, vec_len, get_or, arith, false, nat_eq}
use Rattle.std.proofs.lemmas.Grind.{common_steps}
use Rattle.search_learn.specs.Trail.{level}
use Rattle.search_learn.specs.Values.{Entries}
use Rattle.search_learn.proofs.Cutting.{level_last}
use Rattle.search_learn.proofs.Cases.{level_fits}
use Rattle.search_learn.proofs.trail.Trail.level.Goals as goal

pub returns-else-is_empty-clause-level : goal.returns-else-is_empty-clause-level
returns-else-is_empty-clause-level c =
    let p = c.self.inside in
    let t = p.steps.items in
    let e = c.index.result.now in
    let machine = rw (← c.self.view_is) at c.requires in
    let test : nat_eq (vec_len p.steps) 0 ≡ false = sym c.is_empty.ensures ∙ c.if-is_empty.false in
    let size : c.len.result ≡ length t = c.len.ensures ∙ p.steps.ok.0 in
    let has : vec_len p.steps ≡ length t = p.steps.ok.0 in
    let some : 0 < length t = grind (arith, common_steps) in
    let is : e ≡ get_or t (length t - 1) e = rw size at c.index.ensures in
    level_last (length p.values.items) t e machine some is ∙ ap (λ (s : Entries). level s.steps) c.self.view_is

pub returns-else-is_empty-clause-range : goal.returns-else-is_empty-clause-range
returns-else-is_empty-clause-range c =
    let p = c.self.inside in
    let t = p.steps.items in
    let e = c.index.result.now in
    let machine = rw (← c.self.view_is) at c.requires in
    let test : nat_eq (vec_len p.steps) 0 ≡ false = sym c.is_empty.ensures ∙ c.if-is_empty.false in
    let size : c.len.result ≡ length t = c.len.ensures ∙ p.steps.ok.0 in
    let has : vec_len p.steps ≡ length t = p.steps.ok.0 in
    let some : 0 < length t = grind (arith, common_steps) in
    let is : e ≡ get_or t (length t - 1) e = rw size at c.index.ensures in
    let here = level_last (length p.values.items) t e machine some is in
    let fits = level_fits (length p.values.items) t p.values.items machine c.self.invariant.values_kept in
    let vars = ap (λ (s : Entries). s.vars) c.self.view_is in
    omega arith
