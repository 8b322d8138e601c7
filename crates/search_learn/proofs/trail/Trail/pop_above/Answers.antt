use Rattle.std.proofs.Common.{◌≡◌, ◌<◌, ◌-◌, ◌∙◌, ap, sym, length, vec_len, get_or, arith, false, nat_eq, refl, length-set}
use Rattle.std.proofs.lemmas.Grind.{common_steps}
use Rattle.search_learn.specs.Trail.{level, cut}
use Rattle.search_learn.specs.Values.{Entries}
use Rattle.search_learn.proofs.Cutting.{front, last_entry, level_last, cut_last}
use Rattle.search_learn.proofs.Arrays.{kept_popped}
use Rattle.search_learn.proofs.trail.Trail.pop_above.Goals as goal

pub returns-then-last-level-clause-none : goal.returns-then-last-level-clause-none
returns-then-last-level-clause-none c =
    let p = c.self.inside in
    let t = p.steps.items in
    let e = c.index-last.result.now in
    let machine = rw (← c.self.view_is) at c.requires in
    let test : nat_eq (vec_len p.steps) 0 ≡ false = sym c.is_empty.ensures ∙ c.if-is_empty.false in
    let size : c.len-rest.result ≡ length t = c.len-rest.ensures ∙ p.steps.ok.0 in
    let has : vec_len p.steps ≡ length t = p.steps.ok.0 in
    let some : 0 < length t = grind (arith, common_steps) in
    let is : e ≡ get_or t (length t - 1) e = rw size at c.index-last.ensures in
    let here : e.level ≡ level c.args.self.now.steps = level_last (length p.values.items) t e machine some is ∙ ap (λ (s : Entries). level s.steps) c.self.view_is in
    let low = c.if-last-level.true in
    (refl, omega arith)

pub invariant_of-self : goal.invariant_of-self
invariant_of-self c =
    let p = c.self.inside in
    let t = p.steps.items in
    let e = c.index-last.result.now in
    let machine = rw (← c.self.view_is) at c.requires in
    let test : nat_eq (vec_len p.steps) 0 ≡ false = sym c.is_empty.ensures ∙ c.if-is_empty.false in
    let size : c.len-rest.result ≡ length t = c.len-rest.ensures ∙ p.steps.ok.0 in
    let has : vec_len p.steps ≡ length t = p.steps.ok.0 in
    let some : 0 < length t = grind (arith, common_steps) in
    let is : e ≡ get_or t (length t - 1) e = rw size at c.index-last.ensures in
    let last = last_entry (length p.values.items) t e machine some is in
    let rest : c.truncate.new.self.items ≡ front t = rw size at c.truncate.ensures.items in
    rw (rest, c.var.ensures.value, length-set) (kept_popped (length p.values.items) t e p.values.items p.levels.items last c.self.invariant)

pub returns-clause-machine : goal.returns-clause-machine
returns-clause-machine c =
    let p = c.self.inside in
    let t = p.steps.items in
    let e = c.index-last.result.now in
    let machine = rw (← c.self.view_is) at c.requires in
    let test : nat_eq (vec_len p.steps) 0 ≡ false = sym c.is_empty.ensures ∙ c.if-is_empty.false in
    let size : c.len-rest.result ≡ length t = c.len-rest.ensures ∙ p.steps.ok.0 in
    let has : vec_len p.steps ≡ length t = p.steps.ok.0 in
    let some : 0 < length t = grind (arith, common_steps) in
    let is : e ≡ get_or t (length t - 1) e = rw size at c.index-last.ensures in
    let last = last_entry (length p.values.items) t e machine some is in
    let rest : c.truncate.new.self.items ≡ front t = rw size at c.truncate.ensures.items in
    rw (rest, length-set) last.front_machine

pub returns-clause-cut : goal.returns-clause-cut
returns-clause-cut c =
    let p = c.self.inside in
    let t = p.steps.items in
    let e = c.index-last.result.now in
    let machine = rw (← c.self.view_is) at c.requires in
    let test : nat_eq (vec_len p.steps) 0 ≡ false = sym c.is_empty.ensures ∙ c.if-is_empty.false in
    let size : c.len-rest.result ≡ length t = c.len-rest.ensures ∙ p.steps.ok.0 in
    let has : vec_len p.steps ≡ length t = p.steps.ok.0 in
    let some : 0 < length t = grind (arith, common_steps) in
    let is : e ≡ get_or t (length t - 1) e = rw size at c.index-last.ensures in
    let last = last_entry (length p.values.items) t e machine some is in
    let rest : c.truncate.new.self.items ≡ front t = rw size at c.truncate.ensures.items in
    rw rest (sym (cut_last (length p.values.items) c.args.level t e last c.if-last-level.false) ∙ ap (λ (s : Entries). cut c.args.level s.steps) c.self.view_is)
