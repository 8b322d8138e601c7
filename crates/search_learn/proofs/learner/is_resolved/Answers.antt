use Rattle.std.proofs.Common.{◌≡◌, ◌-◌, ◌∙◌, ℕ, true, false, ◌&&◌, ◌||◌, nat_eq, get_or, ap, sym, refl}
use Rattle.std.specs.List.{list_any}
use Rattle.sat_form.specs.Literals.{Literal, member, negate, without}
use Rattle.sat_form.proofs.Sets.{nat_is, nat_itself}
use Rattle.search_learn.specs.Trail.{level_of}
use Rattle.search_learn.proofs.Marks.{another_counted}
use Rattle.search_learn.proofs.learner.is_resolved.Goals as goal

isnt : (n : ℕ) → (n ≡ 0 → ⊥) → nat_eq n 0 ≡ false
isnt n some = elim (nat_eq n 0) as (λ b. nat_eq n 0 ≡ b → b ≡ false) [ true ↦ λ none. absurd (some (nat_is n 0 none)) | false ↦ λ _. refl ] refl

pub returns-then-step-level : goal.returns-then-step-level
returns-then-step-level c = λ t levels s clause_of are wrong level_is.
    let e = c.args.step.now in
    let n = negate e.lit in
    let d = c.args.level in
    let on : get_or c.args.marks.now (e.lit.var - 1) false ≡ true = rw c.var.ensures.value at c.if-marks-var.true in
    let has : member s n ≡ true = sym (are.marked n wrong) ∙ on in
    let current : nat_eq e.level d ≡ true = ap (λ x. nat_eq x d) c.if-step-level.true ∙ nat_itself d in
    let own : nat_eq (level_of t n) d ≡ true = ap (λ x. nat_eq x d) level_is ∙ current in
    let other = list_any (λ (k : Literal). nat_eq (level_of t k) d) (without s n) in
    sym (ap (λ b. b && (nat_eq e.level 0 || (nat_eq e.level d && other))) has
    ∙ ap (λ b. b || (nat_eq e.level d && other)) (isnt e.level c.if-step-eq0.false)
    ∙ ap (λ b. b && other) current
    ∙ another_counted d t levels c.args.marks.now c.args.count s are n has own)
