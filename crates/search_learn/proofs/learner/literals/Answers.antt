use Rattle.std.proofs.Common.{◌≡◌, ◌-◌, ◌∙◌, ℕ, zero, suc, cond, true, false, nat_eq, List, [], ◌∷◌, get_or, refl}
use Rattle.std.specs.Prelude.{None, slice_get}
use Rattle.sat_form.specs.Literals.{Literal}
use Rattle.sat_form.proofs.Sets.{nat_is}
use Rattle.search_learn.specs.Rule.{clause_with}
use Rattle.search_learn.proofs.learner.literals.Goals as goal

none_there : (cs : List (List Literal)) (i : ℕ) → None ≡ slice_get cs i → [] ≡ get_or cs i []
none_there [] i h = refl
none_there (c ∷ cs) zero h = absurd (cc)
none_there (c ∷ cs) (suc i) h = none_there cs i h

placed : (cs : List (List Literal)) (id : ℕ) → (id ≡ 0 → ⊥) → get_or cs (id - 1) [] ≡ clause_with cs id
placed cs id some = elim (nat_eq id 0) as (λ b. nat_eq id 0 ≡ b → get_or cs (id - 1) [] ≡ cond b [] (get_or cs (id - 1) [])) [
  | true ↦ λ none. absurd (some (nat_is id 0 none))
  | false ↦ λ _. refl
] refl

pub returns-in-None : goal.returns-in-None
returns-in-None c = none_there c.args.clauses.now (c.args.id - 1) c.in-None.ensures ∙ placed c.args.clauses.now c.args.id c.if-id-eq0.false
