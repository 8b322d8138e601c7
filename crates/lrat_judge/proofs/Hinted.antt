-- What hints come to.
use Rattle.std.proofs.Common.{subst, ◌≡◌, ℕ, zero, suc, ◌+◌, ◌<◌, ◌≤◌, ℤ, pos, negsuc, Bool, true, false, not, ◌&&◌, ◌||◌, cond, List, [], ◌∷◌, ◌++◌, map, refl, ap, sym, ◌∙◌, arith, length, take, drop, get_or, nat_abs, drop-cons, add-one}
use Rattle.std.specs.Prelude.{Some, None}
use Rattle.std.specs.List.{list_all}
use Rattle.std.specs.declared.option.Option.{Option}
use Rattle.std.proofs.lemmas.List.{length-take}
use Rattle.sat_form.specs.Literals.{Literal, same_literal, member}
use Rattle.sat_form.specs.Assignment.{is_false, is_assigned, clause_false, unit_literal}
use Rattle.lrat_lines.specs.Judge as judge
use Rattle.lrat_lines.specs.Judge.{Clauses, clause_of, take_clause, take_unit, take_hints, split_hints, with_hint, Hints, Group}
use Rattle.lrat_lines.specs.Judge.Taken.{Conflict as Clash, Units, Stop as Refuse}
use Rattle.lrat_judge.specs.declared.hints.Taken.{Taken}
use Rattle.lrat_judge.specs.declared.hints.Taken.TheVariants.{Conflict, Open, Stop}
use Rattle.lrat_judge.specs.Marked.{Same}
use Rattle.lrat_judge.specs.Taken.{Comes, begins_group}
use Rattle.lrat_judge.proofs.Marking.{member_last, false_same, unit_same}

-- the literal of a unit clause is unassigned
free_here : (a : List Literal) (k l : Literal) (t : Bool) → is_assigned a k ≡ false → cond t (Some k) None ≡ Some l → is_assigned a l ≡ false
free_here a k l true q e = let same : k ≡ l = cc in subst (λ (x : Literal). is_assigned a x ≡ false) same q
free_here a k l false q e = cc

or_turned : (a b : Bool) → (a || b) ≡ (b || a)
or_turned true true = refl
or_turned true false = refl
or_turned false true = refl
or_turned false false = refl

free_at : (a : List Literal) (k l : Literal) (c : List Literal) (t u : Bool) → (unit_literal a c ≡ Some l → is_assigned a l ≡ false) → is_assigned a k ≡ u
    → cond t (unit_literal a c) (cond (not u && list_all (λ j. same_literal j k || is_false a j) c) (Some k) None) ≡ Some l → is_assigned a l ≡ false
free_at a k l c true u ih q e = ih e
free_at a k l c false true ih q e = cc
free_at a k l c false false ih q e = free_here a k l (list_all (λ j. same_literal j k || is_false a j) c) q e

pub unit_free : (a c : List Literal) (l : Literal) → unit_literal a c ≡ Some l → is_assigned a l ≡ false
unit_free a [] l e = cc
unit_free a (k ∷ c) l e = free_at a k l c (is_false a k) (is_assigned a k) (unit_free a c l) refl e

module _ (db : Clauses) (id : ℕ) (m a c : List Literal) (found : Some c ≡ clause_of db id) (same : Same m a) where
  pub took_false : clause_false m c ≡ true → take_clause id a (clause_of db id) ≡ Clash
  took_false h =
      ap (take_clause id a) (sym found) ∙ ap (λ t. cond t Clash (take_unit id a (unit_literal a c))) (sym (false_same m a c same) ∙ h)

  took : (u : Option Literal) → (clause_false m c ≡ false) × (unit_literal m c ≡ u) → take_clause id a (clause_of db id) ≡ take_unit id a u
  took u h =
      ap (take_clause id a) (sym found) ∙ ap (λ t. cond t Clash (take_unit id a (unit_literal a c))) (sym (false_same m a c same) ∙ h.0)
      ∙ ap (take_unit id a) (sym (unit_same m a c same) ∙ h.1)

  pub took_unit : (l : Literal) (n : List Literal) → (clause_false m c ≡ false) × (unit_literal m c ≡ Some l) → n ≡ m ++ l ∷ [] → Comes n (take_clause id a (clause_of db id)) Open
  took_unit l n h e = (l ∷ a, took (Some l) h, λ k. ap (λ s. member s k) e ∙ member_last m k l ∙ or_turned (member m k) (same_literal k l) ∙ ap (λ b. same_literal k l || b) (same k))

  pub took_neither : (clause_false m c ≡ false) × (unit_literal m c ≡ None) → take_clause id a (clause_of db id) ≡ Refuse (judge.Cause.NotUnit id)
  took_neither h = took None h

-- the hints behind one
abbrev go_on : Clauses → List ℕ → judge.Taken → judge.Taken
go_on db ids t = elim t as (λ _. judge.Taken) [ Clash ↦ Clash | Units b ↦ take_hints db b ids | Refuse cause ↦ Refuse cause ]

pub hints_stop : (db : Clauses) (b m : List Literal) (id : ℕ) (ids : List ℕ) (t : Taken) → (t ≡ Open → ⊥) → Comes m (take_clause id b (clause_of db id)) t → Comes m (take_hints db b (id ∷ ids)) t
hints_stop db b m id ids Conflict n e = ap (go_on db ids) e
hints_stop db b m id ids Open n e = absurd (n refl)
hints_stop db b m id ids (Stop cause) n e = ap (go_on db ids) e

pub hints_more : (db : Clauses) (b d : List Literal) (id : ℕ) (ids : List ℕ) → take_clause id b (clause_of db id) ≡ Units d → take_hints db b (id ∷ ids) ≡ take_hints db d ids
hints_more db b d id ids e = ap (go_on db ids) e

-- the hints up to the first group
pub split_lead : (k : ℕ) (zs : List ℤ) → k ≤ length zs → ((i : ℕ) → i < k → begins_group (get_or zs i (pos 0)) ≡ false) → (k < length zs → begins_group (get_or zs k (pos 0)) ≡ true)
    → ((split_hints zs).first ≡ map nat_abs (take k zs)) × (split_hints (drop k zs) ≡ record { first = []; groups = (split_hints zs).groups })
split_lead zero [] within lead end = (refl, refl)
split_lead zero (pos n ∷ zs) within lead end = absurd (let e = end (omega arith) in cc)
split_lead zero (negsuc n ∷ zs) within lead end = (refl, refl)
split_lead (suc k) [] within lead end = absurd (omega arith)
split_lead (suc k) (negsuc n ∷ zs) within lead end = absurd (let e = lead 0 (omega arith) in cc)
split_lead (suc k) (pos n ∷ zs) within lead end =
    let ih = split_lead k zs (omega arith) (λ i h. lead (suc i) (omega arith)) (λ h. end (omega arith)) in
    (ap (λ r. n ∷ r) ih.0, ih.1)

pub ids_step : (zs : List ℤ) (i : ℕ) → i < length zs → map nat_abs (drop i zs) ≡ nat_abs (get_or zs i (pos 0)) ∷ map nat_abs (drop (i + 1) zs)
ids_step zs i h = ap (map nat_abs) (drop-cons zs i (pos 0) h) ∙ ap (λ k. nat_abs (get_or zs i (pos 0)) ∷ map nat_abs (drop k zs)) (sym (add-one i))

take-take-le : (m n : ℕ) (xs : List Literal) → m ≤ n → take m (take n xs) ≡ take m xs
take-take-le zero n xs h = refl
take-take-le (suc m) zero xs h = absurd (omega arith)
take-take-le (suc m) (suc n) [] h = refl
take-take-le (suc m) (suc n) (x ∷ xs) h = ap (λ r. x ∷ r) (take-take-le m n xs (omega arith))

pub keeps_more : (a b c : List Literal) → take (length a) b ≡ a → take (length b) c ≡ b → take (length a) c ≡ a
keeps_more a b c h k =
    sym (ap (take (length a)) (sym k) ∙ take-take-le (length a) (length b) c (omega (arith, ap length h, length-take (length a) b))) ∙ h
