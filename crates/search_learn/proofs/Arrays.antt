-- The values and levels by variable, as entries come and go.
use Rattle.std.proofs.Common.{◌≡◌, ◌≢◌, ℕ, ◌-◌, ◌<◌, ◌≤◌, Bool, true, false, ◌&&◌, ◌||◌, cond, nat_eq, List, [], ◌∷◌, ◌++◌, length, get_or, set, refl, ap, sym, ◌∙◌, arith, get_or-set_other, get_or-set_same, length-set, inl, inr}
use Rattle.std.specs.Prelude.{Some, None}
use Rattle.std.specs.List.{find}
use Rattle.std.specs.Option.{option_map_or}
use Rattle.std.specs.declared.option.Option.{Option}
use Rattle.sat_form.specs.Literals.{Literal, negate, same_literal, same_sign, member}
use Rattle.sat_form.proofs.Sets.{neither, one_of, nat_is, nat_itself, either_left, either_right}
use Rattle.search_learn.specs.declared.Step.{Step}
use Rattle.search_learn.specs.Trail.{assigned, is_true, is_assigned, level_of}
use Rattle.search_learn.specs.Values.{AreValues, AreLevels, AreKept, is_value}
use Rattle.search_learn.proofs.Decisions.{found_none, level_found}
use Rattle.search_learn.proofs.Entries.{assigned_more}
use Rattle.search_learn.proofs.Cutting.{IsLast, apart, front, gone, member_last, not_last, values_popped}

same_turned : (a b : Bool) → same_sign a b ≡ same_sign b a
same_turned true true = refl
same_turned true false = refl
same_turned false true = refl
same_turned false false = refl

-- An assigned literal's variable is found at once, whatever comes later.
level_early : (b c : List Step) (l : Literal) → is_assigned b l ≡ true → level_of (b ++ c) l ≡ level_of b l
level_early [] c l h = absurd (cc)
level_early (e ∷ b) c l h =
    elim (nat_eq e.lit.var l.var) as (λ t. nat_eq e.lit.var l.var ≡ t → option_map_or (λ (x : Step). x.level) (cond t (Some e) (find (λ x. nat_eq x.lit.var l.var) (b ++ c))) 0 ≡ option_map_or (λ (x : Step). x.level) (cond t (Some e) (find (λ x. nat_eq x.lit.var l.var) b)) 0) [
      | true ↦ λ _. refl
      | false ↦ λ differ. level_early b c l (later differ)
    ] refl
  where
    away : nat_eq e.lit.var l.var ≡ false → nat_eq l.var e.lit.var ≡ false
    away differ = elim (nat_eq l.var e.lit.var) as (λ t. nat_eq l.var e.lit.var ≡ t → t ≡ false) [
      | true ↦ λ same. sym (ap (λ n. nat_eq n l.var) (sym (nat_is l.var e.lit.var same)) ∙ nat_itself l.var) ∙ differ
      | false ↦ λ _. refl
    ] refl

    later : nat_eq e.lit.var l.var ≡ false → is_assigned b l ≡ true
    later differ =
        let here : same_literal l e.lit ≡ false = ap (λ x. x && same_sign l.positive e.lit.positive) (away differ) in
        let there : same_literal (negate l) e.lit ≡ false = ap (λ x. x && same_sign (negate l).positive e.lit.positive) (away differ) in
        sym (ap (λ x. (x || member (assigned b) l) || (same_literal (negate l) e.lit || member (assigned b) (negate l))) here ∙ ap (λ x. member (assigned b) l || (x || member (assigned b) (negate l))) there) ∙ h

module _ (vars : ℕ) (t : List Step) (e : Step) where
  -- With an entry of an unassigned variable that variable has its value.
  values_pushed : (values : List (Option Bool)) → is_assigned t e.lit ≡ false → 0 < e.lit.var → e.lit.var ≤ vars → AreValues vars values t → AreValues vars (set values (e.lit.var - 1) (Some e.lit.positive)) (t ++ e ∷ [])
  values_pushed values free positive within are =
      record {
        size = simp length-set are.size;
        each = λ l above. elim (nat_eq l.var e.lit.var) as (λ b. nat_eq l.var e.lit.var ≡ b → is_value (get_or (set values (e.lit.var - 1) (Some e.lit.positive)) (l.var - 1) None) l.positive ≡ member (assigned (t ++ e ∷ [])) l) [
          | true ↦ λ same. value_here l same
          | false ↦ λ differ.
              let places : (l.var - 1) ≢ (e.lit.var - 1) = apart l.var e.lit.var above positive differ in
              ap (λ v. is_value v l.positive) (rw get_or-set_other refl) ∙ are.each l above ∙ sym (not_last t e l differ)
        ] refl;
      }
    where
      there : get_or (set values (e.lit.var - 1) (Some e.lit.positive)) (e.lit.var - 1) None ≡ Some e.lit.positive
      there =
          let size = are.size in
          let room : (e.lit.var - 1) < length values = omega arith in
          rw get_or-set_same refl

      value_here : (l : Literal) → nat_eq l.var e.lit.var ≡ true → is_value (get_or (set values (e.lit.var - 1) (Some e.lit.positive)) (l.var - 1) None) l.positive ≡ member (assigned (t ++ e ∷ [])) l
      value_here l same =
          ap (λ v. is_value (get_or (set values (e.lit.var - 1) (Some e.lit.positive)) (v - 1) None) l.positive) (nat_is l.var e.lit.var same)
          ∙ ap (λ v. is_value v l.positive) there
          ∙ same_turned e.lit.positive l.positive
          ∙ ap (λ x. x && same_sign l.positive e.lit.positive) (sym same)
          ∙ ap (λ x. x || same_literal l e.lit) (sym (gone t l e.lit free (nat_is l.var e.lit.var same)))
          ∙ sym (member_last t e l)

  levels_pushed : (levels : List ℕ) → is_assigned t e.lit ≡ false → 0 < e.lit.var → e.lit.var ≤ vars → AreLevels vars levels t → AreLevels vars (set levels (e.lit.var - 1) e.level) (t ++ e ∷ [])
  levels_pushed levels free positive within are =
      record {
        size = simp length-set are.size;
        each = λ l above has. elim (nat_eq l.var e.lit.var) as (λ b. nat_eq l.var e.lit.var ≡ b → get_or (set levels (e.lit.var - 1) e.level) (l.var - 1) 0 ≡ level_of (t ++ e ∷ []) l) [
          | true ↦ λ same. level_new l same
          | false ↦ λ differ. level_old l above differ has
        ] refl;
      }
    where
      there : get_or (set levels (e.lit.var - 1) e.level) (e.lit.var - 1) 0 ≡ e.level
      there =
          let size = are.size in
          let room : (e.lit.var - 1) < length levels = omega arith in
          rw get_or-set_same refl

      level_new : (l : Literal) → nat_eq l.var e.lit.var ≡ true → get_or (set levels (e.lit.var - 1) e.level) (l.var - 1) 0 ≡ level_of (t ++ e ∷ []) l
      level_new l same =
          let is = nat_is l.var e.lit.var same in
          let parts = neither (is_true t e.lit) (member (assigned t) (negate e.lit)) free in
          ap (λ v. get_or (set levels (e.lit.var - 1) e.level) (v - 1) 0) is
          ∙ there
          ∙ sym (level_found t [] e e.lit (found_none t e.lit parts.0 parts.1) (nat_itself e.lit.var))
          ∙ ap (λ v. option_map_or (λ (x : Step). x.level) (find (λ x. nat_eq x.lit.var v) (t ++ e ∷ [])) 0) (sym is)

      level_old : (l : Literal) → 0 < l.var → nat_eq l.var e.lit.var ≡ false → is_assigned (t ++ e ∷ []) l ≡ true → get_or (set levels (e.lit.var - 1) e.level) (l.var - 1) 0 ≡ level_of (t ++ e ∷ []) l
      level_old l above differ has =
          let places : (l.var - 1) ≢ (e.lit.var - 1) = apart l.var e.lit.var above positive differ in
          let old : is_assigned t l ≡ true = sym (ap (λ x. x || member (assigned (t ++ e ∷ [])) (negate l)) (not_last t e l differ) ∙ ap (λ x. member (assigned t) l || x) (not_last t e (negate l) differ)) ∙ has in
          (rw get_or-set_other refl) ∙ are.each l above old ∙ sym (level_early t (e ∷ []) l old)

  pub kept_pushed : (values : List (Option Bool)) (levels : List ℕ) → is_assigned t e.lit ≡ false → 0 < e.lit.var → e.lit.var ≤ vars → AreKept vars values levels t
      → AreKept vars (set values (e.lit.var - 1) (Some e.lit.positive)) (set levels (e.lit.var - 1) e.level) (t ++ e ∷ [])
  kept_pushed values levels free positive within are = record { values_kept = values_pushed values free positive within are.values_kept; levels_kept = levels_pushed levels free positive within are.levels_kept }

pub kept_popped : (vars : ℕ) (t : List Step) (e : Step) (values : List (Option Bool)) (levels : List ℕ) → IsLast vars t e → AreKept vars values levels t → AreKept vars (set values (e.lit.var - 1) None) levels (front t)
kept_popped vars t e values levels last are =
    record {
      values_kept = values_popped vars t values e last are.values_kept;
      levels_kept = record {
        size = are.levels_kept.size;
        each = λ l above has. are.levels_kept.each l above (ap (λ x. is_assigned x l) last.split ∙ more l has) ∙ ap (λ x. level_of x l) last.split ∙ level_early (front t) (e ∷ []) l has;
      };
    }
  where
    more : (l : Literal) → is_assigned (front t) l ≡ true → is_assigned (front t ++ e ∷ []) l ≡ true
    more l has = elim (one_of (member (assigned (front t)) l) (member (assigned (front t)) (negate l)) has) [
      | inl yes_l ↦ either_left _ _ (assigned_more (front t) e l yes_l)
      | inr no_l ↦ either_right _ _ (assigned_more (front t) e (negate l) no_l)
    ]
