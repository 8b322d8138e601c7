-- The unassigned variables stay members of the heap.
use Rattle.std.proofs.Common.{◌≡◌, ◌≢◌, ◌⊎◌, ℕ, ◌-◌, ◌<◌, ◌≤◌, Bool, true, false, cond, ◌||◌, List, [], ◌∷◌, ◌++◌, length, get_or, refl, ap, sym, ◌∙◌, subst, inl, inr, arith}
use Rattle.std.specs.List.{sum_by}
use Rattle.std.proofs.lemmas.Bool.{cases_Bool, cases_eq, cases_lt}
use Rattle.std.proofs.lemmas.List.{get_or-set_same, get_or-set_other, get_or_past}
use Rattle.std.proofs.lemmas.List.Sums.{sum_by-set}
use Rattle.sat_form.specs.Literals.{Literal, member, negate, same_literal}
use Rattle.sat_form.proofs.Sets as sets
use Rattle.search_learn.specs.declared.Step.{Step}
use Rattle.search_learn.specs.Trail.{assigned, is_assigned, is_true}
use Rattle.search_learn.specs.Values.{IsOfMachine}
use Rattle.search_learn.proofs.Decisions.{clash}
use Rattle.search_learn.proofs.Entries.{assigned_last}
use Rattle.search_learn.proofs.Keeps.{in_range}
use Rattle.search_heap.specs.Ranking.{HasNone, IsFirst, Ranking, comes_before, is_member, with_member}
use Rattle.search_watch.specs.Members.{IsFirstFree, IsKept, IsUnassigned, KeepsFree, NoneFree}
use Rattle.search_watch.specs.Watched.{is_false}
use Rattle.search_watch.proofs.Begins.{member-parts}

-- how many members there are
abbrev pub members : Ranking → ℕ
members r = sum_by (λ b. cond b 1 0) r.members

member-low : (r : Ranking) (v : ℕ) → is_member r v ≡ true → (v - 1) < length r.members
member-low r v is = elim (cases_lt (v - 1) (length r.members)) [ inl low ↦ low | inr high ↦ clash (is_member r v) is (get_or_past r.members (v - 1) false high) ]

pub members-fewer : (r : Ranking) (v : ℕ) → is_member r v ≡ true → members (with_member r v false) < members r
members-fewer r v is =
    let moved = sum_by-set (λ (b : Bool). cond b 1 0) r.members (v - 1) false false (member-low r v is) in
    let here : ◌≡◌ {A = ℕ} (cond (get_or r.members (v - 1) false) 1 0) 1 = ap (λ (b : Bool). cond b 1 0) is in
    omega arith

pub member-other : (r : Ranking) (v w : ℕ) (b : Bool) → 0 < v → 0 < w → w ≢ v → is_member (with_member r v b) w ≡ is_member r w
member-other r v w b p q d = get_or-set_other r.members (v - 1) (w - 1) b false (omega arith)

pub last-range : (vars : ℕ) (b : List Step) (e : Step) → IsOfMachine vars (b ++ e ∷ []) → (0 < e.lit.var) × (e.lit.var ≤ vars)
last-range vars b e machine = in_range machine.0 vars [] (b ++ e ∷ []) e.lit machine.1 (assigned_last b e)

-- A variable other than that of an entry stays unassigned.
other-literal : (k l : Literal) → k.var ≢ l.var → same_literal k l ≡ false
other-literal k l d = elim (cases_Bool (same_literal k l)) as (λ _. same_literal k l ≡ false) [ inl is ↦ absurd (d (ap (λ (x : Literal). x.var) (sets.same_is k l is))) | inr h ↦ h ]

pub unassigned-push : (t : List Step) (e : Step) (v : ℕ) → v ≢ e.lit.var → IsUnassigned t v → IsUnassigned (t ++ e ∷ []) v
unassigned-push t e v d free =
    let l : Literal = record { var = v; positive = true } in
    let parts = sets.neither (is_true t l) (is_false t l) free in
    let one = λ (x : Literal) (same : x.var ≡ v) (isnt : member (assigned t) x ≡ false). elim (cases_Bool (member (assigned (t ++ e ∷ [])) x)) as (λ _. member (assigned (t ++ e ∷ [])) x ≡ false) [
      | inr h ↦ h
      | inl h ↦ elim (member-parts t (e ∷ []) x h) as (λ _. member (assigned (t ++ e ∷ [])) x ≡ false) [
        | inl old ↦ clash (member (assigned t) x) old isnt
        | inr last ↦ elim (sets.one_of (same_literal x e.lit) false last) as (λ _. member (assigned (t ++ e ∷ [])) x ≡ false) [
          | inl is ↦ absurd (d (sym same ∙ ap (λ (y : Literal). y.var) (sets.same_is x e.lit is)))
          | inr none ↦ absurd (cc)
        ]
      ]
    ] in
    none (is_true (t ++ e ∷ []) l) (is_false (t ++ e ∷ []) l) (one l refl parts.0) (one (negate l) refl parts.1)
  where
    none : (a b : Bool) → a ≡ false → b ≡ false → (a || b) ≡ false
    none false b p q = q
    none true b p q = absurd (cc)

-- An entry is taken off, and its variable put back.
pub free-popped : (vars : ℕ) (t b : List Step) (e : Step) (r : Ranking) → t ≡ b ++ e ∷ [] → length r.members ≡ vars → (0 < e.lit.var) × (e.lit.var ≤ vars) → KeepsFree vars t r b (with_member r e.lit.var true)
free-popped vars t b e r split size range = λ has v above within free. elim (cases_eq v e.lit.var) [
  | inl is ↦
      let low = range.0 in
      let high = range.1 in
      subst (λ (x : ℕ). is_member (with_member r e.lit.var true) x ≡ true) (sym is) (get_or-set_same r.members (e.lit.var - 1) true false (omega arith))
  | inr d ↦ member-other r e.lit.var v true range.0 above d ∙ has v above within (subst (λ (u : List Step). IsUnassigned u v) (sym split) (unassigned-push b e v d free))
]

-- Whether a variable is unassigned.
pub unassigned-or : (t : List Step) (v : ℕ) → IsUnassigned t v ⊎ (is_assigned t (record { var = v; positive = true }) ≡ true)
unassigned-or t v = elim (cases_Bool (is_assigned t (record { var = v; positive = true }))) [ inl h ↦ inr h | inr h ↦ inl h ]

-- the unassigned members stay so while assigned ones are taken out
abbrev pub StayFree : List Step → Ranking → Ranking → Type 0
StayFree t old r = (w : ℕ) → 0 < w → IsUnassigned t w → is_member r w ≡ is_member old w

pub stay-taken : (t : List Step) (old r : Ranking) (v : ℕ) → IsFirst r v → is_assigned t (record { var = v; positive = true }) ≡ true → StayFree t old r → StayFree t old (with_member r v false)
stay-taken t old r v first is stay = λ w above free.
    let d : w ≢ v = λ e. clash (is_assigned t (record { var = v; positive = true })) is (subst (IsUnassigned t) e free) in
    member-other r v w false first.above above d ∙ stay w above free

pub first-free : (t : List Step) (old r : Ranking) (v : ℕ) → r.scores ≡ old.scores → IsFirst r v → IsUnassigned t v → StayFree t old r → IsFirstFree t old v
first-free t old r v same first free stay = record {
  above = first.above;
  within = subst (λ (s : List ℕ). v ≤ length s) same first.within;
  free = free;
  first = λ w above is here. subst (λ (s : List ℕ). comes_before s w v ≡ false) same (first.first w above (stay w above here ∙ is));
}

pub kept-free : (t : List Step) (old r : Ranking) (v : ℕ) → IsFirst r v → StayFree t old r → IsKept t old (with_member r v false) v
kept-free t old r v first stay = λ w above d free is. member-other r v w false first.above above d ∙ stay w above free ∙ is

pub none-free : (t : List Step) (old r : Ranking) → HasNone r → StayFree t old r → NoneFree t old
none-free t old r none stay = λ v above is. elim (unassigned-or t v) as (λ _. is_assigned t (record { var = v; positive = true }) ≡ true) [
  | inr h ↦ h
  | inl free ↦ clash (is_member r v) (stay v above free ∙ is) (none v above)
]
