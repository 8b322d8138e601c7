-- Sets in order: what is put in or taken out once, how many members pass a test, and that two with the same members are one list.
use Rattle.std.proofs.Common.{◌≡◌, ℕ, ◌+◌, ◌*◌, ◌<◌, ◌≤◌, Bool, true, false, not, ◌||◌, cond, nat_lt, List, [], ◌∷◌, refl, ap, sym, ◌∙◌, subst, inl, inr, arith, count_by}
use Rattle.std.specs.List.{list_any}
use Rattle.std.proofs.lemmas.Bool.{cases_Bool}
use Rattle.std.proofs.lemmas.Grind.{common_steps}
use Rattle.std.proofs.lemmas.List.Sums.{sum_by-cons}
use Rattle.sat_form.specs.Literals.{Literal, member, same_literal, stands_before, put, without}
use Rattle.sat_form.proofs.Sets as sets
use Rattle.search_learn.specs.Marks.{key, Ordered}
use Rattle.search_learn.proofs.Decisions.{clash}
use Rattle.search_learn.proofs.Ordered.{before_key}

pub member_low : (low : ℕ) (s : List Literal) (k : Literal) → Ordered low s → member s k ≡ true → low ≤ key k
member_low low [] k o h = absurd (clash false h refl)
member_low low (l ∷ s) k o h = elim (sets.one_of (same_literal k l) (member s k) h) as (λ _. low ≤ key k) [
  | inl same ↦ subst (λ (x : Literal). low ≤ key x) (sym (sets.same_is k l same)) o.0
  | inr later ↦ let a = member_low (key l + 1) s k o.1 later in let b = o.0 in omega arith
]

not_later : (k : Literal) (r : List Literal) → Ordered (key k + 1) r → member r k ≡ false
not_later k r o = elim (cases_Bool (member r k)) as (λ _. member r k ≡ false) [
  | inl h ↦ let a = member_low (key k + 1) r k o h in absurd (omega arith)
  | inr h ↦ h
]

-- a member that is put in again
pub put_there : (low : ℕ) (s : List Literal) (l : Literal) → Ordered low s → member s l ≡ true → put s l ≡ s
put_there low [] l o h = absurd (clash false h refl)
put_there low (k ∷ s) l o h =
    elim (stands_before l k) as (λ t. stands_before l k ≡ t → cond t (l ∷ k ∷ s) (cond (same_literal l k) (k ∷ s) (k ∷ put s l)) ≡ k ∷ s) [
      | true ↦ λ first.
          let lt = before_key l.var k.var l.positive k.positive first in
          let high = member_low (key k) (k ∷ s) l (omega arith, o.1) h in
          absurd (omega arith)
      | false ↦ λ _. elim (same_literal l k) as (λ t. same_literal l k ≡ t → cond t (k ∷ s) (k ∷ put s l) ≡ k ∷ s) [
        | true ↦ λ _. refl
        | false ↦ λ differ. ap (λ x. k ∷ x) (put_there (key k + 1) s l o.1 (sym (ap (λ b. b || member s l) differ) ∙ h))
      ] refl
    ] refl

pub without_none : (s : List Literal) (l : Literal) → member s l ≡ false → without s l ≡ s
without_none [] l h = refl
without_none (k ∷ s) l h =
    let parts = sets.neither (same_literal l k) (member s l) h in
    ap (λ b. cond (not b) (k ∷ without s l) (without s l)) parts.0 ∙ ap (λ x. k ∷ x) (without_none s l parts.1)

module _ (p : Literal → Bool) where
  one : (b : Bool) → cond b 1 0 ≤ 1
  one true = omega arith
  one false = omega arith

  pub counted_first : (l : Literal) (s : List Literal) → count_by p (l ∷ s) ≡ cond (p l) 1 0 + count_by p s
  counted_first l s = sum_by-cons (λ x. cond (p x) 1 0) l s

  pub count_put : (s : List Literal) (l : Literal) → member s l ≡ false → count_by p (put s l) ≡ count_by p s + cond (p l) 1 0
  count_put [] l h = let a = counted_first l [] in omega arith
  count_put (k ∷ s) l h =
      let parts = sets.neither (same_literal l k) (member s l) h in
      elim (stands_before l k) as (λ t. count_by p (cond t (l ∷ k ∷ s) (cond (same_literal l k) (k ∷ s) (k ∷ put s l))) ≡ count_by p (k ∷ s) + cond (p l) 1 0) [
        | true ↦ let a = counted_first l (k ∷ s) in omega arith
        | false ↦ elim (same_literal l k) as (λ t. same_literal l k ≡ t → count_by p (cond t (k ∷ s) (k ∷ put s l)) ≡ count_by p (k ∷ s) + cond (p l) 1 0) [
          | true ↦ λ same. clash (same_literal l k) same parts.0
          | false ↦ λ _. let a = counted_first k (put s l) in let b = counted_first k s in let c = count_put s l parts.1 in omega arith
        ] refl
      ]

  pub count_without : (low : ℕ) (s : List Literal) (l : Literal) → Ordered low s → member s l ≡ true → count_by p s ≡ count_by p (without s l) + cond (p l) 1 0
  count_without low [] l o h = absurd (clash false h refl)
  count_without low (k ∷ s) l o h =
      elim (same_literal l k) as (λ t. same_literal l k ≡ t → count_by p (k ∷ s) ≡ count_by p (cond (not t) (k ∷ without s l) (without s l)) + cond (p l) 1 0) [
        | true ↦ λ same.
            let e = sets.same_is l k same in
            let gone = without_none s l (subst (λ (x : Literal). member s x ≡ false) (sym e) (not_later k s o.1)) in
            let a = counted_first k s in
            let b : ◌≡◌ {A = ℕ} (cond (p l) 1 0) (cond (p k) 1 0) = ap (λ (x : Literal). cond (p x) 1 0) e in
            let c : count_by p (without s l) ≡ count_by p s = ap (count_by p) gone in
            let whole : count_by p (k ∷ s) ≡ count_by p (without s l) + cond (p l) 1 0 = omega arith in
            whole
        | false ↦ λ differ.
            let deep = count_without (key k + 1) s l o.1 (sym (ap (λ b. b || member s l) differ) ∙ h) in
            let a = counted_first k s in
            let b = counted_first k (without s l) in
            let whole : count_by p (k ∷ s) ≡ count_by p (k ∷ without s l) + cond (p l) 1 0 = omega arith in
            whole
      ] refl

  pub any_counted : (s : List Literal) → list_any p s ≡ nat_lt 0 (count_by p s)
  any_counted [] = refl
  any_counted (l ∷ s) =
      elim (p l) as (λ b. p l ≡ b → (b || list_any p s) ≡ nat_lt 0 (count_by p (l ∷ s))) [
        | true ↦ λ is. let a = counted_first l s in let b : ◌≡◌ {A = ℕ} (cond (p l) 1 0) 1 = ap (λ (x : Bool). cond x 1 0) is in sym (more (count_by p (l ∷ s)) (omega arith))
        | false ↦ λ is. any_counted s ∙ ap (nat_lt 0) (let a = counted_first l s in let b : ◌≡◌ {A = ℕ} (cond (p l) 1 0) 0 = ap (λ (x : Bool). cond x 1 0) is in omega arith)
      ] refl
    where
      more : (n : ℕ) → 0 < n → nat_lt 0 n ≡ true
      more n h = grind (arith, common_steps)

  -- beside a member that passes another one does where two are counted
  pub other_counted : (low : ℕ) (s : List Literal) (l : Literal) → Ordered low s → member s l ≡ true → p l ≡ true → list_any p (without s l) ≡ nat_lt 1 (count_by p s)
  other_counted low s l o h passes =
      let a = count_without low s l o h in
      let b : ◌≡◌ {A = ℕ} (cond (p l) 1 0) 1 = ap (λ (x : Bool). cond x 1 0) passes in
      any_counted (without s l) ∙ shifted (count_by p (without s l)) (count_by p s) (omega arith)
    where
      shifted : (m n : ℕ) → n ≡ m + 1 → nat_lt 0 m ≡ nat_lt 1 n
      shifted m n e = grind (arith, common_steps)

  pub count_small : (low high : ℕ) (s : List Literal) → low ≤ high → Ordered low s → ((l : Literal) → member s l ≡ true → key l < high) → count_by p s + low ≤ high
  count_small low high [] le o h = omega arith
  count_small low high (k ∷ s) le o h =
      let below = h k (sets.either_left (same_literal k k) (member s k) (sets.same_itself k)) in
      let deep = count_small (key k + 1) high s (omega arith) o.1 (λ l has. h l (sets.either_right (same_literal l k) (member s l) has)) in
      let a = counted_first k s in
      let b = one (p k) in
      let c = o.0 in
      omega arith

key_same_as : (v w : ℕ) (a b : Bool) → 2 * v + cond a 1 0 ≡ 2 * w + cond b 1 0 → (v ≡ w) × (a ≡ b)
key_same_as v w true true e = (omega arith, refl)
key_same_as v w false false e = (omega arith, refl)
key_same_as v w true false e = absurd (omega arith)
key_same_as v w false true e = absurd (omega arith)

key_same : (k l : Literal) → key k ≡ key l → k ≡ l
key_same k l e =
    let two = key_same_as k.var l.var k.positive l.positive e in
    let v = two.0 in
    let s = two.1 in
    λ i. record { var = v i; positive = s i }

abbrev pub SameMembers : List Literal → List Literal → Type 0
SameMembers r s = (k : Literal) → member r k ≡ member s k

-- the first of the one isn't before the first of the other
first_low : (k l : Literal) (r s : List Literal) → Ordered (key l + 1) s → SameMembers (k ∷ r) (l ∷ s) → key l ≤ key k
first_low k l r s o same =
    let here : member (l ∷ s) k ≡ true = sym (same k) ∙ sets.either_left (same_literal k k) (member r k) (sets.same_itself k) in
    member_low (key l) (l ∷ s) k (omega arith, o) here

tail_same : (k : Literal) (r s : List Literal) → Ordered (key k + 1) r → Ordered (key k + 1) s → SameMembers (k ∷ r) (k ∷ s) → SameMembers r s
tail_same k r s o p same = λ x. elim (cases_Bool (same_literal x k)) as (λ _. member r x ≡ member s x) [
  | inl e ↦ subst (λ (y : Literal). member r y ≡ member s y) (sym (sets.same_is x k e)) (not_later k r o ∙ sym (not_later k s p))
  | inr d ↦ sym (ap (λ b. b || member r x) d) ∙ same x ∙ ap (λ b. b || member s x) d
]

pub ordered_same : (low : ℕ) (r s : List Literal) → Ordered low r → Ordered low s → SameMembers r s → r ≡ s
ordered_same low [] [] o p same = refl
ordered_same low [] (l ∷ s) o p same = absurd (clash (member (l ∷ s) l) (sets.either_left (same_literal l l) (member s l) (sets.same_itself l)) (sym (same l)))
ordered_same low (k ∷ r) [] o p same = absurd (clash (member (k ∷ r) k) (sets.either_left (same_literal k k) (member r k) (sets.same_itself k)) (same k))
ordered_same low (k ∷ r) (l ∷ s) o p same =
    let a = first_low k l r s p.1 same in
    let b = first_low l k s r o.1 (λ x. sym (same x)) in
    let e : k ≡ l = key_same k l (omega arith) in
    let p2 : Ordered (key k + 1) s = subst (λ (x : Literal). Ordered (key x + 1) s) (sym e) p.1 in
    let same2 : SameMembers (k ∷ r) (k ∷ s) = subst (λ (x : Literal). SameMembers (k ∷ r) (x ∷ s)) (sym e) same in
    λ i. e i ∷ ordered_same (key k + 1) r s o.1 p2 (tail_same k r s o.1 p2 same2) i
