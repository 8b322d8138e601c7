-- A learnt clause is in order, so that a variable stands in it at most twice.
use Rattle.std.proofs.Common.{◌≡◌, ℕ, ◌+◌, ◌-◌, ◌*◌, ◌<◌, ◌≤◌, max, Bool, true, false, not, ◌&&◌, ◌||◌, cond, nat_eq, nat_lt, List, [], ◌∷◌, refl, arith, inl, inr}
use Rattle.std.proofs.lemmas.List.Sums.{sum_by-cons}
use Rattle.std.proofs.lemmas.Grind.{common_steps}
use Rattle.sat_form.specs.Literals.{Literal, negate, same_sign, same_literal, stands_before, put, put_all, without, set_of}
use Rattle.search_learn.specs.declared.Step.{Step}
use Rattle.search_learn.specs.Analysis.{Resolved, is_resolved, resolve_if, resolve_back, lesson}
use Rattle.search_learn.specs.Cases.{times}
use Rattle.search_learn.specs.Marks.{key, Ordered}
use Rattle.sat_form.proofs.Sets.{both, one_of, neither}

less : (v w : ℕ) → nat_lt v w ≡ true → v < w
less v w h = grind (arith, common_steps)

not_less : (v w : ℕ) → nat_lt v w ≡ false → w ≤ v
not_less v w h = grind (arith, common_steps)

equal : (v w : ℕ) → nat_eq v w ≡ true → v ≡ w
equal v w h = grind (arith, common_steps)

not_equal : (v w : ℕ) → nat_eq v w ≡ false → w ≤ v → w < v
not_equal v w h l = grind (arith, common_steps)

pub before_key : (v w : ℕ) (a b : Bool) → (nat_lt v w || (nat_eq v w && (not a && b))) ≡ true → 2 * v + cond a 1 0 < 2 * w + cond b 1 0
before_key v w true true h = elim (one_of (nat_lt v w) _ h) [ inl l ↦ let s = less v w l in omega arith | inr e ↦ let p = (both (nat_eq v w) false e).1 in cc ]
before_key v w true false h = elim (one_of (nat_lt v w) _ h) [ inl l ↦ let s = less v w l in omega arith | inr e ↦ let p = (both (nat_eq v w) false e).1 in cc ]
before_key v w false true h = elim (one_of (nat_lt v w) _ h) [ inl l ↦ let s = less v w l in omega arith | inr e ↦ let p = equal v w (both (nat_eq v w) true e).0 in omega arith ]
before_key v w false false h = elim (one_of (nat_lt v w) _ h) [ inl l ↦ let s = less v w l in omega arith | inr e ↦ let p = (both (nat_eq v w) false e).1 in cc ]

pub behind_key : (v w : ℕ) (a b e : Bool) → nat_eq v w ≡ e → (nat_lt v w || (e && (not a && b))) ≡ false → (e && same_sign a b) ≡ false → 2 * w + cond b 1 0 < 2 * v + cond a 1 0
behind_key v w true true true is h d = cc
behind_key v w true false true is h d = let p = equal v w is in omega arith
behind_key v w false true true is h d = let q = (neither (nat_lt v w) true h).1 in cc
behind_key v w false false true is h d = cc
behind_key v w a b false is h d =
    let l = not_less v w (neither (nat_lt v w) false h).0 in
    let s = not_equal v w is l in
    let x = small a in let y = small b in
    omega arith
  where
    small : (c : Bool) → cond c 1 0 ≤ 1
    small true = omega arith
    small false = omega arith

pub lower : (low high : ℕ) (s : List Literal) → low ≤ high → Ordered high s → Ordered low s
lower low high [] l h = tt
lower low high (k ∷ s) l h = let a = h.0 in (omega arith, h.1)

pub put_ordered : (low : ℕ) (s : List Literal) (l : Literal) → low ≤ key l → Ordered low s → Ordered low (put s l)
put_ordered low [] l a h = (a, tt)
put_ordered low (k ∷ s) l a h =
    elim (stands_before l k) as (λ t. stands_before l k ≡ t → Ordered low (cond t (l ∷ k ∷ s) (cond (same_literal l k) (k ∷ s) (k ∷ put s l)))) [
      | true ↦ λ first. let lt = before_key l.var k.var l.positive k.positive first in (a, (omega arith, h.1))
      | false ↦ λ behind. elim (same_literal l k) as (λ t. same_literal l k ≡ t → Ordered low (cond t (k ∷ s) (k ∷ put s l))) [
        | true ↦ λ _. h
        | false ↦ λ differ. let lt = behind_key l.var k.var l.positive k.positive (nat_eq l.var k.var) refl behind differ in (h.0, put_ordered (key k + 1) s l (omega arith) h.1)
      ] refl
    ] refl

pub without_ordered : (low : ℕ) (s : List Literal) (l : Literal) → Ordered low s → Ordered low (without s l)
without_ordered low [] l h = tt
without_ordered low (k ∷ s) l h =
    elim (same_literal l k) as (λ t. Ordered low (cond (not t) (k ∷ without s l) (without s l))) [
      | true ↦ let a = h.0 in lower low (key k + 1) (without s l) (omega arith) (without_ordered (key k + 1) s l h.1)
      | false ↦ (h.0, without_ordered (key k + 1) s l h.1)
    ]

pub put_all_ordered : (s ls : List Literal) → Ordered 0 s → Ordered 0 (put_all s ls)
put_all_ordered s [] h = h
put_all_ordered s (l ∷ ls) h = put_all_ordered (put s l) ls (put_ordered 0 s l (omega arith) h)

pub back_ordered : (clause_of : ℕ → List Literal) (trail : List Step) (d : ℕ) (r : Resolved) (later : List Step) → Ordered 0 r.lits → Ordered 0 (resolve_back clause_of trail d r later).lits
back_ordered clause_of trail d r [] h = h
back_ordered clause_of trail d r (e ∷ later) h =
    let deep = resolve_back clause_of trail d r later in
    let one = back_ordered clause_of trail d r later h in
    elim (is_resolved clause_of trail d deep.lits e) as (λ b. Ordered 0 (resolve_if clause_of trail d b deep e).lits) [
      | true ↦ put_all_ordered (without deep.lits (negate e.lit)) (without (clause_of e.reason) e.lit) (without_ordered 0 deep.lits (negate e.lit) one)
      | false ↦ one
    ]

times_up_to : (v low : ℕ) (s : List Literal) → Ordered low s → times v s ≤ (2 * v + 2) - max low (2 * v)
times_up_to v low [] h = omega arith
times_up_to v low (l ∷ s) h =
    let a = h.0 in
    let deep = times_up_to v (key l + 1) s h.1 in
    let first = sum_by-cons (λ (k : Literal). cond (nat_eq k.var v) 1 0) l s in
    let bit = small l.positive in
    elim (nat_eq l.var v) as (λ b. nat_eq l.var v ≡ b → times v (l ∷ s) ≡ cond b 1 0 + times v s → times v (l ∷ s) ≤ (2 * v + 2) - max low (2 * v)) [
      | true ↦ λ is count. let e = equal l.var v is in omega arith
      | false ↦ λ _ count. omega arith
    ] refl first
  where
    small : (c : Bool) → cond c 1 0 ≤ 1
    small true = omega arith
    small false = omega arith

pub lesson_times : (clause_of : ℕ → List Literal) (trail : List Step) (d id v : ℕ) → times v (lesson clause_of trail d id).lits ≤ 2
lesson_times clause_of trail d id v =
    let h = times_up_to v 0 (lesson clause_of trail d id).lits (back_ordered clause_of trail d (record { lits = set_of (clause_of id); used = [] }) trail (put_all_ordered [] (clause_of id) tt)) in
    omega arith
