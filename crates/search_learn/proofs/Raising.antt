-- Steps along a clause whose variables' scores are raised.
use Rattle.std.proofs.Common.{◌≡◌, ℕ, ◌+◌, ◌-◌, ◌*◌, ◌<◌, true, false, cond, nat_eq, List, ◌∷◌, length, get_or, set, drop, refl, ap, sym, ◌∙◌, subst, arith, get_or-set_other, get_or-set_same}
use Rattle.std.proofs.lemmas.List.{drop_more}
use Rattle.std.proofs.lemmas.List.Sums.{sum_by-cons}
use Rattle.std.proofs.lemmas.Grind.{common_steps}
use Rattle.sat_form.specs.Literals.{Literal}
use Rattle.search_learn.specs.Machine.{raise}
use Rattle.search_learn.specs.Cases.{times}

pub times_first : (v : ℕ) (lits : List Literal) (at : ℕ) (l : Literal) → at < length lits → l ≡ get_or lits at l → times v (drop at lits) ≡ cond (nat_eq l.var v) 1 0 + times v (drop (at + 1) lits)
times_first v lits at l within is =
    ap (times v) (drop_more lits at l within ∙ ap (λ x. x ∷ drop (at + 1) lits) (sym is))
    ∙ sum_by-cons (λ k. cond (nat_eq k.var v) 1 0) l (drop (at + 1) lits)

pub raise_first : (by : ℕ) (scores : List ℕ) (lits : List Literal) (at : ℕ) (l : Literal) → at < length lits → l ≡ get_or lits at l
    → raise by scores (drop at lits) ≡ raise by (set scores (l.var - 1) (get_or scores (l.var - 1) 0 + by)) (drop (at + 1) lits)
raise_first by scores lits at l within is = ap (raise by scores) (drop_more lits at l within ∙ ap (λ x. x ∷ drop (at + 1) lits) (sym is))

-- There is room for the rest.
pub room_next : (bound by : ℕ) (scores : List ℕ) (lits : List Literal) (at : ℕ) (l : Literal) → at < length lits → l ≡ get_or lits at l → 0 < l.var → (l.var - 1) < length scores
    → ((v : ℕ) → 0 < v → get_or scores (v - 1) 0 + by * times v (drop at lits) < bound)
    → (v : ℕ) → 0 < v → get_or (set scores (l.var - 1) (get_or scores (l.var - 1) 0 + by)) (v - 1) 0 + by * times v (drop (at + 1) lits) < bound
room_next bound by scores lits at l within is above inside room v v_above =
    let first = times_first v lits at l within is in
    elim (nat_eq l.var v) as (λ b. nat_eq l.var v ≡ b → times v (drop at lits) ≡ cond b 1 0 + times v (drop (at + 1) lits) → get_or (set scores (l.var - 1) (get_or scores (l.var - 1) 0 + by)) (v - 1) 0 + by * times v (drop (at + 1) lits) < bound) [
      | true ↦ λ same count.
          let e : l.var ≡ v = equal l.var v same in
          let here : get_or (set scores (l.var - 1) (get_or scores (l.var - 1) 0 + by)) (v - 1) 0 ≡ get_or scores (v - 1) 0 + by =
          subst (λ (x : ℕ). get_or (set scores (l.var - 1) (get_or scores (l.var - 1) 0 + by)) (x - 1) 0 ≡ get_or scores (x - 1) 0 + by) e (rw get_or-set_same refl) in
          let old = room v v_above in
          let product : by * times v (drop at lits) ≡ by + by * times v (drop (at + 1) lits) = ap (λ n. by * n) count ∙ one_more by (times v (drop (at + 1) lits)) in
          omega arith
      | false ↦ λ differ count.
          let places : (v - 1 ≡ l.var - 1) → ⊥ = apart l.var v above v_above differ in
          let here : get_or (set scores (l.var - 1) (get_or scores (l.var - 1) 0 + by)) (v - 1) 0 ≡ get_or scores (v - 1) 0 = rw get_or-set_other refl in
          let old = room v v_above in
          let product : by * times v (drop at lits) ≡ by * times v (drop (at + 1) lits) = ap (λ n. by * n) (count ∙ none_more (times v (drop (at + 1) lits))) in
          omega arith
    ] refl first
  where
    equal : (m n : ℕ) → nat_eq m n ≡ true → m ≡ n
    equal m n h = grind (arith, common_steps)

    apart : (m n : ℕ) → 0 < m → 0 < n → nat_eq m n ≡ false → (n - 1 ≡ m - 1) → ⊥
    apart m n a b h e = let same : m ≡ n = omega arith in grind (arith, common_steps)

    one_more : (a b : ℕ) → a * (1 + b) ≡ a + a * b
    one_more a b = grind (arith, common_steps)

    none_more : (n : ℕ) → 0 + n ≡ n
    none_more n = omega arith

pub room_here : (bound by : ℕ) (scores : List ℕ) (lits : List Literal) (at : ℕ) (l : Literal) → at < length lits → l ≡ get_or lits at l → 0 < l.var
    → ((v : ℕ) → 0 < v → get_or scores (v - 1) 0 + by * times v (drop at lits) < bound)
    → get_or scores (l.var - 1) 0 + by < bound
room_here bound by scores lits at l within is above room =
    let first = times_first l.var lits at l within is ∙ ap (λ b. cond b 1 0 + times l.var (drop (at + 1) lits)) (itself l.var) in
    let old = room l.var above in
    let product : by * times l.var (drop at lits) ≡ by + by * times l.var (drop (at + 1) lits) = ap (λ n. by * n) first ∙ one_more by (times l.var (drop (at + 1) lits)) in
    omega arith
  where
    itself : (n : ℕ) → nat_eq n n ≡ true
    itself n = grind (arith, common_steps)

    one_more : (a b : ℕ) → a * (1 + b) ≡ a + a * b
    one_more a b = grind (arith, common_steps)
