-- Each step keeps the rule of the table.
use Rattle.std.proofs.Common.{◌≡◌, ◌≢◌, ℕ, zero, suc, ◌<◌, List, [], ◌∷◌, ◌==◌, length, get_or, set, replicate, ⊎_elim, sym, refl, ◌∙◌, subst, length-set}
use Rattle.std.proofs.lemmas.List.{set-get_or, get_or-set_same}
use mathlib.Core.Option.{some, none, some-ne-none, some-injective}
use prog.Atomic.{either}
use lib.ListN.{get_elem?}
use Rattle.atomic_table.specs.Table.{step, Act, keeps, Valid, carried_after, stepped as table_after, Allows, Splits, Joins, opening}
use Rattle.atomic_table.proofs.Lists.{at_set, at_snoc, exchanged}
use Rattle.gate_probe.specs.Words.{word_at}
use Rattle.gate_probe.specs.declared.view.View.{View}
use Rattle.gate_probe.specs.Sound.{IsSound, IsWithin, IsViewOf, MayClaim}
use Rattle.gate_probe.specs.Views.{view, both, merged, put, learnt, union, stepped}
use Rattle.gate_probe.proofs.Keeping.{set_within, within_more, claim_sound, claim_place, put_at, learnt_within, union_within, union_at}
use Rattle.gate_table.specs.Seats.{IsBelow}
use Rattle.gate_table.specs.Plays.{IsTable, Looks, Claims, Merges, left_there}

-- all views are parts, also with one changed
all_within : (words : List ℕ) (views : List View) (id : ℕ) (w : View) → ((seat : ℕ) (v : View) → get_elem? views seat ≡ some v → IsViewOf words v) → IsViewOf words w
    → (seat : ℕ) (v : View) → get_elem? (set views id w) seat ≡ some v → IsViewOf words v
all_within words views id w h mine seat v e = ⊎_elim (λ (x : (seat ≡ id) × (w ≡ v)). subst (IsViewOf words) x.1 mine) (λ (x : (seat ≢ id) × (get_elem? views seat ≡ some v)). h seat v x.1) (at_set views id seat w v e)

pub left_some : (found wanted : ℕ) → found ≢ 0 → left_there found wanted ≡ found
left_some zero wanted h = absurd (h refl)
left_some (suc found) wanted h = refl

nothing : (words : List ℕ) → IsWithin [] words
nothing words s p = absurd (p refl)

empty : (words : List ℕ) (seat : ℕ) (v : View) → get_elem? (view [] 0 ∷ []) seat ≡ some v → IsViewOf words v
empty words zero v at = subst (IsViewOf words) (some-injective _ _ at) (nothing words, nothing words)
empty words (suc seat) v at = absurd (some-ne-none v (sym at))

pub look_allowed : (n slots id i : ℕ) (v : View) → Allows (IsTable n) slots id (v, []) i (λ k. k) (Looks (step slots i 0 0 none) (v, []))
look_allowed n slots id i v s h homes at fits =
    let found : ℕ = get_or s.words i 0 in
    let w : View = stepped v i found in
    let mine : IsWithin v.seen s.words = (h.2 id v at).0 in
    let now : IsWithin w.seen s.words = learnt_within s.words v.seen i found mine refl in (
      w,
      keeps,
      tt,
      rw (set-get_or s.words i 0) (h.0, h.1, all_within s.words s.views id w h.2 (now, nothing s.words)),
      ((refl, (s.words, h.1, now), mine i), refl),
    )

pub merge_allowed : (n slots id i : ℕ) (v : View) → Allows (IsTable n) slots id (v, []) i (λ k. k) (Merges (step slots i 0 0 none) (v, []))
merge_allowed n slots id i v s h homes at fits =
    let mine = h.2 id v at in (
      merged v,
      keeps,
      tt,
      rw (set-get_or s.words i 0) (h.0, h.1, all_within s.words s.views id (merged v) h.2 (union_within v.seen v.beside s.words mine.0 mine.1, nothing s.words)),
      (refl, (s.words, h.1, mine)),
    )

pub claim_allowed : (n slots id i word : ℕ) (v : View) → MayClaim n v.seen word i → Allows (IsTable n) slots id (v, []) i (λ k. either (k == 0) word k) (Claims (step slots i 0 word none) (v, []))
claim_allowed n slots id i word v may s h homes at fits =
    let mine : IsWithin v.seen s.words = (h.2 id v at).0 in
    let P : ℕ → Type 0 = λ (new : ℕ). (w : View) × (a : Act (Unit {0})) × Valid s.homes [] a × IsTable n (table_after s i new id [] w a) × Claims (step slots i 0 word none) (v, []) (get_or s.words i 0) (w, carried_after [] a) in
    exchanged (get_or s.words i 0) 0 word P
    (λ (none-there : get_or s.words i 0 ≡ 0).
    let after : List ℕ = set s.words i word in
    let w : View = stepped v i word in
    let small : i < length s.words = rw h.0 (claim_place n v.seen word i may) in
    let now : IsWithin w.seen after = learnt_within after v.seen i word (within_more v.seen s.words after mine (set_within s.words i word none-there)) (sym (get_or-set_same s.words i word 0 small)) in
    let sound : IsSound after = claim_sound s.words v.seen word i h.1 mine (rw h.0 may) none-there in (
      w,
      keeps,
      tt,
      (length-set s.words i word ∙ h.0, sound, all_within after s.views id w (λ seat u e. let x = h.2 seat u e in (within_more u.seen s.words after x.0 (set_within s.words i word none-there), within_more u.beside s.words after x.1 (set_within s.words i word none-there))) (now, nothing after)),
      rw none-there ((refl, (after, sound, now), λ seen. absurd (seen (sym (mine i seen) ∙ none-there))), refl),
    ))
    (λ some-there.
    let found : ℕ = get_or s.words i 0 in
    let w : View = stepped v i found in
    let now : IsWithin w.seen s.words = learnt_within s.words v.seen i found mine refl in
    let e : left_there found word ≡ found = left_some found word some-there in (
      w,
      keeps,
      tt,
      rw (set-get_or s.words i 0) (h.0, h.1, all_within s.words s.views id w h.2 (now, nothing s.words)),
      rw e ((refl, (s.words, h.1, now), mine i), refl),
    ))

pub splits : (n id : ℕ) (v : View) → Splits (IsTable n) id v v (view v.seen 0)
splits n id v s h at = (h.0, h.1, λ seat u e. ⊎_elim (λ x. all_within s.words s.views id v h.2 (h.2 id v at) seat u x) (λ (x : view v.seen 0 ≡ u). subst (IsViewOf s.words) x ((h.2 id v at).0, nothing s.words)) (at_snoc (set s.views id v) (view v.seen 0) u seat e))

pub joins : (n id other : ℕ) (v w : View) → Joins (IsTable n) id v other w (both v w) (view [] 0)
joins n id other v w s h at two at' =
    let theirs : IsViewOf s.words w = ⊎_elim (λ (x : (other ≡ id) × (both v w ≡ w)). absurd (two x.0)) (λ (x : (other ≢ id) × (get_elem? s.views other ≡ some w)). h.2 other w x.1) (at_set s.views id other (both v w) w at') in
    let first = all_within s.words s.views id (both v w) h.2 ((h.2 id v at).0, theirs.0) in
    (h.0, h.1, all_within s.words (set s.views id (both v w)) other (view [] 0) first (nothing s.words, nothing s.words))

pub begins : (words : List ℕ) (n : ℕ) → length words ≡ n → ((s : ℕ) → word_at words s ≡ 0) → IsTable n (opening words [] (view [] 0))
begins words n e none-there = (e, (λ s p. absurd (p (none-there s))), λ seat v at. empty words seat v at)

pub all_zero : (n s : ℕ) → word_at (replicate n 0) s ≡ 0
all_zero zero s = refl
all_zero (suc n) zero = refl
all_zero (suc n) (suc s) = all_zero n s

pub below_learnt : (n : ℕ) (seen : List ℕ) (s w : ℕ) → IsBelow n seen → s < n → IsBelow n (learnt seen s w)
below_learnt n seen s zero b l t h = b t h
below_learnt n seen s (suc w) b l t h = ⊎_elim (λ (x : (t ≡ s) × (word_at (put seen s (suc w)) t ≡ suc w)). rw x.0 l) (λ e. b t (λ z. h (e ∙ z))) (put_at seen s (suc w) t h)

pub below_union : (n : ℕ) (xs ys : List ℕ) → IsBelow n xs → IsBelow n ys → IsBelow n (union xs ys)
below_union n xs ys a b t h = ⊎_elim (λ e. a t (λ z. h (e ∙ z))) (λ e. b t (λ z. h (e ∙ z))) (union_at xs ys t)
