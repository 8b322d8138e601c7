-- A range that is cut in two keeps the rule, and so does a board's beginning.
use Rattle.std.proofs.Common.{◌≡◌, ◌≢◌, ◌⊎◌, ℕ, zero, suc, ◌+◌, ◌<◌, ◌≤◌, List, [], ◌∷◌, ◌++◌, length, set, inl, inr, ⊎_elim, sym, refl, ap, ◌∙◌, subst, arith, length-set}
use Rattle.std.proofs.lemmas.List.Sums.{sum_by-set, sum_by-cons, sum_by_push}
use Rattle.std.proofs.lemmas.Nat.Bits.{bit_at-zero}
use Rattle.std.specs.Prelude.{replicate}
use Rattle.std.specs.Int.{bit_at}
use mathlib.Core.Option.{some, some-ne-none, some-injective}
use mathlib.Core.Logic.{dite}
use native.Mathlib.Decide.{ℕ_discrete}
use lib.ListN.{get_elem?}
use Rattle.atomic_table.proofs.Lists.{at_set, set_here, set_else, at_longer}
use Rattle.atomic_table.specs.Table.{Splits, opening}
use Rattle.goal_board.specs.declared.view.Size.{Size}
use Rattle.goal_board.specs.declared.view.BoardView.{BoardView}
use Rattle.goal_board.specs.Words.{word_at, Has}
use Rattle.goal_board.specs.Views.{kept_part, cut_part}
use Rattle.goal_board.specs.Rule.{AnyTwo, left_set, IsViewOf, span, spent}
use Rattle.goal_board.specs.Plays.{IsTable, first_view}
use Rattle.goal_board.proofs.Renewing.{at_get, same_spent}

-- the ends of a list with one changed and one more
three : (views : List BoardView) (id : ℕ) (l r : BoardView) (j : ℕ) (u : BoardView) → get_elem? (set views id l ++ r ∷ []) j ≡ some u
    → ((j ≡ id) × (l ≡ u)) ⊎ (((j ≢ id) × (get_elem? views j ≡ some u)) ⊎ ((j ≡ length views) × (r ≡ u)))
three views id l r j u e = ⊎_elim (λ x. ⊎_elim (λ y. inl y) (λ y. inr (inl y)) (at_set views id j l u x))
    (λ (x : (j ≡ length (set views id l)) × (r ≡ u)). inr (inr (x.0 ∙ length-set views id l, x.1)))
    (ends (set views id l) r u j e)
  where
    ends : (xs : List BoardView) (a b : BoardView) (i : ℕ) → get_elem? (xs ++ a ∷ []) i ≡ some b
        → (get_elem? xs i ≡ some b) ⊎ ((i ≡ length xs) × (a ≡ b))
    ends [] a b zero p = inr (refl, some-injective a b p)
    ends [] a b (suc i) p = absurd (some-ne-none b (sym p))
    ends (x ∷ xs) a b zero p = inl p
    ends (x ∷ xs) a b (suc i) p = ⊎_elim (λ q. inl q) (λ (q : (i ≡ length xs) × (a ≡ b)). inr (ap suc q.0, q.1)) (ends xs a b i p)

-- what holds of any two views of a list holds with one of them cut in two
pair_split : (P : BoardView → BoardView → Type 0) (views : List BoardView) (id : ℕ) (l r : BoardView) → AnyTwo P views
    → ((j : ℕ) (b : BoardView) → id ≢ j → get_elem? views j ≡ some b → (P l b × P b l) × (P r b × P b r)) → P l r → P r l
    → AnyTwo P (set views id l ++ r ∷ [])
pair_split P views id l r old new lr rl i j a b ne p q =
    ⊎_elim
    (λ (x : (i ≡ id) × (l ≡ a)). ⊎_elim
    (λ (y : (j ≡ id) × (l ≡ b)). absurd (ne (x.0 ∙ sym y.0)))
    (λ y. ⊎_elim
    (λ (y : (j ≢ id) × (get_elem? views j ≡ some b)). subst (λ u. P u b) x.1 (new j b (λ e. y.0 (sym e)) y.1).0.0)
    (λ (y : (j ≡ length views) × (r ≡ b)). subst (λ u. P u b) x.1 (subst (λ u. P l u) y.1 lr)) y)
    (three views id l r j b q))
    (λ x. ⊎_elim
    (λ (x : (i ≢ id) × (get_elem? views i ≡ some a)). ⊎_elim
    (λ (y : (j ≡ id) × (l ≡ b)). subst (λ u. P a u) y.1 (new i a (λ e. x.0 (sym e)) x.1).0.1)
    (λ y. ⊎_elim
    (λ (y : (j ≢ id) × (get_elem? views j ≡ some b)). old i j a b ne x.1 y.1)
    (λ (y : (j ≡ length views) × (r ≡ b)). subst (λ u. P a u) y.1 (new i a (λ e. x.0 (sym e)) x.1).1.1) y)
    (three views id l r j b q))
    (λ (x : (i ≡ length views) × (r ≡ a)). ⊎_elim
    (λ (y : (j ≡ id) × (l ≡ b)). subst (λ u. P u b) x.1 (subst (λ u. P r u) y.1 rl))
    (λ y. ⊎_elim
    (λ (y : (j ≢ id) × (get_elem? views j ≡ some b)). subst (λ u. P u b) x.1 (new j b (λ e. y.0 (sym e)) y.1).1.0)
    (λ (y : (j ≡ length views) × (r ≡ b)). absurd (ne (x.0 ∙ sym y.0))) y)
    (three views id l r j b q))
    x)
    (three views id l r i a p)

-- a range is cut in two
pub splits : (z : Size) (id : ℕ) (v : BoardView) → v.low + 1 < v.high → Splits (IsTable z) id v (kept_part v) (cut_part v)
splits z id v wide s b at =
    let words : List ℕ = s.words in let views : List BoardView = s.views in let l : BoardView = kept_part v in
    let r : BoardView = cut_part v in let m = b.each id v at in
    let g = at_get views id v v at in let up : v.high ≤ z.workers + 1 = m.range.1 in
    let left-view : IsViewOf z words l = record {
      finals = m.finals;
      size = m.size;
      range = (omega arith, omega arith);
      claimed = m.claimed;
      left = m.left;
    } in
    let right-view : IsViewOf z words r = record {
      finals = (λ k h. absurd (h refl));
      size = m.size;
      range = (omega arith, omega arith);
      claimed = (λ k h. absurd h);
      left = (λ k h. absurd h);
    } in
    record {
      limits = b.limits;
      size = b.size;
      goals = b.goals;
      cancelled = b.cancelled;
      each = (λ j u e. ⊎_elim (λ (x : (j ≡ id) × (l ≡ u)). subst (IsViewOf z words) x.1 left-view)
          (λ x. ⊎_elim (λ (x : (j ≢ id) × (get_elem? views j ≡ some u)). b.each j u x.1)
          (λ (x : (j ≡ length views) × (r ≡ u)). subst (IsViewOf z words) x.1 right-view) x)
          (three views id l r j u e));
      apart = pair_split (λ a c. (a.high ≤ c.low) ⊎ (c.high ≤ a.low)) views id l r b.apart
          (λ j u ne e. ⊎_elim
          (λ (x : v.high ≤ u.low). ((inl (omega arith), inr (omega arith)), (inl x, inr x)))
          (λ (x : u.high ≤ v.low). ((inr x, inl x), (inr (omega arith), inl (omega arith)))) (b.apart id j v u ne at e))
          (inl (omega arith)) (inr (omega arith));
      once = pair_split (λ x y. (k : ℕ) → Has x.claimed k → Has y.claimed k → ⊥) views id l r b.once
          (λ j u ne e. (
            ((λ k p q. b.once id j v u ne at e k p q), (λ k p q. b.once id j v u ne at e k q p)),
            ((λ k p q. absurd p), (λ k p q. absurd q)),
          ))
          (λ k p q. absurd q) (λ k p q. absurd p);
      left = (λ k h. let o = b.left k h in dite (ℕ_discrete o.0 id)
          (λ (is : o.0 ≡ id). let same : o.1 ≡ v = some-injective _ _ (sym o.2 ∙ ap (get_elem? views) is ∙ at) in
          (id, l, at_longer (set views id l) (r ∷ []) id l (set_here views id l g.0), subst (λ x. Has x.claimed k) same o.3))
          (λ ne. (o.0, o.1, at_longer (set views id l) (r ∷ []) o.0 o.1 (set_else views id o.0 l ne ∙ o.2), o.3)));
      count = (let x = same_spent views id v l at refl in let p = sum_by_push spent (set views id l) r in let c = b.count in omega arith);
      seats = (let x = sum_by-set span views id l v g.0 in let p = sum_by_push span (set views id l) r in
          let o = ap span g.1 in let t = b.seats in omega arith);
    }

only : (z : Size) (id : ℕ) (u : BoardView) → get_elem? (first_view z ∷ []) id ≡ some u → (id ≡ 0) × (first_view z ≡ u)
only z zero u e = (refl, some-injective _ _ e)
only z (suc id) u e = absurd (some-ne-none u (sym e))

-- a new board
pub begins : (z : Size) (words : List ℕ) → (z.sessions ≤ 64) × (z.workers ≤ 16) × (z.goals ≤ 65536) → length words ≡ z.goals + 2
    → ((k : ℕ) → word_at words k ≡ 0) → IsTable z (opening words [] (first_view z))
begins z words limits size none-there = record {
  limits = limits;
  size = size;
  goals = (λ g l. inl (let e = none-there g in omega arith));
  cancelled = (λ g c l e. absurd (let n = none-there g in omega arith));
  each = (λ id u e. subst (IsViewOf z words) (only z id u e).1 (record {
    finals = (λ k h. absurd (h refl));
    size = (refl, refl);
    range = (omega arith, omega arith);
    claimed = (λ k h. absurd h);
    left = (λ k h. absurd h);
  }));
  apart = (λ id other v w ne p q. absurd (ne ((only z id v p).0 ∙ sym (only z other w q).0)));
  once = (λ id other v w ne p q k h. absurd (ne ((only z id v p).0 ∙ sym (only z other w q).0)));
  left = (λ k h. let e : bit_at (left_set z words) k ≡ 0 = ap (λ x. bit_at x k) (none-there (z.goals + 1)) ∙ bit_at-zero k in absurd (omega arith));
  count = (let e = none-there z.goals in omega arith);
  seats = (let e = sum_by-cons span (first_view z) [] in omega arith);
}

pub all_zero : (n s : ℕ) → word_at (replicate n 0) s ≡ 0
all_zero zero s = refl
all_zero (suc n) zero = refl
all_zero (suc n) (suc s) = all_zero n s
