-- The rule of the board after one view of its list was changed, and words with it.
use Rattle.std.proofs.Common.{◌≡◌, ◌≢◌, ◌⊎◌, ℕ, zero, suc, ◌+◌, ◌-◌, ◌<◌, ◌≤◌, List, [], ◌∷◌, length, get_or, set, sum_by, inl, inr, ⊎_elim, if◌then◌else◌, sym, refl, ap, ◌∙◌, subst, arith}
use Rattle.std.proofs.lemmas.List.Sums.{sum_by-set}
use Rattle.std.specs.Int.{bit_at}
use mathlib.Core.Option.{some, some-ne-none, some-injective}
use mathlib.Core.Logic.{dite}
use native.Mathlib.Decide.{ℕ_discrete}
use lib.ListN.{get_elem?}
use Rattle.atomic_table.proofs.Lists.{at_set, set_here, set_else}
use Rattle.goal_board.specs.declared.view.Size.{Size}
use Rattle.goal_board.specs.declared.view.BoardView.{BoardView}
use Rattle.goal_board.specs.Words.{word_at, Has, IsGoalWord}
use Rattle.goal_board.specs.Rule.{claim_count, left_set, IsViewOf, IsBoard, AnyTwo, span, spent}

-- what holds of any two views of a list holds with one of them changed
pub pair_set : (P : BoardView → BoardView → Type 0) (views : List BoardView) (id : ℕ) (w : BoardView) → AnyTwo P views
    → ((j : ℕ) (b : BoardView) → id ≢ j → get_elem? views j ≡ some b → P w b × P b w) → AnyTwo P (set views id w)
pair_set P views id w old new i j a b ne p q =
    ⊎_elim
    (λ (x : (i ≡ id) × (w ≡ a)). ⊎_elim
    (λ (y : (j ≡ id) × (w ≡ b)). absurd (ne (x.0 ∙ sym y.0)))
    (λ (y : (j ≢ id) × (get_elem? views j ≡ some b)). subst (λ u. P u b) x.1 (new j b (λ e. y.0 (sym e)) y.1).0)
    (at_set views id j w b q))
    (λ (x : (i ≢ id) × (get_elem? views i ≡ some a)). ⊎_elim
    (λ (y : (j ≡ id) × (w ≡ b)). subst (λ u. P a u) y.1 (new i a (λ e. x.0 (sym e)) x.1).1)
    (λ (y : (j ≢ id) × (get_elem? views j ≡ some b)). old i j a b ne x.1 y.1)
    (at_set views id j w b q))
    (at_set views id i w a p)

pub at_get : (views : List BoardView) (id : ℕ) (v d : BoardView) → get_elem? views id ≡ some v → (id < length views) × (get_or views id d ≡ v)
at_get [] id v d e = absurd (some-ne-none v (sym e))
at_get (x ∷ xs) zero v d e = (omega arith, some-injective x v e)
at_get (x ∷ xs) (suc id) v d e = let r = at_get xs id v d e in (omega arith, r.1)

-- the number of views that were answered none stays where the changed one was answered as before
pub same_spent : (views : List BoardView) (id : ℕ) (v w : BoardView) → get_elem? views id ≡ some v → w.none ≡ v.none
    → sum_by spent (set views id w) ≡ sum_by spent views
same_spent views id v w at e =
    let g = at_get views id v v at in let s = sum_by-set spent views id w v g.0 in let o = ap spent g.1 in
    let p : spent w ≡ spent v = (λ i. if e i then 1 else 0) in omega arith

-- the goal that a word says has cancelled
pub canceller : (goals g c word : ℕ) → IsGoalWord goals g word → word ≡ 5 + c → (c < goals) × (c ≢ g)
canceller goals g c word h e = ⊎_elim (λ (x : word ≤ 4). absurd (omega arith))
    (λ (x : (d : ℕ) × (word ≡ 5 + d) × (d < goals) × (d ≢ g)). let is : x.0 ≡ c = (let y = x.1 in omega arith) in
    (subst (λ d. d < goals) is x.2, (λ q. x.3 (is ∙ q)))) h

-- what one view owes after a step: the words keep the rule of goals and what others know, and the view keeps its range
pub record Renews (z : Size) (words more : List ℕ) (v w : BoardView) : Type 0 where
  pub size : length more ≡ length words
  pub goals : (g : ℕ) → g < z.goals → IsGoalWord z.goals g (word_at more g)
  pub cancelled : (g c : ℕ) → g < z.goals → word_at more g ≡ 5 + c → word_at more c ≡ 2
  pub finals : (g : ℕ) → g < z.goals → word_at words g ≢ 0 → word_at more g ≡ word_at words g
  pub grows : claim_count z words ≤ claim_count z more
  pub stays : (k : ℕ) → bit_at (left_set z words) k ≡ 1 → bit_at (left_set z more) k ≡ 1
  pub mine : IsViewOf z more w
  pub low : w.low ≡ v.low
  pub high : w.high ≡ v.high
  pub claimed : (k : ℕ) → Has w.claimed k → Has v.claimed k ⊎ (k ≡ claim_count z words)
  pub kept : (k : ℕ) → Has v.claimed k → Has w.claimed k
  pub bits : (k : ℕ) → bit_at (left_set z more) k ≡ 1 → (bit_at (left_set z words) k ≡ 1) ⊎ Has w.claimed k

pub renew : (z : Size) (words more : List ℕ) (views : List BoardView) (id : ℕ) (v w : BoardView) → IsBoard z words views → get_elem? views id ≡ some v
    → Renews z words more v w → claim_count z more ≤ z.sessions + sum_by spent (set views id w) → IsBoard z more (set views id w)
renew z words more views id v w b at r count =
    let g = at_get views id v v at in
    let others : (u : BoardView) → IsViewOf z words u → IsViewOf z more u = (λ u x. record {
      finals = (λ k h. let f = x.finals k h in (f.0, r.finals k f.0 (λ e. h (sym f.1 ∙ e)) ∙ f.1));
      size = x.size;
      range = x.range;
      claimed = (λ k h. let c = x.claimed k h in let p = c.0 in let o = r.grows in (omega arith, c.1));
      left = (λ k h. r.stays k (x.left k h));
    }) in
    let new-not : (j : ℕ) (u : BoardView) (k : ℕ) → id ≢ j → get_elem? views j ≡ some u → Has w.claimed k → Has u.claimed k → ⊥ = (λ j u k ne e p q.
    ⊎_elim (λ x. b.once id j v u ne at e k x q)
    (λ (is : k ≡ claim_count z words). let c = ((b.each j u e).claimed k q).0 in omega arith) (r.claimed k p)) in
    record {
      limits = b.limits;
      size = r.size ∙ b.size;
      goals = r.goals;
      cancelled = r.cancelled;
      each = (λ j u e. ⊎_elim (λ (x : (j ≡ id) × (w ≡ u)). subst (IsViewOf z more) x.1 r.mine)
          (λ (x : (j ≢ id) × (get_elem? views j ≡ some u)). others u (b.each j u x.1)) (at_set views id j w u e));
      apart = pair_set (λ a c. (a.high ≤ c.low) ⊎ (c.high ≤ a.low)) views id w b.apart
          (λ j u ne e. let x = b.apart id j v u ne at e in (rw (r.low, r.high) x, rw (r.low, r.high) (⊎_elim (λ y. inr y) (λ y. inl y) x)));
      once = pair_set (λ x y. (k : ℕ) → Has x.claimed k → Has y.claimed k → ⊥) views id w b.once
          (λ j u ne e. ((λ k. new-not j u k ne e), (λ k p q. new-not j u k ne e q p)));
      left = (λ k h. ⊎_elim
          (λ old. let l = b.left k old in dite (ℕ_discrete l.0 id)
          (λ (is : l.0 ≡ id). let same : l.1 ≡ v = some-injective _ _ (sym l.2 ∙ ap (get_elem? views) is ∙ at) in
          (id, w, set_here views id w g.0, r.kept k (subst (λ x. Has x.claimed k) same l.3)))
          (λ ne. (l.0, l.1, set_else views id l.0 w ne ∙ l.2, l.3)))
          (λ new. (id, w, set_here views id w g.0, new)) (r.bits k h));
      count = count;
      seats = (let s = sum_by-set span views id w v g.0 in let o = ap span g.1 in let t = b.seats in
          let p : span w ≡ span v = (λ i. r.high i - r.low i) in omega arith);
    }

-- a step that changes no word, and neither the range nor the claims of its view
pub steady : (z : Size) (words : List ℕ) (views : List BoardView) (id : ℕ) (v w : BoardView) → IsBoard z words views
    → get_elem? views id ≡ some v → IsViewOf z words w
    → w.low ≡ v.low → w.high ≡ v.high → w.claimed ≡ v.claimed → w.none ≡ v.none → IsBoard z words (set views id w)
steady z words views id v w b at mine low high same none =
    let s = same_spent views id v w at none in let c = b.count in
    renew z words words views id v w b at
    (record {
      size = refl;
      goals = b.goals;
      cancelled = b.cancelled;
      finals = (λ g l h. refl);
      grows = omega arith;
      stays = (λ k h. h);
      mine = mine;
      low = low;
      high = high;
      claimed = (λ k h. inl (subst (λ x. Has x k) same h));
      kept = (λ k h. subst (λ x. Has x k) (sym same) h);
      bits = (λ k h. inl h);
    })
    (omega arith)
