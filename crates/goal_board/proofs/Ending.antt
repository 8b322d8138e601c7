-- Steps on a goal's word keep the rule.
use Rattle.std.proofs.Common.{◌≡◌, ◌≢◌, ℕ, zero, suc, ◌+◌, ◌<◌, ◌≤◌, List, [], ◌∷◌, length, set, inl, inr, ⊎_elim, sym, refl, ap, ◌∙◌, subst, arith, length-set}
use Rattle.std.proofs.lemmas.List.{get_or-set_same, get_or-set_other}
use Rattle.std.specs.Int.{bit_at}
use mathlib.Core.Option.{some}
use mathlib.Core.Logic.{dite}
use native.Mathlib.Decide.{ℕ_discrete}
use lib.ListN.{get_elem?}
use Rattle.goal_board.specs.declared.view.Size.{Size}
use Rattle.goal_board.specs.declared.view.BoardView.{BoardView}
use Rattle.goal_board.specs.Words.{word_at, IsGoalWord, put, learnt}
use Rattle.goal_board.specs.Views.{told}
use Rattle.goal_board.specs.Rule.{left_set, IsViewOf, IsBoard, MayEnd}
use Rattle.goal_board.proofs.Renewing.{renew, steady, same_spent}

pub put_here : (seen : List ℕ) (s w : ℕ) → word_at (put seen s w) s ≡ w
put_here [] zero w = refl
put_here [] (suc s) w = put_here [] s w
put_here (x ∷ xs) zero w = refl
put_here (x ∷ xs) (suc s) w = put_here xs s w

pub put_else : (seen : List ℕ) (s w t : ℕ) → t ≢ s → word_at (put seen s w) t ≡ word_at seen t
put_else [] zero w zero n = absurd (n refl)
put_else [] zero w (suc t) n = refl
put_else [] (suc s) w zero n = refl
put_else [] (suc s) w (suc t) n = put_else [] s w t (λ e. n (ap suc e))
put_else (x ∷ xs) zero w zero n = absurd (n refl)
put_else (x ∷ xs) zero w (suc t) n = refl
put_else (x ∷ xs) (suc s) w zero n = refl
put_else (x ∷ xs) (suc s) w (suc t) n = put_else xs s w t (λ e. n (ap suc e))

-- the final words that a view has seen, with the one that is there now
learnt_final : (z : Size) (words : List ℕ) (finals : List ℕ) (g there : ℕ) → g < z.goals
    → ((k : ℕ) → word_at finals k ≢ 0 → (k < z.goals) × (word_at words k ≡ word_at finals k)) → word_at words g ≡ there
    → (k : ℕ) → word_at (learnt finals g there) k ≢ 0 → (k < z.goals) × (word_at words k ≡ word_at (learnt finals g there) k)
learnt_final z words finals g zero lt h is k n = h k n
learnt_final z words finals g (suc t) lt h is k n = dite (ℕ_discrete k g)
    (λ (e : k ≡ g). (
      subst (λ x. x < z.goals) (sym e) lt,
      ap (word_at words) e ∙ is ∙ sym (put_here finals g (suc t)) ∙ ap (word_at (put finals g (suc t))) (sym e),
    ))
    (λ ne. let p = put_else finals g (suc t) k ne in let o = h k (λ z. n (p ∙ z)) in (o.0, o.1 ∙ sym p))

-- a view after a step that left the word that is there now
told_view : (z : Size) (words : List ℕ) (v : BoardView) (g found there : ℕ) → IsViewOf z words v → g < z.goals → word_at words g ≡ there
    → IsViewOf z words (told v g found there)
told_view z words v g found there m lt is = record {
  finals = learnt_final z words v.finals g there lt m.finals is;
  size = m.size;
  range = m.range;
  claimed = m.claimed;
  left = m.left;
}

pub look_keeps : (z : Size) (words : List ℕ) (views : List BoardView) (id g : ℕ) (v : BoardView) → IsBoard z words views
    → get_elem? views id ≡ some v → g < z.goals
    → IsBoard z words (set views id (told v g (word_at words g) (word_at words g)))
look_keeps z words views id g v b at lt =
    let found : ℕ = word_at words g in
    steady z words views id v (told v g found found) b at (told_view z words v g found found (b.each id v at) lt refl) refl refl refl refl

-- a word that a seat may write is one of the goal
final_word : (z : Size) (words : List ℕ) (v : BoardView) (g w : ℕ) → IsViewOf z words v → MayEnd v g w → IsGoalWord z.goals g w
final_word z words v g w m may = ⊎_elim (λ (x : (0 < w) × (w ≤ 4)). inl x.1)
    (λ (x : (c : ℕ) × (w ≡ 5 + c) × (c ≢ g) × (word_at v.finals c ≡ 2)). inr (x.0, x.1, (m.finals x.0 (λ e. let t = x.3 in omega arith)).0, x.2)) may

-- the goal that is to have cancelled another is false
false_goal : (z : Size) (words : List ℕ) (v : BoardView) (g w c : ℕ) → IsViewOf z words v → MayEnd v g w → w ≡ 5 + c → word_at words c ≡ 2
false_goal z words v g w c m may e = ⊎_elim (λ (x : (0 < w) × (w ≤ 4)). absurd (let l = x.1 in omega arith))
    (λ (x : (d : ℕ) × (w ≡ 5 + d) × (d ≢ g) × (word_at v.finals d ≡ 2)).
    let is : x.0 ≡ c = (let y = x.1 in omega arith) in
    subst (λ d. word_at words d ≡ 2) is ((m.finals x.0 (λ e. let t = x.3 in omega arith)).1 ∙ x.3)) may

pub end_keeps : (z : Size) (words : List ℕ) (views : List BoardView) (id g w : ℕ) (v : BoardView) → IsBoard z words views
    → get_elem? views id ≡ some v → g < z.goals → word_at words g ≡ 0 → MayEnd v g w
    → IsBoard z (set words g w) (set views id (told v g 0 w))
end_keeps z words views id g w v b at lt free may =
    let u = told v g 0 w in let m = b.each id v at in let more : List ℕ = set words g w in
    let small : g < length words = (let s = b.size in omega arith) in
    let here : word_at more g ≡ w = get_or-set_same words g w 0 small in
    let other : (k : ℕ) → k ≢ g → word_at more k ≡ word_at words k = (λ k ne. get_or-set_other words g k w 0 ne) in
    let count : word_at more z.goals ≡ word_at words z.goals = other z.goals (λ e. omega arith) in
    let left : left_set z more ≡ left_set z words = other (z.goals + 1) (λ e. omega arith) in
    let final : (k : ℕ) → k < z.goals → word_at words k ≢ 0 → word_at more k ≡ word_at words k =
    (λ k l n. other k (λ e. n (ap (word_at words) e ∙ free))) in
    let not-g : (c : ℕ) → word_at words c ≡ 2 → c ≢ g =
    (λ c two is. let e : word_at words c ≡ word_at words g = ap (word_at words) is in omega arith) in
    let two : (h c : ℕ) → h < z.goals → word_at more h ≡ 5 + c → word_at words c ≡ 2 = (λ h c l e. dite (ℕ_discrete h g)
    (λ (is : h ≡ g). false_goal z words v g w c m may (sym here ∙ ap (word_at more) (sym is) ∙ e))
    (λ ne. b.cancelled h c l (sym (other h ne) ∙ e))) in
    let old-view : IsViewOf z more v = record {
      finals = (λ k n. let f = m.finals k n in (f.0, final k f.0 (λ e. n (sym f.1 ∙ e)) ∙ f.1));
      size = m.size;
      range = m.range;
      claimed = rw count m.claimed;
      left = rw left m.left;
    } in
    renew z words more views id v u b at
    (record {
      size = length-set words g w;
      goals = (λ h l. dite (ℕ_discrete h g)
          (λ (is : h ≡ g). subst (λ x. IsGoalWord z.goals x (word_at more x)) (sym is)
          (subst (IsGoalWord z.goals g) (sym here) (final_word z words v g w m may)))
          (λ ne. subst (IsGoalWord z.goals h) (sym (other h ne)) (b.goals h l)));
      cancelled = (λ h c l e. let t = two h c l e in other c (not-g c t) ∙ t);
      finals = final;
      grows = omega arith;
      stays = (λ k h. ap (λ x. bit_at x k) left ∙ h);
      mine = told_view z more v g 0 w old-view lt here;
      low = refl;
      high = refl;
      claimed = (λ k h. inl h);
      kept = (λ k h. h);
      bits = (λ k h. inl (sym (ap (λ x. bit_at x k) left) ∙ h));
    })
    (let s = same_spent views id v u at refl in let c = b.count in omega arith)
