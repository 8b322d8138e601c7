-- What each step owes to the table, and that final words stay in a view.
use Rattle.std.proofs.Common.{◌≡◌, ◌≢◌, ◌⊎◌, ℕ, zero, suc, ◌+◌, ◌%◌, ◌^◌, ◌<◌, [], true, false, ◌==◌, get_or, List, inl, inr, ⊎_elim, sym, refl, ap, ◌∙◌, arith}
use Rattle.std.proofs.lemmas.List.{set-get_or}
use Rattle.std.specs.Prelude.{bit_or}
use mathlib.Core.Option.{some, none}
use mathlib.Core.Logic.{dite}
use native.Mathlib.Decide.{ℕ_discrete}
use lib.ListN.{get_elem?}
use Rattle.atomic_table.proofs.Lists.{exchanged}
use Rattle.atomic_table.specs.Table.{step, Act, keeps, Valid, carried_after, stepped as table_after, Allows}
use prog.Atomic.{either}
use Rattle.goal_board.specs.declared.view.Size.{Size}
use Rattle.goal_board.specs.declared.view.BoardView.{BoardView}
use Rattle.goal_board.specs.Words.{word_at, IsFirst, put, learnt, left_there}
use Rattle.goal_board.specs.Views.{stepped, told, claims, leaves, Stays}
use Rattle.goal_board.specs.Rule.{IsBoard, MayEnd}
use Rattle.goal_board.specs.Plays.{IsTable, Finds, Tells, Looks, Ends, Claims, Leaves, Counts}
use Rattle.goal_board.proofs.Ending.{put_here, put_else, look_keeps, end_keeps}
use Rattle.goal_board.proofs.Claiming.{claim_keeps, leave_keeps, count_keeps, few_left}

left_some : (found wanted : ℕ) → found ≢ 0 → left_there found wanted ≡ found
left_some zero wanted h = absurd (h refl)
left_some (suc found) wanted h = refl

pub left_is : (found wanted : ℕ) → (left_there found wanted ≡ found) ⊎ (found ≡ 0)
left_is zero wanted = inr refl
left_is (suc found) wanted = inl refl

-- the word of a goal is what a step finds there
finds : (z : Size) (words : List ℕ) (views : List BoardView) (id g : ℕ) (v : BoardView) → IsBoard z words views
    → get_elem? views id ≡ some v → g < z.goals → Finds v g (word_at words g)
finds z words views id g v b at lt = let m = b.each id v at in ((λ h. (m.finals g h).1), rw m.size.0 (b.goals g lt))

pub look_allowed : (z : Size) (slots id g : ℕ) (v : BoardView) → g < z.goals
    → Allows (IsTable z) slots id (v, []) g (λ k. k) (Looks (step slots g 0 0 none) (v, []))
look_allowed z slots id g v lt s b homes at fits =
    let found : ℕ = get_or s.words g 0 in
    let kept = look_keeps z s.words s.views id g v b at lt in
    (told v g found found, keeps, tt, rw (set-get_or s.words g 0) kept, ((refl, finds z s.words s.views id g v b at lt), refl))

pub end_allowed : (z : Size) (slots id g w : ℕ) (v : BoardView) → g < z.goals → MayEnd v g w
    → Allows (IsTable z) slots id (v, []) g (λ k. either (k == 0) w k) (Ends (step slots g 0 w none) (v, []))
end_allowed z slots id g w v lt may s b homes at fits =
    let found : ℕ = get_or s.words g 0 in
    let there = finds z s.words s.views id g v b at lt in
    let P : ℕ → Type 0 = λ (new : ℕ). (u : BoardView) × (a : Act (Unit {0})) × Valid s.homes [] a × IsTable z (table_after s g new id [] u a)
    × Ends (step slots g 0 w none) (v, []) found (u, carried_after [] a) in
    exchanged found 0 w P
    (λ (free : found ≡ 0). (
      told v g 0 w,
      keeps,
      tt,
      end_keeps z s.words s.views id g w v b at lt free may,
      rw free ((refl, ((λ h. sym free ∙ there.0 h), inl (omega arith))), refl),
    ))
    (λ taken. (
      told v g found found,
      keeps,
      tt,
      rw (set-get_or s.words g 0) (look_keeps z s.words s.views id g v b at lt),
      rw (left_some found w taken) ((refl, there), refl),
    ))

pub claim_allowed : (z : Size) (slots id : ℕ) (v : BoardView) → v.none ≡ false → v.holds ≡ false
    → Allows (IsTable z) slots id (v, []) z.goals (λ n. (n + 1) % 2 ^ 64) (Claims (step slots z.goals 1 0 none) (v, []))
claim_allowed z slots id v unspent free s b homes at fits =
    (claims v z.goals (get_or s.words z.goals 0), keeps, tt, claim_keeps z s.words s.views id v b at unspent free, refl)

pub leave_allowed : (z : Size) (slots id k : ℕ) (v : BoardView) → v.holds ≡ true → IsFirst v.claimed k
    → Allows (IsTable z) slots id (v, []) (z.goals + 1) (λ n. bit_or n (2 ^ k)) (Leaves (step slots (z.goals + 1) (2 ^ k) 0 none) (v, []))
leave_allowed z slots id k v holds first s b homes at fits =
    (leaves v (z.goals + 1) (get_or s.words (z.goals + 1) 0), keeps, tt, leave_keeps z s.words s.views id k v b at holds first, refl)

pub count_allowed : (z : Size) (slots id : ℕ) (v : BoardView)
    → Allows (IsTable z) slots id (v, []) (z.goals + 1) (λ k. k) (Counts (step slots (z.goals + 1) 0 0 none) (v, []))
count_allowed z slots id v s b homes at fits =
    let found : ℕ = get_or s.words (z.goals + 1) 0 in let m = b.each id v at in (
      stepped v (z.goals + 1) found,
      keeps,
      tt,
      rw (set-get_or s.words (z.goals + 1) 0) (count_keeps z s.words s.views id v b at),
      (refl, rw m.size.1 (few_left z s.words s.views b), m.left),
    )

-- a final word stays in a view
pub stays : (v w : BoardView) (g found there : ℕ) → there ≡ found ⊎ (found ≡ 0) → Tells v g found there w → Stays v w
stays v w g found there how t k h = ap (λ x. word_at x.finals k) t.0 ∙ after there how
  where
    after : (u : ℕ) → u ≡ found ⊎ (found ≡ 0) → word_at (learnt v.finals g u) k ≡ word_at v.finals k
    after zero p = refl
    after (suc u) p = dite (ℕ_discrete k g)
        (λ (e : k ≡ g). let seen : found ≡ word_at v.finals g = t.1.0 (λ z. h (ap (word_at v.finals) e ∙ z)) in
        ap (word_at (put v.finals g (suc u))) e ∙ put_here v.finals g (suc u)
        ∙ ⊎_elim (λ q. q ∙ seen ∙ ap (word_at v.finals) (sym e)) (λ q. absurd (h (ap (word_at v.finals) e ∙ sym seen ∙ q))) p)
        (λ ne. put_else v.finals g (suc u) k ne)
