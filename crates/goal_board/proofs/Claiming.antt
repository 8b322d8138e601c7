-- Steps on the turnstile keep the rule.
use Rattle.std.proofs.Common.{◌≡◌, ◌≢◌, ◌⊎◌, ℕ, zero, suc, ◌+◌, ◌-◌, ◌/◌, ◌%◌, ◌^◌, ◌<◌, ◌≤◌, List, [], ◌∷◌, Bool, true, false, nat_lt, if◌then◌else◌, length, get_or, set, sum_by, inl, inr, ⊎_elim, sym, refl, ap, ◌∙◌, subst, arith, length-set, mod-eq_of_lt}
use Rattle.std.proofs.lemmas.List.{get_or-set_same, get_or-set_other}
use Rattle.std.proofs.lemmas.List.Sums.{sum_by-set, sum_by-cons}
use Rattle.std.proofs.lemmas.Nat.Bits.{bit_at_or, bit_at-pow_same, bit_at-pow_other, bit_at-lt, bit_at-suc, bit_at_lowest}
use Rattle.std.proofs.lemmas.Nat.{ones_le_self}
use Rattle.std.specs.Prelude.{bit_or, count_ones}
use Rattle.std.specs.Int.{bit_at}
use lib.Count.{ones_step}
use mathlib.Core.Option.{some}
use mathlib.Core.Logic.{dite}
use native.Mathlib.Decide.{ℕ_discrete}
use lib.ListN.{get_elem?}
use Rattle.goal_board.specs.declared.view.Size.{Size}
use Rattle.goal_board.specs.declared.view.BoardView.{BoardView}
use Rattle.goal_board.specs.Words.{word_at, Has, IsFirst, rest, IsGoalWord}
use Rattle.goal_board.specs.Views.{stepped, gains, misses, claims, leaves, left_by}
use Rattle.goal_board.specs.Rule.{claim_count, left_set, IsBoard, span, spent}
use Rattle.goal_board.proofs.Renewing.{renew, steady, same_spent, at_get, canceller}

-- the views that were answered none are no more than the seat numbers
by_flag : (b : Bool) (l h : ℕ) → l < h → (if b then 1 else 0) ≤ h - l
by_flag true l h p = omega arith
by_flag false l h p = omega arith

spents : (z : Size) (words : List ℕ) (views : List BoardView) → ((id : ℕ) (v : BoardView) → get_elem? views id ≡ some v → v.low < v.high)
    → sum_by spent views ≤ sum_by span views
spents z words [] h = omega arith
spents z words (v ∷ views) h =
    let a : spent v ≤ span v = by_flag v.none v.low v.high (h 0 v refl) in
    let b = spents z words views (λ id w e. h (suc id) w e) in
    let x = sum_by-cons spent v views in let y = sum_by-cons span v views in omega arith

-- so the count of claims does not wrap
count_small : (z : Size) (words : List ℕ) (views : List BoardView) → IsBoard z words views
    → (claim_count z words + 1) % 2 ^ 64 ≡ claim_count z words + 1
count_small z words views b =
    let few = spents z words views (λ i u e. (b.each i u e).range.0) in
    let seats = b.seats in let count = b.count in let s = b.limits.0 in let w = b.limits.1 in
    let small : claim_count z words + 1 < 2 ^ 64 = omega arith in mod-eq_of_lt small

-- the words of goals are those of before
goals_same : (z : Size) (words more : List ℕ) → ((k : ℕ) → k < z.goals → word_at more k ≡ word_at words k)
    → ((g : ℕ) → g < z.goals → IsGoalWord z.goals g (word_at words g))
    → (g : ℕ) → g < z.goals → IsGoalWord z.goals g (word_at more g)
goals_same z words more same h g l = subst (IsGoalWord z.goals g) (sym (same g l)) (h g l)

cancelled_same : (z : Size) (words more : List ℕ) (views : List BoardView) → IsBoard z words views
    → ((k : ℕ) → k < z.goals → word_at more k ≡ word_at words k)
    → (g c : ℕ) → g < z.goals → word_at more g ≡ 5 + c → word_at more c ≡ 2
cancelled_same z words more views b same g c l e =
    let old : word_at words g ≡ 5 + c = sym (same g l) ∙ e in
    same c (canceller z.goals g c (word_at words g) (b.goals g l) old).0 ∙ b.cancelled g c l old

-- what is left by a view that holds nothing is what it claimed
none_held : (v : BoardView) → v.holds ≡ false → left_by v ≡ v.claimed
none_held v e = rw e refl

-- one claim more, after which the view has gained the session of that number or has missed one
claim_step : (z : Size) (words : List ℕ) (views : List BoardView) (id : ℕ) (v w : BoardView) → IsBoard z words views → get_elem? views id ≡ some v
    → w.low ≡ v.low → w.high ≡ v.high → w.finals ≡ v.finals → (w.goals ≡ v.goals) × (w.sessions ≡ v.sessions)
    → ((k : ℕ) → Has w.claimed k → Has v.claimed k ⊎ ((k ≡ claim_count z words) × (k < v.sessions)))
    → ((k : ℕ) → Has v.claimed k → Has w.claimed k) → left_by w ≡ left_by v
    → claim_count z words + 1 ≤ z.sessions + sum_by spent (set views id w) → IsBoard z (set words z.goals (claim_count z words + 1)) (set views id w)
claim_step z words views id v w b at low high finals sizes claimed kept left count =
    let found : ℕ = claim_count z words in let m = b.each id v at in let more : List ℕ = set words z.goals (found + 1) in
    let small : z.goals < length words = (let s = b.size in omega arith) in
    let here : claim_count z more ≡ found + 1 = get_or-set_same words z.goals (found + 1) 0 small in
    let other : (k : ℕ) → k ≢ z.goals → word_at more k ≡ word_at words k = (λ k ne. get_or-set_other words z.goals k (found + 1) 0 ne) in
    let goal_same : (k : ℕ) → k < z.goals → word_at more k ≡ word_at words k = (λ k l. other k (λ x. omega arith)) in
    let left_same : left_set z more ≡ left_set z words = other (z.goals + 1) (λ x. omega arith) in
    renew z words more views id v w b at
    (record {
      size = length-set words z.goals (found + 1);
      goals = goals_same z words more goal_same b.goals;
      cancelled = cancelled_same z words more views b goal_same;
      finals = (λ g l n. goal_same g l);
      grows = omega arith;
      stays = (λ k h. ap (λ x. bit_at x k) left_same ∙ h);
      mine = record {
        finals = rw finals (λ k n. let f = m.finals k n in (f.0, goal_same k f.0 ∙ f.1));
        size = (sizes.0 ∙ m.size.0, sizes.1 ∙ m.size.1);
        range = rw (low, high) m.range;
        claimed = (λ k h. ⊎_elim (λ (x : Has v.claimed k). let c = m.claimed k x in let p = c.0 in (omega arith, c.1))
            (λ (x : (k ≡ found) × (k < v.sessions)). let e = x.0 in let l = x.1 in let t = m.size.1 in (omega arith, omega arith)) (claimed k h));
        left = rw (left, left_same) m.left;
      };
      low = low;
      high = high;
      claimed = (λ k h. ⊎_elim (λ (x : Has v.claimed k). inl x) (λ (x : (k ≡ found) × (k < v.sessions)). inr x.0) (claimed k h));
      kept = kept;
      bits = (λ k h. inl (sym (ap (λ x. bit_at x k) left_same) ∙ h));
    })
    (rw here count)

claim_case : (z : Size) (words : List ℕ) (views : List BoardView) (id : ℕ) (v : BoardView) → IsBoard z words views
    → get_elem? views id ≡ some v → v.none ≡ false → v.holds ≡ false
    → let found : ℕ = claim_count z words in (b : Bool) → nat_lt found v.sessions ≡ b
    → IsBoard z (set words z.goals (found + 1)) (set views id (if b then gains v z.goals found else misses v z.goals found))
claim_case z words views id v b at unspent free true e =
    let found : ℕ = claim_count z words in let w : BoardView = gains v z.goals found in
    let l : found < v.sessions = grind arith in let t = (b.each id v at).size.1 in
    claim_step z words views id v w b at refl refl refl (refl, refl)
    (λ k h. ⊎_elim (λ (x : found ≡ k). inr (sym x, (omega arith))) (λ (x : Has v.claimed k). inl x) h)
    (λ k h. inr h) (sym (none_held v free)) (omega arith)
claim_case z words views id v b at unspent free false e =
    let found : ℕ = claim_count z words in let w : BoardView = misses v z.goals found in
    let g = at_get views id v v at in
    let s = sum_by-set spent views id w v g.0 in
    let old : spent (get_or views id v) ≡ 0 = ap spent g.1 ∙ rw unspent refl in
    let new : spent w ≡ 1 = refl in
    let count = b.count in
    claim_step z words views id v w b at refl refl refl (refl, refl) (λ k h. inl h) (λ k h. h) refl (omega arith)

-- one fetch_add
pub claim_keeps : (z : Size) (words : List ℕ) (views : List BoardView) (id : ℕ) (v : BoardView) → IsBoard z words views
    → get_elem? views id ≡ some v → v.none ≡ false → v.holds ≡ false
    → IsBoard z (set words z.goals ((claim_count z words + 1) % 2 ^ 64)) (set views id (claims v z.goals (claim_count z words)))
claim_keeps z words views id v b at unspent free =
    rw (count_small z words views b) (claim_case z words views id v b at unspent free (nat_lt (claim_count z words) v.sessions) refl)

-- what a view has claimed is the session that it holds, or was left before
first_or_left : (xs : List ℕ) (k j : ℕ) → IsFirst xs k → Has xs j → (j ≡ k) ⊎ Has (rest xs) j
first_or_left [] k j f h = absurd h
first_or_left (x ∷ xs) k j f h = ⊎_elim (λ (e : x ≡ j). inl (sym e ∙ f)) (λ r. inr r) h

first_has : (xs : List ℕ) (k : ℕ) → IsFirst xs k → Has xs k
first_has [] k f = absurd f
first_has (x ∷ xs) k f = inl f

held : (v : BoardView) → v.holds ≡ true → left_by v ≡ rest v.claimed
held v e = rw e refl

or_here : (n k : ℕ) → bit_at (bit_or n (2 ^ k)) k ≡ 1
or_here n k = let o = bit_at_or n (2 ^ k) k in let p = bit_at-pow_same k in let q = bit_at-lt n k in omega arith

or_stays : (n k j : ℕ) → bit_at n j ≡ 1 → bit_at (bit_or n (2 ^ k)) j ≡ 1
or_stays n k j e = let o = bit_at_or n (2 ^ k) j in let q = bit_at-lt (2 ^ k) j in omega arith

or_other : (n k j : ℕ) → j ≢ k → bit_at (bit_or n (2 ^ k)) j ≡ 1 → bit_at n j ≡ 1
or_other n k j ne e = let o = bit_at_or n (2 ^ k) j in let p = bit_at-pow_other k j ne in let q = bit_at-lt n j in omega arith

-- one fetch_or, of the session that the view claimed last
pub leave_keeps : (z : Size) (words : List ℕ) (views : List BoardView) (id k : ℕ) (v : BoardView) → IsBoard z words views
    → get_elem? views id ≡ some v → v.holds ≡ true → IsFirst v.claimed k
    → IsBoard z (set words (z.goals + 1) (bit_or (left_set z words) (2 ^ k))) (set views id (leaves v (z.goals + 1) (left_set z words)))
leave_keeps z words views id k v b at holds first =
    let n : ℕ = left_set z words in let m = b.each id v at in let new : ℕ = bit_or n (2 ^ k) in let more : List ℕ = set words (z.goals + 1) new in
    let w : BoardView = leaves v (z.goals + 1) n in
    let small : z.goals + 1 < length words = (let s = b.size in omega arith) in
    let here : left_set z more ≡ new = get_or-set_same words (z.goals + 1) new 0 small in
    let other : (j : ℕ) → j ≢ z.goals + 1 → word_at more j ≡ word_at words j = (λ j ne. get_or-set_other words (z.goals + 1) j new 0 ne) in
    let goal_same : (j : ℕ) → j < z.goals → word_at more j ≡ word_at words j = (λ j l. other j (λ x. omega arith)) in
    let count : claim_count z more ≡ claim_count z words = other z.goals (λ e. omega arith) in
    let stays : (j : ℕ) → bit_at n j ≡ 1 → bit_at (left_set z more) j ≡ 1 = (λ j h. ap (λ x. bit_at x j) here ∙ or_stays n k j h) in
    renew z words more views id v w b at
    (record {
      size = length-set words (z.goals + 1) new;
      goals = goals_same z words more goal_same b.goals;
      cancelled = cancelled_same z words more views b goal_same;
      finals = (λ j l h. goal_same j l);
      grows = omega arith;
      stays = stays;
      mine = record {
        finals = (λ j h. let f = m.finals j h in (f.0, goal_same j f.0 ∙ f.1));
        size = m.size;
        range = m.range;
        claimed = rw count m.claimed;
        left = (λ j h. ⊎_elim
            (λ (e : j ≡ k). ap (λ x. bit_at x j) here ∙ subst (λ x. bit_at new x ≡ 1) (sym e) (or_here n k))
            (λ (r : Has (rest v.claimed) j). stays j (m.left j (subst (λ xs. Has xs j) (sym (held v holds)) r)))
            (first_or_left v.claimed k j first h));
      };
      low = refl;
      high = refl;
      claimed = (λ j h. inl h);
      kept = (λ j h. h);
      bits = (λ j h. dite (ℕ_discrete j k) (λ (e : j ≡ k). inr (subst (Has v.claimed) (sym e) (first_has v.claimed k first)))
          (λ ne. inl (or_other n k j ne (sym (ap (λ x. bit_at x j) here) ∙ h))));
    })
    (let s = same_spent views id v w at refl in let c = b.count in omega arith)

-- a load of the set of the sessions left
pub count_keeps : (z : Size) (words : List ℕ) (views : List BoardView) (id : ℕ) (v : BoardView) → IsBoard z words views → get_elem? views id ≡ some v
    → IsBoard z words (set views id (stepped v (z.goals + 1) (left_set z words)))
count_keeps z words views id v b at =
    let m = b.each id v at in
    steady z words views id v (stepped v (z.goals + 1) (left_set z words)) b at
    (record { finals = m.finals; size = m.size; range = m.range; claimed = m.claimed; left = m.left }) refl refl refl refl

-- a number whose bits are all below s has at most s of them
few : (d n s : ℕ) → n ≤ d → ((k : ℕ) → bit_at n k ≡ 1 → k < s) → count_ones n ≤ s
few zero n s h b = let o = ones_le_self n in omega arith
few (suc d) n zero h b =
    let o = ones_step n in let low = bit_at_lowest n in let l = bit_at-lt n 0 in
    let even : n % 2 ≢ 1 = (λ e. let x = b 0 (low ∙ e) in omega arith) in
    let r = few d (n / 2) zero (omega arith) (λ k e. let x = b (suc k) (bit_at-suc n k ∙ e) in omega arith) in omega arith
few (suc d) n (suc s) h b =
    let o = ones_step n in let low = bit_at_lowest n in let l = bit_at-lt n 0 in
    let r = few d (n / 2) s (omega arith) (λ k e. let x = b (suc k) (bit_at-suc n k ∙ e) in omega arith) in omega arith

-- no more sessions were left than there are
pub few_left : (z : Size) (words : List ℕ) (views : List BoardView) → IsBoard z words views → count_ones (left_set z words) ≤ z.sessions
few_left z words views b =
    few (left_set z words) (left_set z words) z.sessions (omega arith) (λ k e. let l = b.left k e in ((b.each l.0 l.1 l.2).claimed k l.3).1)
