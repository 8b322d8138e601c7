-- A claim that is allowed keeps the words sound.
use Rattle.std.proofs.Common.{◌≡◌, ◌≢◌, ◌⊎◌, ℕ, zero, suc, ◌+◌, ◌-◌, ◌<◌, ◌≤◌, max, List, [], ◌∷◌, length, set, inl, inr, ⊎_elim, sym, refl, ap, ap₂, ◌∙◌, subst, arith, length-set, lt_of_not-le, mod-lt, nat_lt, true, false}
use Rattle.std.proofs.lemmas.List.{get_or-set_same, get_or-set_other}
use Rattle.std.proofs.lemmas.Grind.{common_steps}
use mathlib.Core.Logic.{dite}
use native.Mathlib.Decide.{dec_le, ℕ_discrete}
use Rattle.gate_shape.specs.Literal.{Literal}
use Rattle.gate_shape.specs.Word.{key_of, key_less}
use Rattle.gate_probe.specs.Words.{level_of, left_of, right_of, word_at, level_at}
use Rattle.gate_probe.specs.Sound.{home, probe_of, IsFanin, IsGate, IsReached, IsSoundAt, IsSound, IsWithin, MayClaim}
use Rattle.gate_probe.specs.Views.{put, learnt, union}
use Rattle.gate_probe.proofs.Parts.{word_parts}

-- a word put into an empty place hides nothing
pub set_within : (words : List ℕ) (s w : ℕ) → word_at words s ≡ 0 → IsWithin words (set words s w)
set_within words s w none t h = get_or-set_other words s t w 0 (λ e. h (ap (word_at words) e ∙ none))

-- words that hold more keep each view
pub within_more : (old new more : List ℕ) → IsWithin old new → IsWithin new more → IsWithin old more
within_more old new more a b s h = let e = a s h in b s (λ z. h (sym e ∙ z)) ∙ e

-- a fanin that was seen is there, at its level
pub fanin_more : (seen words : List ℕ) (l : Literal) → IsWithin seen words → IsFanin seen l → IsFanin words l
fanin_more seen words l w f = (f.0, ⊎_elim (λ (x : l.node < 8193). inl x) (λ (x : (8193 ≤ l.node) × (word_at seen (l.node - 8193) ≢ 0)). inr (x.0, rw (w _ x.1) x.1)) f.1)

pub level_here : (words : List ℕ) (n : ℕ) → 8193 ≤ n → level_at words n ≡ level_of (word_at words (n - 8193))
level_here words n h = let e : nat_lt n 8193 ≡ false = grind (arith, common_steps) in rw e refl

pub level_leaf : (words : List ℕ) (n : ℕ) → n < 8193 → level_at words n ≡ 0
level_leaf words n h = let e : nat_lt n 8193 ≡ true = grind (arith, common_steps) in rw e refl

pub level_same : (seen words : List ℕ) (l : Literal) → IsWithin seen words → IsFanin seen l → level_at words l.node ≡ level_at seen l.node
level_same seen words l w f =
    ⊎_elim (λ (x : l.node < 8193). level_leaf words l.node x ∙ sym (level_leaf seen l.node x))
    (λ (x : (8193 ≤ l.node) × (word_at seen (l.node - 8193) ≢ 0)). level_here words l.node x.0 ∙ ap level_of (w _ x.1) ∙ sym (level_here seen l.node x.0)) f.1

pub gate_more : (seen words : List ℕ) (word : ℕ) → IsWithin seen words → IsGate seen word → IsGate words word
gate_more seen words word w g =
    let l = level_same seen words (left_of word) w g.left in
    let r = level_same seen words (right_of word) w g.right in
    record {
      left = fanin_more seen words (left_of word) w g.left;
      right = fanin_more seen words (right_of word) w g.right;
      level = g.level ∙ sym (ap₂ (λ x y. 1 + max x y) l r);
      apart = g.apart;
      ordered = ap₂ (λ x y. key_less (key_of (right_of word) x) (key_of (left_of word) y)) r l ∙ g.ordered;
    }

pub reached_more : (words more : List ℕ) (word s : ℕ) → length more ≡ length words → IsWithin words more → IsReached words word s → IsReached more word s
reached_more words more word s e w r = rw e (r.0, r.1, r.2, λ k h. rw (w _ (r.3 k h)) (r.3 k h))

-- where a claim is allowed and finds nothing, no place has the pair
pub unclaimed : (words seen : List ℕ) (word s t : ℕ) → IsSound words → IsWithin seen words → MayClaim (length words) seen word s → word_at words s ≡ 0
    → word_at words t ≢ 0 → left_of (word_at words t) ≡ left_of word → right_of (word_at words t) ≡ right_of word → ⊥
unclaimed words seen word s t sound w may none there l r =
    let at : IsSoundAt words t = sound t there in
    let g : IsGate words word = gate_more seen words word w may.gate in
    let levels : 1 + max (level_at words (left_of (word_at words t)).node) (level_at words (right_of (word_at words t)).node) ≡ 1 + max (level_at words (left_of word).node) (level_at words (right_of word).node) = ap₂ (λ (x y : Literal). 1 + max (level_at words x.node) (level_at words y.node)) l r in
    let same : word_at words t ≡ word = word_parts _ _ (at.gate.level ∙ levels ∙ sym g.level) l r in
    let from : ℕ = home (length words) (left_of word) (right_of word) in
    let e : ℕ = at.reached.0 in
    let e-at : probe_of (length words) word e ≡ t = ap (λ v. probe_of (length words) v e) (sym same) ∙ at.reached.2 in
    let e-before : (k : ℕ) → k < e → word_at words (probe_of (length words) word k) ≢ 0 = (λ k z q. at.reached.3 k z (ap (λ v. word_at words (probe_of (length words) v k)) same ∙ q)) in
    dite (dec_le may.distance e)
    (λ (le : may.distance ≤ e). dite (ℕ_discrete may.distance e)
    (λ (is : may.distance ≡ e). there (ap (word_at words) (sym e-at ∙ ap (probe_of (length words) word) (sym is) ∙ may.place) ∙ none))
    (λ ne. e-before may.distance (omega arith) (ap (word_at words) may.place ∙ none)))
    (λ nle. let o = may.others e (lt_of_not-le nle) in o.1 (sym (w _ o.0) ∙ ap (word_at words) e-at ∙ same))

-- the claimed place is in the table
pub claim_place : (n : ℕ) (seen : List ℕ) (word s : ℕ) → MayClaim n seen word s → s < n
claim_place n seen word s may = let h : 0 < n = (let p = may.within in omega arith) in rw (sym may.place) (mod-lt _ h)

-- a claim that is allowed and won keeps the words sound
pub claim_sound : (words seen : List ℕ) (word s : ℕ) → IsSound words → IsWithin seen words → MayClaim (length words) seen word s → word_at words s ≡ 0 → IsSound (set words s word)
claim_sound words seen word s sound w may none t there =
    let after : List ℕ = set words s word in
    let more : IsWithin words after = set_within words s word none in
    let here : word_at after s ≡ word = get_or-set_same words s word 0 (claim_place _ seen word s may) in
    let g : IsGate after word = gate_more words after word more (gate_more seen words word w may.gate) in
    let free : (u : ℕ) → word_at words u ≢ 0 → left_of (word_at words u) ≡ left_of word → right_of (word_at words u) ≡ right_of word → ⊥ =
    (λ u. unclaimed words seen word s u sound w may none) in
    let else_same : (u : ℕ) → u ≢ s → word_at after u ≡ word_at words u = (λ u ne. get_or-set_other words s u word 0 ne) in
    dite (ℕ_discrete t s)
    (λ (is : t ≡ s).
    subst (λ (v : ℕ). IsSoundAt after v) (sym is) (record {
      gate = rw here g;
      alone = (λ u there' l r. dite (ℕ_discrete u s) (λ e. e)
          (λ ne. absurd (free u (rw (sym (else_same u ne)) there') (rw (sym (else_same u ne)) (l ∙ ap left_of here)) (rw (sym (else_same u ne)) (r ∙ ap right_of here)))));
      reached = rw (here, length-set words s word)
          (may.distance, may.within, may.place, λ k h. let o = may.others k h in let o' : word_at words (probe_of (length words) word k) ≢ 0 = rw (w _ o.0) o.0 in rw (more _ o') o');
    }))
    (λ ne.
    let e : word_at after t ≡ word_at words t = else_same t ne in
    let was : IsSoundAt words t = sound t (rw (sym e) there) in
    record {
      gate = rw e (gate_more words after (word_at words t) more was.gate);
      alone = (λ u there' l r. dite (ℕ_discrete u s)
          (λ is. absurd (free t (rw (sym e) there) (sym (l ∙ ap left_of e) ∙ ap left_of (ap (word_at after) is ∙ here)) (sym (r ∙ ap right_of e) ∙ ap right_of (ap (word_at after) is ∙ here))))
          (λ ne'. let f = else_same u ne' in was.alone u (rw (sym f) there') (sym (ap left_of f) ∙ l ∙ ap left_of e) (sym (ap right_of f) ∙ r ∙ ap right_of e)));
      reached = rw e (reached_more words after (word_at words t) t (length-set words s word) more was.reached);
    })

-- what was learnt is there
pub put_at : (seen : List ℕ) (s w t : ℕ) → word_at (put seen s w) t ≢ 0 → ((t ≡ s) × (word_at (put seen s w) t ≡ w)) ⊎ (word_at (put seen s w) t ≡ word_at seen t)
put_at [] zero w zero h = inl (refl, refl)
put_at [] zero w (suc t) h = inr refl
put_at [] (suc s) w zero h = inr refl
put_at [] (suc s) w (suc t) h = ⊎_elim (λ x. inl (ap suc x.0, x.1)) (λ e. inr e) (put_at [] s w t h)
put_at (x ∷ xs) zero w zero h = inl (refl, refl)
put_at (x ∷ xs) zero w (suc t) h = inr refl
put_at (x ∷ xs) (suc s) w zero h = inr refl
put_at (x ∷ xs) (suc s) w (suc t) h = ⊎_elim (λ y. inl (ap suc y.0, y.1)) (λ e. inr e) (put_at xs s w t h)

pub put_here : (seen : List ℕ) (s w : ℕ) → word_at (put seen s w) s ≡ w
put_here [] zero w = refl
put_here [] (suc s) w = put_here [] s w
put_here (x ∷ xs) zero w = refl
put_here (x ∷ xs) (suc s) w = put_here xs s w

pub put_else : (seen : List ℕ) (s w t : ℕ) → t ≢ s → word_at (put seen s w) t ≡ word_at seen t
put_else [] zero w zero n = absurd (n refl)
put_else [] zero w (suc t) n = refl
put_else [] (suc s) w zero n = refl
put_else [] (suc s) w (suc t) n = put_else [] s w t (λ e. n (ap suc e))
put_else (x ∷ xs) zero w zero n = absurd (n refl)
put_else (x ∷ xs) zero w (suc t) n = refl
put_else (x ∷ xs) (suc s) w zero n = refl
put_else (x ∷ xs) (suc s) w (suc t) n = put_else xs s w t (λ e. n (ap suc e))

pub learnt_within : (words seen : List ℕ) (s w : ℕ) → IsWithin seen words → w ≡ word_at words s → IsWithin (learnt seen s w) words
learnt_within words seen s zero i e = i
learnt_within words seen s (suc w) i e = λ t h. ⊎_elim (λ x. ap (word_at words) x.0 ∙ sym e ∙ sym x.1) (λ x. i t (λ z. h (x ∙ z)) ∙ sym x) (put_at seen s (suc w) t h)

-- each place of a union is as in one of the two
pub union_at : (xs ys : List ℕ) (t : ℕ) → (word_at (union xs ys) t ≡ word_at xs t) ⊎ (word_at (union xs ys) t ≡ word_at ys t)
union_at [] ys t = inr refl
union_at (x ∷ xs) [] t = inl refl
union_at (zero ∷ xs) (y ∷ ys) zero = inr refl
union_at (suc x ∷ xs) (y ∷ ys) zero = inl refl
union_at (x ∷ xs) (y ∷ ys) (suc t) = union_at xs ys t

-- a union has each place that one of the two has
pub union_has : (xs ys : List ℕ) (t : ℕ) → (word_at xs t ≢ 0) ⊎ (word_at ys t ≢ 0) → word_at (union xs ys) t ≢ 0
union_has [] ys t h = ⊎_elim (λ n. absurd (n refl)) (λ n. n) h
union_has (x ∷ xs) [] t h = ⊎_elim (λ n. n) (λ n. absurd (n refl)) h
union_has (zero ∷ xs) (y ∷ ys) zero h = ⊎_elim (λ n. absurd (n refl)) (λ n. n) h
union_has (suc x ∷ xs) (y ∷ ys) zero h = λ e. omega arith
union_has (x ∷ xs) (y ∷ ys) (suc t) h = union_has xs ys t h

pub union_within : (xs ys words : List ℕ) → IsWithin xs words → IsWithin ys words → IsWithin (union xs ys) words
union_within xs ys words p q t h = ⊎_elim (λ e. p t (λ z. h (e ∙ z)) ∙ sym e) (λ e. q t (λ z. h (e ∙ z)) ∙ sym e) (union_at xs ys t)

pub union_keeps : (xs ys words : List ℕ) → IsWithin xs words → IsWithin ys words → IsWithin xs (union xs ys) × IsWithin ys (union xs ys)
union_keeps xs ys words p q = (
  (λ t h. let u = union_has xs ys t (inl h) in sym (union_within xs ys words p q t u) ∙ p t h),
  (λ t h. let u = union_has xs ys t (inr h) in sym (union_within xs ys words p q t u) ∙ q t h),
)
