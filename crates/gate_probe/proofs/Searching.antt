-- A search goes on.
use Rattle.std.proofs.Common.{◌≡◌, ◌≢◌, ℕ, zero, suc, ◌+◌, ◌-◌, ◌<◌, List, Bool, true, false, ◌||◌, ◌==◌, sym, refl, ap, ap₂, ◌∙◌, subst, arith, if◌then◌else◌}
use Rattle.std.proofs.Math.Nat.{add-mod_right, mod-eq_of_lt}
use mathlib.Core.Logic.{dite}
use native.Mathlib.Decide.{dec_le, ℕ_discrete}
use Rattle.gate_shape.specs.Literal.{Literal}
use Rattle.gate_shape.specs.Word.{gate_word}
use Rattle.gate_probe.specs.declared.prober.Move.TheVariants.{Load, Claim, Found, Full}
use Rattle.gate_probe.specs.Words.{word_at, left_of, right_of}
use Rattle.gate_probe.specs.Sound.{home, probed, IsGate, IsWithin, MayClaim}
use Rattle.gate_probe.specs.Views.{put, learnt}
use Rattle.gate_probe.specs.Moves.{Probe, place_of, move_after, probe_after, IsMove}
use Rattle.gate_probe.specs.Searching.{IsTold, IsSearching}
use Rattle.gate_probe.proofs.Parts.{left_packed, right_packed}
use Rattle.gate_probe.proofs.Keeping.{put_here, put_else}

-- what is learnt hides nothing, where a seen place holds its word
pub learnt_keeps : (seen : List ℕ) (s w : ℕ) → (word_at seen s ≢ 0 → w ≡ word_at seen s) → IsWithin seen (learnt seen s w)
learnt_keeps seen s zero h t there = refl
learnt_keeps seen s (suc w) h t there = dite (ℕ_discrete t s)
    (λ (is : t ≡ s). ap (word_at (put seen s (suc w))) is ∙ put_here seen s (suc w) ∙ h (λ z. there (ap (word_at seen) is ∙ z)) ∙ ap (word_at seen) (sym is))
    (λ ne. put_else seen s (suc w) t ne)

pub learnt_here : (seen : List ℕ) (s w : ℕ) → w ≢ 0 → word_at (learnt seen s w) s ≡ w
learnt_here seen s zero h = absurd (h refl)
learnt_here seen s (suc w) h = put_here seen s (suc w)

others_cases : (seen : List ℕ) (p : Probe) (w : ℕ) (b c : Bool) → (w == p.word) ≡ b → (w == 0) ≡ c
    → ((k : ℕ) → k < p.passed → (word_at (learnt seen (place_of p) w) (probed p.places p.from k) ≢ 0) × (word_at (learnt seen (place_of p) w) (probed p.places p.from k) ≢ p.word))
    → (k : ℕ) → k < (if b || c then p.passed else p.passed + 1)
    → (word_at (learnt seen (place_of p) w) (probed p.places p.from k) ≢ 0) × (word_at (learnt seen (place_of p) w) (probed p.places p.from k) ≢ p.word)
others_cases seen p w true c e f h k l = h k l
others_cases seen p w false true e f h k l = h k l
others_cases seen p w false false e f h k l =
    dite (ℕ_discrete k p.passed)
    (λ (is : k ≡ p.passed).
    let w-not : w ≢ 0 = grind arith in let w-other : w ≢ p.word = grind arith in
    let at : word_at (learnt seen (place_of p) w) (probed p.places p.from k) ≡ w = rw is (learnt_here seen (place_of p) w w-not) in
    ((λ z. w-not (sym at ∙ z)), (λ z. w-other (sym at ∙ z))))
    (λ ne. h k (omega arith))

told_cases : (seen : List ℕ) (p : Probe) (w : ℕ) (b c d : Bool) → (w == p.word) ≡ b → p.word ≢ 0
    → IsTold (learnt seen (place_of p) w) p.word
    (if b then Found (8193 + place_of p) else if c then Claim (place_of p) p.word else if d then Full else Load (probed p.places p.from (p.passed + 1)))
told_cases seen p w true c d e n =
    let is : w ≡ p.word = grind arith in let at : ℕ = place_of p in let x : 8193 + at - 8193 ≡ at = omega arith in
    rw x (learnt_here seen at w (λ z. n (sym is ∙ z)) ∙ is)
told_cases seen p w false true d e n = tt
told_cases seen p w false false true e n = tt
told_cases seen p w false false false e n = tt

-- after a word was seen
pub searching_after : (seen : List ℕ) (p : Probe) (w : ℕ) → IsSearching seen p → p.word ≢ 0 → (word_at seen (place_of p) ≢ 0 → w ≡ word_at seen (place_of p))
    → IsMove (probe_after p w) (move_after p w) → IsSearching (learnt seen (place_of p) w) (probe_after p w)
searching_after seen p w h word kept move =
    let in' : IsWithin seen (learnt seen (place_of p) w) = learnt_keeps seen (place_of p) w kept in
    record {
      others = others_cases seen p w (w == p.word) (w == 0) refl refl (λ k l. let o = h.others k l in let e = in' _ o.0 in ((λ z. o.0 (sym e ∙ z)), (λ z. o.1 (sym e ∙ z))));
      told = told_cases seen p w (w == p.word) (w == 0) (p.passed + 1 == p.places) refl word;
      move = move;
    }

-- a claim in a search is allowed
pub search_claims : (seen : List ℕ) (n level : ℕ) (left right : Literal) (p : Probe) (s w : ℕ) → IsSearching seen p → p.places ≡ n → p.from ≡ home n left right → p.word ≡ gate_word level left right
    → left.node < 4194304 → right.node < 4194304 → IsGate seen (gate_word level left right) → p.last ≡ Claim s w → MayClaim n seen w s
search_claims seen n lev left right p s w h places from word l r g last =
    let m : IsMove p (Claim s w) = subst (IsMove p) last h.move in
    let e : w ≡ gate_word lev left right = m.2 ∙ word in
    let hm : home n (left_of w) (right_of w) ≡ p.from = ap₂ (home n) (ap left_of e ∙ left_packed lev left right l r) (ap right_of e ∙ right_packed lev left right l r) ∙ sym from in
    let at : (d : ℕ) → probed n (home n (left_of w) (right_of w)) d ≡ probed p.places p.from d = (λ d. ap₂ (λ x y. probed x y d) (sym places) hm) in
    record {
      gate = subst (IsGate seen) (sym e) g;
      distance = p.passed;
      within = subst (λ x. p.passed < x) places m.0;
      place = at p.passed ∙ sym m.1;
      others = λ k z. let o = h.others k z in ((λ q. o.0 (sym (ap (word_at seen) (at k)) ∙ q)), (λ q. o.1 (sym (ap (word_at seen) (at k)) ∙ q ∙ m.2)));
    }

-- where each place of a search was seen, each place was
pub reaches : (n from s : ℕ) → s < n → from < n → (k : ℕ) × (k < n) × (probed n from k ≡ s)
reaches n from s a b = dite (dec_le from s)
    (λ le. (s - from, omega arith, (let e : from + (s - from) ≡ s = omega arith in rw e (mod-eq_of_lt a))))
    (λ nle. (n - from + s, omega arith, (let e : from + (n - from + s) ≡ s + n = omega arith in rw e (add-mod_right s n ∙ mod-eq_of_lt a))))

move_cases : (p : Probe) (w : ℕ) (b c d : Bool) → (p.passed + 1 == p.places) ≡ d → p.passed < p.places
    → IsMove (record { places = p.places; word = p.word; from = p.from; passed = if b || c then p.passed else p.passed + 1; last = Full })
    (if b then Found (8193 + place_of p) else if c then Claim (place_of p) p.word else if d then Full else Load (probed p.places p.from (p.passed + 1)))
move_cases p w true c d e h = (h, refl)
move_cases p w false true d e h = (h, refl, refl)
move_cases p w false false true e h = grind arith
move_cases p w false false false e h = let n : p.passed + 1 ≢ p.places = grind arith in (omega arith, refl)

pub move_ok : (p : Probe) (w : ℕ) → p.passed < p.places → IsMove (probe_after p w) (move_after p w)
move_ok p w h = move_cases p w (w == p.word) (w == 0) (p.passed + 1 == p.places) refl h

-- a turn of the search, at the place of a load or a claim
pub turned : (seen : List ℕ) (p q : Probe) (s w : ℕ) (after : List ℕ) → IsSearching seen p → p.word ≢ 0 → p.passed < p.places → s ≡ place_of p → (word_at seen s ≢ 0 → w ≡ word_at seen s)
    → after ≡ learnt seen s w → q ≡ probe_after p w → IsSearching after q
turned seen p q s w after h word in' at kept is-after is = rw (is-after, is, at) (searching_after seen p w h word (subst (λ x. word_at seen x ≢ 0 → w ≡ word_at seen x) at kept) (move_ok p w in'))
