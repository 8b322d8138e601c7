-- Which way a comment goes on.
use Rattle.std.proofs.Common.{◌≡◌, ℕ, zero, suc, ◌+◌, ◌-◌, ◌<◌, ◌≤◌, List, [], ◌∷◌, length, refl, sym, subst, arith, add-one}
use Rattle.std.proofs.lemmas.Option.{slice_get_within}
use Rattle.bv_lex.specs.Words.{Stands}
use Rattle.bv_lex.specs.Pieces.{Closes, closed, opens, closes, other}

not_both : (cs : List ℕ) (i : ℕ) → Stands cs i (47 ∷ 45 ∷ []) → Stands cs i (45 ∷ 47 ∷ []) → ⊥
not_both cs i a b = let e = a.0 in let f = b.0 in cc

pub on_open : {cs : List ℕ} {d i j : ℕ} → Stands cs i (47 ∷ 45 ∷ []) → 0 < d → Closes cs d i j → Closes cs (d + 1) (i + 2) j
on_open s h closed = absurd (omega arith)
on_open {cs} {i = i} {j = j} s h (opens {d} e r) = subst (λ k. Closes cs k (i + 2) j) (sym (add-one (suc d))) r
on_open {cs} {i = i} s h (closes e r) = absurd (not_both cs i s e)
on_open s h (other w no_open no_close r) = absurd (no_open s)

pub from_open : {cs : List ℕ} {d i j : ℕ} → Stands cs i (47 ∷ 45 ∷ []) → 0 < d → Closes cs (d + 1) (i + 2) j → Closes cs d i j
from_open {d = zero} s h r = absurd (omega arith)
from_open {cs} {d = suc d} {i} {j} s h r = opens s (subst (λ k. Closes cs k (i + 2) j) (add-one (suc d)) r)

pub on_close : {cs : List ℕ} {d i j : ℕ} → Stands cs i (45 ∷ 47 ∷ []) → Closes cs (suc d) i j → Closes cs d (i + 2) j
on_close {cs} {i = i} s (opens e r) = absurd (not_both cs i e s)
on_close s (closes e r) = r
on_close s (other w no_open no_close r) = absurd (no_close s)

pub on_other : {cs : List ℕ} {d i j : ℕ} → (Stands cs i (47 ∷ 45 ∷ []) → ⊥) → (Stands cs i (45 ∷ 47 ∷ []) → ⊥) → 0 < d → Closes cs d i j → Closes cs d (i + 1) j
on_other a b h closed = absurd (omega arith)
on_other a b h (opens e r) = absurd (a e)
on_other a b h (closes e r) = absurd (b e)
on_other a b h (other w no_open no_close r) = r

pub from_other : {cs : List ℕ} {d i j : ℕ} → i < length cs → (Stands cs i (47 ∷ 45 ∷ []) → ⊥) → (Stands cs i (45 ∷ 47 ∷ []) → ⊥) → 0 < d → Closes cs d (i + 1) j → Closes cs d i j
from_other {d = zero} w a b h r = absurd (omega arith)
from_other {d = suc d} w a b h r = other w a b r

-- a comment closes in one place
pub nothing_left : {cs : List ℕ} {d i j : ℕ} → length cs ≤ i → 0 < d → Closes cs d i j → ⊥
nothing_left w h closed = omega arith
nothing_left {cs} {i = i} w h (opens e r) = omega (arith, slice_get_within cs i _ e.0)
nothing_left {cs} {i = i} w h (closes e r) = omega (arith, slice_get_within cs i _ e.0)
nothing_left w h (other m no_open no_close r) = omega arith

pub on_close_of : {cs : List ℕ} {d i j : ℕ} → Stands cs i (45 ∷ 47 ∷ []) → 0 < d → Closes cs d i j → Closes cs (d - 1) (i + 2) j
on_close_of {d = zero} s h r = absurd (omega arith)
on_close_of {cs} {d = suc d} {i} {j} s h r = subst (λ k. Closes cs k (i + 2) j) (omega arith) (on_close s r)

pub from_close_of : {cs : List ℕ} {d i j : ℕ} → Stands cs i (45 ∷ 47 ∷ []) → 0 < d → Closes cs (d - 1) (i + 2) j → Closes cs d i j
from_close_of {d = zero} s h r = absurd (omega arith)
from_close_of {cs} {d = suc d} {i} {j} s h r = closes s (subst (λ k. Closes cs k (i + 2) j) (omega arith) r)

pub ends_there : {cs : List ℕ} (d i : ℕ) → d ≡ 0 → Closes cs d i i
ends_there {cs} d i e = subst (λ k. Closes cs k i i) (sym e) closed

pub closes_ahead : {bs : List ℕ} {d i j : ℕ} → Closes bs d i j → i ≤ j
closes_ahead closed = omega arith
closes_ahead (opens s r) = let le = closes_ahead r in omega arith
closes_ahead (closes s r) = let le = closes_ahead r in omega arith
closes_ahead (other w a b r) = let le = closes_ahead r in omega arith

pub closes_within : (bs : List ℕ) (d i j : ℕ) → i ≤ length bs → Closes bs d i j → j ≤ length bs
closes_within bs d i j h closed = h
closes_within bs (suc d) i j h (opens s r) = closes_within bs (suc (suc d)) (i + 2) j (let lt = slice_get_within bs (i + 1) _ s.1.0 in omega arith) r
closes_within bs (suc d) i j h (closes s r) = closes_within bs d (i + 2) j (let lt = slice_get_within bs (i + 1) _ s.1.0 in omega arith) r
closes_within bs (suc d) i j h (other w a b r) = closes_within bs (suc d) (i + 1) j (omega arith) r

pub one_closing : {bs : List ℕ} {d i j k : ℕ} → Closes bs d i j → Closes bs d i k → j ≡ k
one_closing closed closed = refl
one_closing (opens s r) (opens t q) = one_closing r q
one_closing {bs} {i = i} (opens s r) (closes t q) = absurd (not_both bs i s t)
one_closing (opens s r) (other w a b q) = absurd (a s)
one_closing {bs} {i = i} (closes s r) (opens t q) = absurd (not_both bs i t s)
one_closing (closes s r) (closes t q) = one_closing r q
one_closing (closes s r) (other w a b q) = absurd (b s)
one_closing (other w a b r) (opens t q) = absurd (a t)
one_closing (other w a b r) (closes t q) = absurd (b t)
one_closing (other w a b r) (other v x y q) = one_closing r q
