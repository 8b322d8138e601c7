-- The marks that one line puts.
use Rattle.std.proofs.Common.{◌≡◌, ◌≢◌, ℕ, zero, suc, ◌+◌, ◌<◌, ◌≤◌, Bool, true, false, ◌&&◌, ◌||◌, nat_eq, nat_lt, get_or, set, take, drop, List, [], ◌∷◌, length, refl, ap, sym, ◌∙◌, arith, get_or-set_other}
use Rattle.std.specs.List.{list_any}
use Rattle.std.proofs.lemmas.List.{take_more, drop_more}
use Rattle.std.proofs.lemmas.List.Folds.{list_any-append}
use Rattle.sat_form.specs.Literals.{Literal}
use Rattle.sat_form.proofs.Numbers.{eq_not, eq_is, lt_is, is_lt}
use Rattle.sat_form.proofs.Sets.{both, join, nat_is}
use Rattle.lrat_trim.specs.Derivation.{LogLine, is_earlier, are_earlier, hints_earlier, logged_from}
use Rattle.lrat_trim.specs.Marks.{mark_behind}
use Rattle.lrat_trim.specs.Passing.{rest_from}

set_here : (marks : List Bool) (place : ℕ) → place < length marks → get_or (set marks place true) place false ≡ true
set_here [] place h = absurd (omega arith)
set_here (b ∷ marks) zero h = refl
set_here (b ∷ marks) (suc place) h = set_here marks place (omega arith)

set_away : (marks : List Bool) (place j : ℕ) → j ≢ place → get_or (set marks place true) j false ≡ get_or marks j false
set_away marks place j differ = rw get_or-set_other refl

pub mark_set : (marks : List Bool) (m id place j : ℕ) → place + (m + 1) ≡ id → place < length marks → get_or (set marks place true) j false ≡ (nat_eq (m + 1 + j) id || get_or marks j false)
mark_set marks m id place j is inside =
    elim (nat_eq j place) as (λ b. nat_eq j place ≡ b → get_or (set marks place true) j false ≡ (nat_eq (m + 1 + j) id || get_or marks j false)) [
      | true ↦ λ same.
          let e : j ≡ place = nat_is j place same in
          ap (λ n. get_or (set marks place true) n false) e ∙ set_here marks place inside ∙ sym (ap (λ b. b || get_or marks j false) (eq_is (m + 1 + j) id (omega arith)))
      | false ↦ λ differ.
          let apart : j ≢ place = λ e. no (eq_is j place e) differ in
          set_away marks place j apart ∙ sym (ap (λ b. b || get_or marks j false) (eq_not (m + 1 + j) id (λ e. apart (omega arith))))
    ] refl
  where
    no : {b : Bool} → b ≡ true → b ≡ false → ⊥
    no t f = cc

pub mark_given : (marks : List Bool) (m id j : ℕ) → id ≤ m → get_or marks j false ≡ (nat_eq (m + 1 + j) id || get_or marks j false)
mark_given marks m id j low = sym (ap (λ b. b || get_or marks j false) (eq_not (m + 1 + j) id (λ e. absurd (omega arith))))

pub any_next : (p : ℕ → Bool) (xs : List ℕ) (i : ℕ) (b : Bool) → i < length xs → (p (get_or xs i 0) || (list_any p (take i xs) || b)) ≡ (list_any p (take (i + 1) xs) || b)
any_next p xs i b inside =
    regroup (p (get_or xs i 0)) (list_any p (take i xs)) b
    ∙ ap (λ t. t || b) (sym (list_any-append p (take i xs) (get_or xs i 0 ∷ [])) ∙ ap (list_any p) (sym (take_more xs i 0 inside)))
  where
    regroup : (a c d : Bool) → (a || (c || d)) ≡ ((c || (a || false)) || d)
    regroup true true d = refl
    regroup true false d = refl
    regroup false true d = refl
    regroup false false d = refl

pub earlier_at : (id : ℕ) (hints : List ℕ) (i : ℕ) → are_earlier id hints ≡ true → i < length hints → (0 < get_or hints i 0) × (get_or hints i 0 < id)
earlier_at id [] i all inside = absurd (omega arith)
earlier_at id (h ∷ hints) zero all inside =
    let parts = both (nat_lt 0 h) (nat_lt h id) (both (is_earlier id h) (are_earlier id hints) all).0 in (lt_is 0 h parts.0, lt_is h id parts.1)
earlier_at id (h ∷ hints) (suc i) all inside = earlier_at id hints i (both (is_earlier id h) (are_earlier id hints) all).1 (omega arith)

pub earlier_more : (id next : ℕ) (hints : List ℕ) → id ≤ next → are_earlier id hints ≡ true → are_earlier next hints ≡ true
earlier_more id next [] low all = refl
earlier_more id next (h ∷ hints) low all =
    let parts = both (is_earlier id h) (are_earlier id hints) all in
    let two = both (nat_lt 0 h) (nat_lt h id) parts.0 in
    let under = lt_is h id two.1 in
    join _ _ (join _ _ two.0 (is_lt h next (omega arith))) (earlier_more id next hints low parts.1)

-- What a line does that is needed, and one that isn't.
pub behind_on : (m : ℕ) (marks : List Bool) (at : ℕ) (lits : List Literal) (hints : List ℕ) (j : ℕ) → (nat_eq (length lits) 0 || get_or marks at false) ≡ true → at < length marks
    → (list_any (nat_eq (m + 1 + j)) hints || get_or (set marks at true) j false) ≡ mark_behind m marks at lits hints j
behind_on m marks at lits hints j needed inside =
    elim (nat_eq j at) as (λ b. nat_eq j at ≡ b → (list_any (nat_eq (m + 1 + j)) hints || get_or (set marks at true) j false) ≡ ((b || list_any (nat_eq (m + 1 + j)) hints) || get_or marks j false)) [
      | true ↦ λ same. ap (λ b. list_any (nat_eq (m + 1 + j)) hints || b) (ap (λ n. get_or (set marks at true) n false) (nat_is j at same) ∙ set_here marks at inside) ∙ either (list_any (nat_eq (m + 1 + j)) hints)
      | false ↦ λ differ. ap (λ b. list_any (nat_eq (m + 1 + j)) hints || b) (set_away marks at j (λ e. no (eq_is j at e) differ))
    ] refl
    ∙ sym (ap (λ b. (b && (nat_eq j at || list_any (nat_eq (m + 1 + j)) hints)) || get_or marks j false) needed)
  where
    no : {b : Bool} → b ≡ true → b ≡ false → ⊥
    no t f = cc

    either : (a : Bool) → (a || true) ≡ true
    either true = refl
    either false = refl

pub behind_off : (m : ℕ) (marks : List Bool) (at : ℕ) (lits : List Literal) (hints : List ℕ) (j : ℕ) → (nat_eq (length lits) 0 || get_or marks at false) ≡ false → get_or marks j false ≡ mark_behind m marks at lits hints j
behind_off m marks at lits hints j passed = sym (ap (λ b. (b && (nat_eq j at || list_any (nat_eq (m + 1 + j)) hints)) || get_or marks j false) passed)

-- The hints of the line at a place are earlier.
pub line_earlier : (id : ℕ) (lines : List LogLine) (i : ℕ) (l d : LogLine) → hints_earlier id lines ≡ true → i < length lines → l ≡ get_or lines i d → are_earlier (id + i) l.hints ≡ true
line_earlier id [] i l d all inside is = absurd (omega arith)
line_earlier id (k ∷ lines) zero l d all inside is =
    let e : id + 0 ≡ id = omega arith in
    ap (λ n. are_earlier n l.hints) e ∙ ap (λ (x : LogLine). are_earlier id x.hints) is ∙ (both (are_earlier id k.hints) (hints_earlier (id + 1) lines) all).0
line_earlier id (k ∷ lines) (suc i) l d all inside is =
    let e : id + suc i ≡ id + 1 + i = omega arith in
    ap (λ n. are_earlier n l.hints) e ∙ line_earlier (id + 1) lines i l d (both (are_earlier id k.hints) (hints_earlier (id + 1) lines) all).1 (omega arith) is

pub rest_more : (m : ℕ) (lines : List LogLine) (at : ℕ) (l d : LogLine) → at < length lines → l ≡ get_or lines at d
    → rest_from m lines at ≡ record { id = m + 1 + at; lits = l.lits; hints = l.hints } ∷ rest_from m lines (at + 1)
rest_more m lines at l d inside is =
    ap (logged_from (m + 1 + at)) (drop_more lines at d inside ∙ ap (λ x. x ∷ drop (at + 1) lines) (sym is))
    ∙ ap (λ n. record { id = m + 1 + at; lits = l.lits; hints = l.hints } ∷ logged_from n (drop (at + 1) lines)) (let e : m + 1 + at + 1 ≡ m + 1 + (at + 1) = omega arith in e)
