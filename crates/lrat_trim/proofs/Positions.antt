-- Where a marked line stands among the marked ones, and so its new id.
use Rattle.std.proofs.Common.{◌≡◌, ◌≢◌, ℕ, zero, suc, ◌+◌, ◌-◌, ◌^◌, ◌<◌, ◌≤◌, Bool, true, false, not, ◌&&◌, ◌||◌, cond, nat_eq, nat_le, nat_lt, get_or, List, [], ◌∷◌, ◌++◌, length, map, refl, ap, sym, ◌∙◌, arith, length-append, pos}
use Rattle.std.specs.List.{list_all, position_or_len}
use Rattle.std.proofs.lemmas.Grind.{common_steps}
use Rattle.std.proofs.lemmas.List.{append_assoc}
use Rattle.sat_form.specs.Log.{Logged}
use Rattle.sat_form.proofs.Numbers.{eq_not, eq_is, lt_is, le_not, isnt_le}
use Rattle.sat_form.proofs.Sets.{both, join}
use Rattle.lrat_lines.specs.Lines.{Line, is_id}
use Rattle.lrat_lines.specs.Lines.Line.{Add}
use Rattle.lrat_trim.specs.Derivation.{LogLine, logged_from, are_earlier}
use Rattle.lrat_trim.specs.Marks.{marked_from, marks_in, are_marked, moved_hints}
use Rattle.lrat_trim.specs.Passing.{IsRenumbered}
use Rattle.lrat_trim.specs.Trim.{new_id, renumbered}

abbrev place_of : ℕ → List Logged → ℕ
place_of id ls = position_or_len (λ l. nat_eq l.id id) ls

place_here : (id : ℕ) (l : Logged) (ls : List Logged) → l.id ≡ id → place_of id (l ∷ ls) ≡ 0
place_here id l ls same = ap (λ b. cond (not b) (1 + place_of id ls) 0) (eq_is l.id id same)

place_later : (id : ℕ) (l : Logged) (ls : List Logged) → l.id ≢ id → place_of id (l ∷ ls) ≡ 1 + place_of id ls
place_later id l ls differ = ap (λ b. cond (not b) (1 + place_of id ls) 0) (eq_not l.id id differ)

abbrev pub as_logged : ℕ → LogLine → Logged
as_logged id l = record { id = id; lits = l.lits; hints = l.hints }

abbrev front : Bool → Logged → List Logged → List Logged
front b l ls = cond b (l ∷ ls) ls

-- A marked line stands behind as many as there are marks before it.
pub place_is : (marks : List Bool) (s first k id : ℕ) (lines : List LogLine) → id ≡ first + k → k < length lines → get_or marks (s + k) false ≡ true → place_of id (marked_from marks s (logged_from first lines)) ≡ marks_in marks s k
place_is marks s first k id [] same inside on = absurd (omega arith)
place_is marks s first zero id (l ∷ ls) same inside on =
    let here : get_or marks s false ≡ true = ap (λ n. get_or marks n false) (let e : s ≡ s + 0 = omega arith in e) ∙ on in
    ap (λ b. place_of id (front b (as_logged first l) (marked_from marks (s + 1) (logged_from (first + 1) ls)))) here
    ∙ place_here id (as_logged first l) (marked_from marks (s + 1) (logged_from (first + 1) ls)) (let e : first ≡ id = omega arith in e)
place_is marks s first (suc k) id (l ∷ ls) same inside on =
    let deep = place_is marks (s + 1) (first + 1) k id ls (omega arith) (omega arith) (ap (λ n. get_or marks n false) (let e : s + 1 + k ≡ s + suc k = omega arith in e) ∙ on) in
    let rest = marked_from marks (s + 1) (logged_from (first + 1) ls) in
    elim (get_or marks s false) as (λ b. place_of id (front b (as_logged first l) rest) ≡ cond b 1 0 + marks_in marks (s + 1) k) [
      | true ↦ place_later id (as_logged first l) rest (λ e. absurd (omega arith)) ∙ ap (λ n. 1 + n) deep
      | false ↦ deep ∙ sym (none_more (marks_in marks (s + 1) k))
    ]
  where
    none_more : (n : ℕ) → 0 + n ≡ n
    none_more n = omega arith

pub marks_last : (marks : List Bool) (s k : ℕ) → marks_in marks s (suc k) ≡ marks_in marks s k + cond (get_or marks (s + k) false) 1 0
marks_last marks s zero =
    ap (λ n. cond (get_or marks n false) 1 0 + 0) (let e : s ≡ s + 0 = omega arith in e) ∙ swap (cond (get_or marks (s + 0) false) 1 0)
  where
    swap : (n : ℕ) → n + 0 ≡ 0 + n
    swap n = omega arith
marks_last marks s (suc k) =
    ap (λ n. cond (get_or marks s false) 1 0 + n) (marks_last marks (s + 1) k)
    ∙ ap (λ n. cond (get_or marks s false) 1 0 + (marks_in marks (s + 1) k + cond (get_or marks n false) 1 0)) (let e : s + 1 + k ≡ s + suc k = omega arith in e)
    ∙ regroup (cond (get_or marks s false) 1 0) (marks_in marks (s + 1) k) (cond (get_or marks (s + suc k) false) 1 0)
  where
    regroup : (a b c : ℕ) → a + (b + c) ≡ (a + b) + c
    regroup a b c = omega arith

pub marks_fit : (marks : List Bool) (s k : ℕ) → marks_in marks s k ≤ k
marks_fit marks s zero = omega arith
marks_fit marks s (suc k) = let deep = marks_fit marks (s + 1) k in let one = at_most (get_or marks s false) in omega arith
  where
    at_most : (b : Bool) → cond b 1 0 ≤ 1
    at_most true = omega arith
    at_most false = omega arith

new_is : (m id place : ℕ) (kept : List Logged) → m < id → place_of id kept ≡ place → new_id m kept id ≡ m + 1 + place
new_is m id place kept above is = ap (λ b. cond b id (m + 1 + place_of id kept)) (isnt_le id m above) ∙ ap (λ n. m + 1 + n) is

module _ (m : ℕ) (marks : List Bool) (all : List LogLine) (kept : List Logged) (kept_is : marked_from marks 0 (logged_from (m + 1) all) ≡ kept) where
  place_all : (j id : ℕ) → id ≡ m + 1 + j → j < length all → get_or marks j false ≡ true → place_of id kept ≡ marks_in marks 0 j
  place_all j id same inside on =
      ap (place_of id) (sym kept_is) ∙ place_is marks 0 (m + 1) j id all same inside (ap (λ n. get_or marks n false) (let e : 0 + j ≡ j = omega arith in e) ∙ on)

  -- Hints move with the lines that they name.
  hints_moved : (at : ℕ) (ids : List ℕ) (hints : List ℕ) → at ≤ length all → ((j : ℕ) → j < at → get_or ids j 0 ≡ m + 1 + marks_in marks 0 j) → are_earlier (m + 1 + at) hints ≡ true → are_marked marks m hints ≡ true
      → moved_hints m ids hints ≡ map (λ id. pos (new_id m kept id)) hints
  hints_moved at ids [] inside ids_are earlier marked = refl
  hints_moved at ids (h ∷ hints) inside ids_are earlier marked =
      let parts = both (nat_lt 0 h && nat_lt h (m + 1 + at)) (are_earlier (m + 1 + at) hints) earlier in
      let under = lt_is h (m + 1 + at) (both (nat_lt 0 h) (nat_lt h (m + 1 + at)) parts.0).1 in
      let on = both (nat_le h m || get_or marks (h - (m + 1)) false) (are_marked marks m hints) marked in
      let one : cond (nat_le h m) h (get_or ids (h - (m + 1)) 0) ≡ new_id m kept h =
      elim (nat_le h m) as (λ b. nat_le h m ≡ b → (b || get_or marks (h - (m + 1)) false) ≡ true → cond b h (get_or ids (h - (m + 1)) 0) ≡ cond b h (m + 1 + place_of h kept)) [
        | true ↦ λ _ _. refl
        | false ↦ λ above here.
            let high = le_not h m above in
            ids_are (h - (m + 1)) (omega arith) ∙ ap (λ n. m + 1 + n) (sym (place_all (h - (m + 1)) h (omega arith) (omega arith) here))
      ] refl on.0 in
      (λ i. pos (one i) ∷ hints_moved at ids hints inside ids_are parts.1 on.1 i)

  module _ (at : ℕ) (line : LogLine) (rest : List Logged) (ids : List ℕ) (new : List Line) (inside : at < length all) (earlier : are_earlier (m + 1 + at) line.hints ≡ true)
      (old : IsRenumbered m marks kept at (as_logged (m + 1 + at) line ∷ rest) ids new) where
    abbrev id_here : ℕ
    id_here = m + length new + 1

    here_is : id_here ≡ m + 1 + marks_in marks 0 at
    here_is = let c = old.count in omega arith

    next_ids : (j : ℕ) → j < at + 1 → get_or (ids ++ id_here ∷ []) j 0 ≡ m + 1 + marks_in marks 0 j
    next_ids j low =
        elim (nat_lt j at) as (λ b. nat_lt j at ≡ b → get_or (ids ++ id_here ∷ []) j 0 ≡ m + 1 + marks_in marks 0 j) [
          | true ↦ λ before. let s = old.size in let under = lt_is j at before in get_front ids id_here j (omega arith) ∙ old.moved j under
          | false ↦ λ last. let s = old.size in let over = lt_not j at last in
              let e : j ≡ at = omega arith in
              let e2 : at ≡ length ids = omega arith in
              ap (λ n. get_or (ids ++ id_here ∷ []) n 0) (e ∙ e2) ∙ get_last ids id_here ∙ here_is ∙ ap (λ n. m + 1 + marks_in marks 0 n) (sym e)
        ] refl
      where
        lt_not : (m n : ℕ) → nat_lt m n ≡ false → n ≤ m
        lt_not m n h = grind (arith, common_steps)

        get_front : (xs : List ℕ) (x j : ℕ) → j < length xs → get_or (xs ++ x ∷ []) j 0 ≡ get_or xs j 0
        get_front [] x j h = absurd (omega arith)
        get_front (y ∷ xs) x zero h = refl
        get_front (y ∷ xs) x (suc j) h = get_front xs x j (omega arith)

        get_last : (xs : List ℕ) (x : ℕ) → get_or (xs ++ x ∷ []) (length xs) 0 ≡ x
        get_last [] x = refl
        get_last (y ∷ xs) x = get_last xs x

    next_size : length (ids ++ id_here ∷ []) ≡ at + 1
    next_size = length-append ids (id_here ∷ []) ∙ ap (λ n. n + 1) old.size

    next_count : (b : Bool) → get_or marks at false ≡ b → marks_in marks 0 (at + 1) ≡ marks_in marks 0 at + cond b 1 0
    next_count b is =
        ap (marks_in marks 0) (let e : at + 1 ≡ suc at = omega arith in e) ∙ marks_last marks 0 at
        ∙ ap (λ n. marks_in marks 0 at + cond (get_or marks n false) 1 0) (let e : 0 + at ≡ at = omega arith in e)
        ∙ ap (λ x. marks_in marks 0 at + cond x 1 0) is

    pub passed_over : get_or marks at false ≡ false → IsRenumbered m marks kept (at + 1) rest (ids ++ id_here ∷ []) new
    passed_over off = record {
      size = next_size;
      moved = next_ids;
      count = let c = old.count in let n = next_count false off in omega arith;
      lines = ap (λ b. new ++ map (renumbered m kept) (front b (as_logged (m + 1 + at) line) (marked_from marks (at + 1) rest))) (sym off) ∙ old.lines;
      closed = old.closed.1;
    }

    pub taken_over : get_or marks at false ≡ true → IsRenumbered m marks kept (at + 1) rest (ids ++ id_here ∷ []) (new ++ Add id_here line.lits (moved_hints m ids line.hints) ∷ [])
    taken_over on =
        let place = place_all at (m + 1 + at) refl inside on in
        let id_is : id_here ≡ new_id m kept (m + 1 + at) = here_is ∙ sym (new_is m (m + 1 + at) (marks_in marks 0 at) kept (omega arith) place) in
        let hints_are = hints_moved at ids line.hints (omega arith) old.moved earlier (old.closed.0 on) in
        let line_is : Add id_here line.lits (moved_hints m ids line.hints) ≡ renumbered m kept (as_logged (m + 1 + at) line) = λ i. Add (id_is i) line.lits (hints_are i) in
        record {
          size = next_size;
          moved = next_ids;
          count = length-append new (Add id_here line.lits (moved_hints m ids line.hints) ∷ []) ∙ ap (λ n. n + 1) old.count ∙ sym (next_count true on);
          lines =
              ap (λ x. (new ++ x ∷ []) ++ map (renumbered m kept) (marked_from marks (at + 1) rest)) line_is
              ∙ append_assoc new (renumbered m kept (as_logged (m + 1 + at) line) ∷ []) (map (renumbered m kept) (marked_from marks (at + 1) rest))
              ∙ ap (λ b. new ++ map (renumbered m kept) (front b (as_logged (m + 1 + at) line) (marked_from marks (at + 1) rest))) (sym on)
              ∙ old.lines;
          closed = old.closed.1;
        }

-- Numbers in range are ids.
pub id_fits : (n : ℕ) → 0 < n → n < 2 ^ 63 → is_id n ≡ true
id_fits n above below = join _ _ (is_lt 0 n above) (is_lt n (2 ^ 63) below)
  where
    is_lt : (m n : ℕ) → m < n → nat_lt m n ≡ true
    is_lt m n h = grind (arith, common_steps)

pub all_last : {X : Type 0} (p : X → Bool) (xs : List X) (x : X) → list_all p xs ≡ true → p x ≡ true → list_all p (xs ++ x ∷ []) ≡ true
all_last p [] x all here = join _ _ here refl
all_last p (y ∷ xs) x all here = let parts = both (p y) (list_all p xs) all in join _ _ parts.0 (all_last p xs x parts.1 here)
