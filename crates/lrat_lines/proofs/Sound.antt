-- A line that checks keeps the clauses satisfiable.
use Rattle.std.proofs.Common.{subst, ◌≡◌, ℕ, Bool, true, false, not, ◌&&◌, ◌||◌, cond, List, [], ◌∷◌, ◌++◌, refl, ap, sym, ◌∙◌, inl, inr, nat_eq, map}
use Rattle.std.specs.Prelude.{Some, None}
use Rattle.std.specs.List.{list_any, list_all, find}
use Rattle.std.specs.Option.{option_map}
use Rattle.std.specs.declared.option.Option.{Option}
use Rattle.sat_form.specs.Literals.{Literal, negate, same_sign, same_literal, member, without}
use Rattle.sat_form.specs.Assignment.{is_true, is_false, clause_false, unit_literal}
use Rattle.sat_form.specs.Truth.{literal_true, clause_true}
use Rattle.lrat_lines.specs.Judge.{Clauses, Entry, Cause, Taken, Group, clause_of, take_hints, take_clause, take_unit, two_opposite, judge_group_clause, judge_groups, is_missed, group_done}
use Rattle.lrat_lines.specs.Judge.Taken.{Conflict, Units, Stop}
use Rattle.lrat_lines.specs.Judge.Cause.{StrangeGroup}
use Rattle.sat_form.proofs.Sets.{clash, some_member, member_any, without_itself, both, join, neither, one_of, nat_is, nat_itself, sign_itself, same_is, same_itself, member_all, member_without, other_false, absurd_bool}

abbrev pub holds : (ℕ → Bool) → Clauses → Bool
holds v db = list_all (λ e. clause_true v e.lits) db

abbrev pub agrees : (ℕ → Bool) → List Literal → Bool
agrees v a = list_all (literal_true v) a

sign_not : (a b : Bool) → same_sign a (not b) ≡ not (same_sign a b)
sign_not true b = refl
sign_not false b = refl

pub negated : (v : ℕ → Bool) (l : Literal) → literal_true v (negate l) ≡ not (literal_true v l)
negated v l = sign_not (v l.var) l.positive

flip_false : (b : Bool) → not b ≡ true → b ≡ false
flip_false true h = sym h
flip_false false h = refl

pub falsified : (v : ℕ → Bool) (a : List Literal) (k : Literal) → agrees v a ≡ true → is_false a k ≡ true → literal_true v k ≡ false
falsified v a k all h = flip_false (literal_true v k) (sym (negated v k) ∙ member_all (literal_true v) a (negate k) all h)

pub not_clause_false : (v : ℕ → Bool) (a c : List Literal) → agrees v a ≡ true → clause_false a c ≡ true → clause_true v c ≡ false
not_clause_false v a [] all h = refl
not_clause_false v a (k ∷ c) all h =
    let parts = both (is_false a k) (clause_false a c) h in
    ap (λ b. b || clause_true v c) (falsified v a k all parts.0) ∙ not_clause_false v a c all parts.1

unit_true : (v : ℕ → Bool) (a c : List Literal) (l : Literal) → agrees v a ≡ true → clause_true v c ≡ true → unit_literal a c ≡ Some l → literal_true v l ≡ true
unit_true v a c l all h unit =
    let one = some_member (literal_true v) c h in
    elim (same_literal one.0 l) as (λ b. same_literal one.0 l ≡ b → literal_true v l ≡ true) [
      | true ↦ λ same. ap (literal_true v) (sym (same_is one.0 l same)) ∙ one.2
      | false ↦ λ differ. clash (literal_true v one.0) one.2
          (falsified v a one.0 all (other_false a c l one.0 unit one.1 (λ is. sym differ ∙ ap (λ x. same_literal x l) is ∙ same_itself l)))
    ] refl

pub found_passes : (p q : Entry → Bool) (db : Clauses) (e : Entry) → list_all q db ≡ true → find p db ≡ Some e → (q e ≡ true) × (p e ≡ true)
found_passes p q [] e all h = cc
found_passes p q (x ∷ db) e all h =
    let parts = both (q x) (list_all q db) all in
    elim (p x) as (λ b. p x ≡ b → cond b (Some x) (find p db) ≡ Some e → (q e ≡ true) × (p e ≡ true)) [
      | true ↦ λ passes here. let is : x ≡ e = cc in (ap q (sym is) ∙ parts.0, ap p (sym is) ∙ passes)
      | false ↦ λ _ later. found_passes p q db e parts.1 later
    ] refl h

pub clause_holds : (v : ℕ → Bool) (db : Clauses) (id : ℕ) (c : List Literal) → holds v db ≡ true → clause_of db id ≡ Some c → clause_true v c ≡ true
clause_holds v db id c all h =
    elim (find (λ e. nat_eq e.id id) db) as (λ o. find (λ e. nat_eq e.id id) db ≡ o → option_map (λ e. e.lits) o ≡ Some c → clause_true v c ≡ true) [
      | None ↦ λ _ none. cc
      | Some e ↦ λ found here. let is : e.lits ≡ c = cc in ap (clause_true v) (sym is) ∙ (found_passes (λ x. nat_eq x.id id) (λ x. clause_true v x.lits) db e all found).0
    ] refl h

abbrev pub Good : (ℕ → Bool) → Taken → Type 0
Good v Conflict = ⊥
Good v (Units a) = agrees v a ≡ true
Good v (Stop cause) = Unit {0}

abbrev pub on : Clauses → List ℕ → Taken → Taken
on db ids t = elim t as (λ _. Taken) [ Conflict ↦ Conflict | Units b ↦ take_hints db b ids | Stop cause ↦ Stop cause ]

pub hints_good : (v : ℕ → Bool) (db : Clauses) → holds v db ≡ true → (ids : List ℕ) (a : List Literal) → agrees v a ≡ true → Good v (take_hints db a ids)
hints_good v db all [] a h = h
hints_good v db all (id ∷ ids) a h =
    elim (clause_of db id) as (λ o. clause_of db id ≡ o → Good v (on db ids (take_clause id a o))) [
      | None ↦ λ _. tt
      | Some c ↦ λ there.
          let true_c = clause_holds v db id c all there in
          elim (clause_false a c) as (λ b. clause_false a c ≡ b → Good v (on db ids (cond b Conflict (take_unit id a (unit_literal a c))))) [
            | true ↦ λ none. clash (clause_true v c) true_c (not_clause_false v a c h none)
            | false ↦ λ _. elim (unit_literal a c) as (λ o. unit_literal a c ≡ o → Good v (on db ids (take_unit id a o))) [
              | None ↦ λ _. tt
              | Some l ↦ λ unit. hints_good v db all ids (l ∷ a) (join _ _ (unit_true v a c l h true_c unit) h)
            ] refl
          ] refl
    ] refl

-- the values with the pivot made true
abbrev pub flipped : (ℕ → Bool) → Literal → ℕ → Bool
flipped v p x = cond (nat_eq x p.var) p.positive (v x)

pub pivot_true : (v : ℕ → Bool) (p : Literal) → literal_true (flipped v p) p ≡ true
pivot_true v p = ap (λ b. same_sign (cond b p.positive (v p.var)) p.positive) (nat_itself p.var) ∙ sign_itself p.positive

opposite_signs : (a b : Bool) → same_sign a (not b) ≡ false → same_sign b a ≡ true
opposite_signs true true h = refl
opposite_signs true false h = sym h
opposite_signs false true h = sym h
opposite_signs false false h = refl

pub kept_true : (v : ℕ → Bool) (p k : Literal) → literal_true v k ≡ true → same_literal (negate p) k ≡ false → literal_true (flipped v p) k ≡ true
kept_true v p k h differ =
    elim (nat_eq k.var p.var) as (λ b. nat_eq k.var p.var ≡ b → same_sign (cond b p.positive (v k.var)) k.positive ≡ true) [
      | true ↦ λ same.
          let is : nat_eq p.var k.var ≡ true = ap (λ n. nat_eq p.var n) (nat_is k.var p.var same) ∙ nat_itself p.var in
          positive (nat_eq p.var k.var) p.positive k.positive is differ
      | false ↦ λ _. h
    ] refl
  where
    positive : (t a b : Bool) → t ≡ true → (t && same_sign (not a) b) ≡ false → same_sign a b ≡ true
    positive true true true i h = refl
    positive true true false i h = sym h
    positive true false true i h = sym h
    positive true false false i h = refl
    positive false a b i h = cc

agrees_append : (v : ℕ → Bool) (a b : List Literal) → agrees v a ≡ true → agrees v b ≡ true → agrees v (a ++ b) ≡ true
agrees_append v [] b h k = k
agrees_append v (l ∷ a) b h k = let parts = both (literal_true v l) (agrees v a) h in join _ _ parts.0 (agrees_append v a b parts.1 k)

pub agrees_negated : (v : ℕ → Bool) (c : List Literal) → clause_true v c ≡ false → agrees v (map negate c) ≡ true
agrees_negated v [] h = refl
agrees_negated v (l ∷ c) h =
    let parts = neither (literal_true v l) (clause_true v c) h in
    join _ _ (negated v l ∙ ap not parts.0) (agrees_negated v c parts.1)

-- Some other literal of the clause is true with the pivot.
abbrev Other : (ℕ → Bool) → Literal → List Literal → Type 0
Other v p c = (k : Literal) × (member (without c (negate p)) k ≡ true) × (literal_true (flipped v p) k ≡ true)

-- a member of the others isn't the negated pivot
is_other : (c : List Literal) (x k : Literal) → member (without c x) k ≡ true → same_literal x k ≡ false
is_other c x k has = decided_false (same_literal x k) (λ same. without_itself c x (ap (member (without c x)) (same_is x k same) ∙ has))
  where
    decided_false : (b : Bool) → (b ≡ true → false ≡ true) → b ≡ false
    decided_false true h = sym (h refl)
    decided_false false h = refl

module _ (v : ℕ → Bool) (db : Clauses) (all : holds v db ≡ true) (a : List Literal) (agree : agrees v a ≡ true) (p : Literal) where
  -- one that is true already
  by_true : (c : List Literal) → list_any (is_true a) (without c (negate p)) ≡ true → Other v p c
  by_true c h =
      let one = some_member (is_true a) (without c (negate p)) h in
      (one.0, one.1, kept_true v p one.0 (member_all (literal_true v) a one.0 agree one.2) (is_other c (negate p) one.0 one.1))

  by_opposite : (c : List Literal) → two_opposite (without c (negate p)) ≡ true → Other v p c
  by_opposite c h =
      let one = some_member (λ l. member (without c (negate p)) (negate l)) (without c (negate p)) h in
      elim (literal_true (flipped v p) one.0) as (λ b. literal_true (flipped v p) one.0 ≡ b → Other v p c) [
        | true ↦ λ yes_true. (one.0, one.1, yes_true)
        | false ↦ λ no_true. (negate one.0, one.2, negated (flipped v p) one.0 ∙ ap not no_true)
      ] refl

  by_conflict : (c : List Literal) (hints : List ℕ) → take_hints db (map negate (without c (negate p)) ++ a) hints ≡ Conflict → Other v p c
  by_conflict c hints h =
      elim (clause_true v (without c (negate p))) as (λ b. clause_true v (without c (negate p)) ≡ b → Other v p c) [
        | true ↦ λ some. let one = some_member (literal_true v) (without c (negate p)) some in (one.0, one.1, kept_true v p one.0 one.2 (is_other c (negate p) one.0 one.1))
        | false ↦ λ none. absurd (subst (λ (t : Taken). Good v t) h (hints_good v db all hints (map negate (without c (negate p)) ++ a) (agrees_append v (map negate (without c (negate p))) a (agrees_negated v (without c (negate p)) none) agree)))
      ] refl

  group_other : (g : Group) (c : List Literal) → judge_group_clause db a p g (Some c) ≡ None → Other v p c
  group_other g c h =
      elim (member c (negate p)) as (λ b. cond (not b) (Some (StrangeGroup g.id)) (cond (list_any (is_true a) (without c (negate p)) || two_opposite (without c (negate p))) None (group_done (take_hints db (map negate (without c (negate p)) ++ a) g.hints))) ≡ None → Other v p c) [
        | false ↦ λ strange. cc
        | true ↦ elim (list_any (is_true a) (without c (negate p)) || two_opposite (without c (negate p))) as (λ b. (list_any (is_true a) (without c (negate p)) || two_opposite (without c (negate p))) ≡ b → cond b None (group_done (take_hints db (map negate (without c (negate p)) ++ a) g.hints)) ≡ None → Other v p c) [
          | true ↦ λ done _. elim (one_of (list_any (is_true a) (without c (negate p))) (two_opposite (without c (negate p))) done) [ inl t ↦ by_true c t | inr o ↦ by_opposite c o ]
          | false ↦ λ _ rest. elim (take_hints db (map negate (without c (negate p)) ++ a) g.hints) as (λ t. take_hints db (map negate (without c (negate p)) ++ a) g.hints ≡ t → group_done t ≡ None → Other v p c) [
            | Conflict ↦ λ is _. by_conflict c g.hints is
            | Units b ↦ λ _ open_left. cc
            | Stop cause ↦ λ _ stopped. cc
          ] refl rest
        ] refl
      ] h

  groups_pass : (gs : List Group) (id : ℕ) → judge_groups db a p gs ≡ None → list_any (λ g. nat_eq g.id id) gs ≡ true → (g : Group) × (g.id ≡ id) × (judge_group_clause db a p g (clause_of db g.id) ≡ None)
  groups_pass [] id h has = absurd_bool has
  groups_pass (g ∷ gs) id h has =
      elim (judge_group_clause db a p g (clause_of db g.id)) as (λ o. judge_group_clause db a p g (clause_of db g.id) ≡ o
      → elim o as (λ _. Option Cause) [ Some cause ↦ Some cause | None ↦ judge_groups db a p gs ] ≡ None
      → (x : Group) × (x.id ≡ id) × (judge_group_clause db a p x (clause_of db x.id) ≡ None)) [
        | Some cause ↦ λ _ refused. cc
        | None ↦ λ passes rest. elim (one_of (nat_eq g.id id) (list_any (λ x. nat_eq x.id id) gs) has) [ inl is ↦ (g, nat_is g.id id is, passes) | inr later ↦ groups_pass gs id rest later ]
      ] refl h

  -- Each entry is true with the pivot.
  pub entry_true : (gs : List Group) (e : Entry) → clause_of db e.id ≡ Some e.lits → clause_true v e.lits ≡ true → judge_groups db a p gs ≡ None → is_missed a p gs e ≡ false → clause_true (flipped v p) e.lits ≡ true
  entry_true gs e found was groups missed =
      elim (member e.lits (negate p)) as (λ b. member e.lits (negate p) ≡ b → (b && (not (list_any (λ g. nat_eq g.id e.id) gs) && not (list_any (is_true a) (without e.lits (negate p))))) ≡ false → clause_true (flipped v p) e.lits ≡ true) [
        | false ↦ λ hasnt _.
            let one = some_member (literal_true v) e.lits was in
            member_any (literal_true (flipped v p)) e.lits one.0 one.1
            (kept_true v p one.0 one.2 (not_member e.lits (negate p) one.0 hasnt one.1))
        | true ↦ λ _ kept.
            let other = elim (one_of (list_any (λ g. nat_eq g.id e.id) gs) (list_any (is_true a) (without e.lits (negate p))) (some_of _ _ kept)) as (λ _. Other v p e.lits) [
              | inl grouped ↦ (let g = groups_pass gs e.id groups grouped in group_other g.0 e.lits (ap (judge_group_clause db a p g.0) (sym (ap (clause_of db) g.1 ∙ found)) ∙ g.2))
              | inr here ↦ by_true e.lits here
            ] in
            member_any (literal_true (flipped v p)) e.lits other.0 (member_without e.lits (negate p) other.0 other.1) other.2
      ] refl missed
    where
      some_of : (x y : Bool) → (not x && not y) ≡ false → (x || y) ≡ true
      some_of true y h = refl
      some_of false true h = refl
      some_of false false h = sym h

      not_member : (c : List Literal) (x k : Literal) → member c x ≡ false → member c k ≡ true → same_literal x k ≡ false
      not_member c x k hasnt has = elim (same_literal x k) as (λ b. same_literal x k ≡ b → b ≡ false) [
        | true ↦ λ same. clash (member c x) (ap (member c) (same_is x k same) ∙ has) hasnt
        | false ↦ λ _. refl
      ] refl
