-- Where the lines check, no values satisfy the clauses.
use Rattle.std.proofs.Common.{subst, ◌≡◌, ℕ, ◌+◌, ◌<◌, ◌≤◌, Bool, true, false, not, ◌&&◌, ◌||◌, cond, List, [], ◌∷◌, ◌++◌, refl, ap, sym, ◌∙◌, nat_eq, nat_lt, map, arith}
use Rattle.std.specs.Prelude.{Some, None, Ok, Err, is_some}
use Rattle.std.specs.List.{list_any, list_all, find, filter}
use Rattle.std.specs.Option.{option_map, option_or}
use Rattle.std.specs.declared.option.Option.{Option}
use Rattle.std.proofs.lemmas.Grind.{common_steps}
use Rattle.std.proofs.lemmas.List.{append_assoc}
use Rattle.std.proofs.lemmas.List.Folds.{find-append}
use Rattle.sat_form.specs.Literals.{Literal, negate, member}
use Rattle.sat_form.specs.Truth.{literal_true, clause_true, satisfies, HaveNoValues}
use Rattle.lrat_lines.specs.Lines.{Line}
use Rattle.lrat_lines.specs.Lines.Line.{Add, Delete, Skip}
use Rattle.lrat_lines.specs.Judge.{Clauses, Entry, Cause, Group, Hints, clause_of, take_hints, two_opposite, judge_groups, judge_missing, judge_pivot, judge_first, judge_add, is_missed, add_clause, delete_clauses, added, judge, split_hints, is_last, given, given_from, checks_from, Checks}
use Rattle.lrat_lines.specs.Judge.Taken.{Conflict, Units, Stop}
use Rattle.lrat_lines.specs.Judge.Cause.{IdInUse, MissingGroup}
use Rattle.sat_form.proofs.Sets.{clash, some_member, member_any, both, join, either_left, nat_itself, absurd_bool}
use Rattle.lrat_lines.proofs.Sound.{holds, agrees, Good, negated, agrees_negated, hints_good, flipped, pivot_true, entry_true}

-- the ids rise
abbrev RisingE : ℕ → Clauses → Type 0
RisingE low [] = Unit {0}
RisingE low (e ∷ db) = (low ≤ e.id) × RisingE (e.id + 1) db

abbrev Found : Clauses → Clauses → Type 0
Found all [] = Unit {0}
Found all (e ∷ db) = (find (λ x. nat_eq x.id e.id) all ≡ Some e) × Found all db

differs : (m n : ℕ) → m < n → nat_eq m n ≡ false
differs m n h = grind (arith, common_steps)

found_from : (before db : Clauses) (low : ℕ) → ((id : ℕ) → low ≤ id → find (λ x. nat_eq x.id id) before ≡ None) → RisingE low db → Found (before ++ db) db
found_from before [] low none rising = tt
found_from before (e ∷ db) low none rising = (
  find-append (λ x. nat_eq x.id e.id) before (e ∷ db)
      ∙ ap (λ o. option_or o (cond (nat_eq e.id e.id) (Some e) (find (λ x. nat_eq x.id e.id) db))) (none e.id rising.0)
      ∙ ap (λ b. cond b (Some e) (find (λ x. nat_eq x.id e.id) db)) (nat_itself e.id),
  subst (λ (l : Clauses). Found l db) (append_assoc before (e ∷ []) db)
      (found_from (before ++ e ∷ []) db (e.id + 1) (λ id h.
      find-append (λ x. nat_eq x.id id) before (e ∷ [])
      ∙ ap (λ o. option_or o (cond (nat_eq e.id id) (Some e) None)) (none id (let first : low ≤ e.id = rising.0 in omega arith))
      ∙ ap (λ b. cond b (Some e) None) (differs e.id id (omega arith))) rising.1),
)

rising_lower : (low high : ℕ) (db : Clauses) → low ≤ high → RisingE high db → RisingE low db
rising_lower low high [] h r = tt
rising_lower low high (e ∷ db) h r = (let a = r.0 in omega arith, r.1)

rising_delete : (low : ℕ) (p : Entry → Bool) (db : Clauses) → RisingE low db → RisingE low (filter p db)
rising_delete low p [] r = tt
rising_delete low p (e ∷ db) r =
    elim (p e) as (λ b. RisingE low (cond b (e ∷ filter p db) (filter p db))) [
      | true ↦ (r.0, rising_delete (e.id + 1) p db r.1)
      | false ↦ rising_delete low p db (rising_lower low (e.id + 1) db (let a = r.0 in omega arith) r.1)
    ]

holds_delete : (v : ℕ → Bool) (p : Entry → Bool) (db : Clauses) → holds v db ≡ true → holds v (filter p db) ≡ true
holds_delete v p [] h = refl
holds_delete v p (e ∷ db) h =
    let parts = both (clause_true v e.lits) (holds v db) h in
    elim (p e) as (λ b. holds v (cond b (e ∷ filter p db) (filter p db)) ≡ true) [ true ↦ join _ _ parts.0 (holds_delete v p db parts.1) | false ↦ holds_delete v p db parts.1 ]

is_free : (db : Clauses) (id : ℕ) → is_some (clause_of db id) ≡ false → find (λ e. nat_eq e.id id) db ≡ None
is_free db id h = elim (find (λ e. nat_eq e.id id) db) as (λ o. is_some (option_map (λ e. e.lits) o) ≡ false → o ≡ None) [ None ↦ λ _. refl | Some e ↦ λ some. cc ] h

rising_add : (low : ℕ) (db : Clauses) (id : ℕ) (c : List Literal) → low ≤ id → find (λ e. nat_eq e.id id) db ≡ None → RisingE low db → RisingE low (add_clause db id c)
rising_add low [] id c h free r = (h, tt)
rising_add low (e ∷ db) id c h free r =
    elim (nat_eq e.id id) as (λ b. nat_eq e.id id ≡ b → cond b (Some e) (find (λ x. nat_eq x.id id) db) ≡ None → RisingE low (cond (nat_lt id e.id) (record { id = id; lits = c } ∷ e ∷ db) (e ∷ add_clause db id c))) [
      | true ↦ λ _ some. cc
      | false ↦ λ other none. elim (nat_lt id e.id) as (λ b. nat_lt id e.id ≡ b → RisingE low (cond b (record { id = id; lits = c } ∷ e ∷ db) (e ∷ add_clause db id c))) [
        | true ↦ λ less. (h, (below id e.id less, r.1))
        | false ↦ λ more. (r.0, rising_add (e.id + 1) db id c (above id e.id other more) none r.1)
      ] refl
    ] refl free
  where
    below : (m n : ℕ) → nat_lt m n ≡ true → m + 1 ≤ n
    below m n h = grind (arith, common_steps)

    above : (m n : ℕ) → nat_eq n m ≡ false → nat_lt m n ≡ false → n + 1 ≤ m
    above m n e l = grind (arith, common_steps)

holds_add : (v : ℕ → Bool) (db : Clauses) (id : ℕ) (c : List Literal) → clause_true v c ≡ true → holds v db ≡ true → holds v (add_clause db id c) ≡ true
holds_add v [] id c h all = join _ _ h refl
holds_add v (e ∷ db) id c h all =
    let parts = both (clause_true v e.lits) (holds v db) all in
    elim (nat_lt id e.id) as (λ b. holds v (cond b (record { id = id; lits = c } ∷ e ∷ db) (e ∷ add_clause db id c)) ≡ true) [
      | true ↦ join _ _ h all
      | false ↦ join _ _ parts.0 (holds_add v db id c h parts.1)
    ]

-- no entry is missed
pub none_found : (p : Entry → Bool) (db : Clauses) → find p db ≡ None → list_all (λ e. not (p e)) db ≡ true
none_found p [] h = refl
none_found p (e ∷ db) h =
    elim (p e) as (λ b. cond b (Some e) (find p db) ≡ None → (not b && list_all (λ x. not (p x)) db) ≡ true) [ true ↦ λ some. cc | false ↦ λ rest. none_found p db rest ] h

pub not_missed : (b : Bool) → not b ≡ true → b ≡ false
not_missed true h = sym h
not_missed false h = refl

-- values for the clauses and the one that is added
abbrev Values : Clauses → List Literal → Type 0
Values db c = (w : ℕ → Bool) × (clause_true w c ≡ true) × (holds w db ≡ true)

module _ (v : ℕ → Bool) (db : Clauses) (all : holds v db ≡ true) where
  all_flipped : (a : List Literal) (agree : agrees v a ≡ true) (p : Literal) (gs : List Group) → judge_groups db a p gs ≡ None → (cs : Clauses) → Found db cs → holds v cs ≡ true → list_all (λ e. not (is_missed a p gs e)) cs ≡ true
      → holds (flipped v p) cs ≡ true
  all_flipped a agree p gs groups [] found h missed = refl
  all_flipped a agree p gs groups (e ∷ cs) found h missed =
      let parts = both (clause_true v e.lits) (holds v cs) h in
      let parts2 = both (not (is_missed a p gs e)) (list_all (λ x. not (is_missed a p gs x)) cs) missed in
      join _ _ (entry_true v db all a agree p gs e (ap (λ o. option_map (λ x. x.lits) o) found.0) parts.0 groups (not_missed (is_missed a p gs e) parts2.0))
      (all_flipped a agree p gs groups cs found.1 parts.1 parts2.1)

  by_pivot : (a : List Literal) → agrees v a ≡ true → Found db db → (lits : List Literal) (gs : List Group) → judge_pivot db a lits gs ≡ None → Values db lits
  by_pivot a agree found [] gs h = cc
  by_pivot a agree found (p ∷ lits) gs h =
      elim (judge_groups db a p gs) as (λ o. judge_groups db a p gs ≡ o → elim o as (λ _. Option Cause) [ Some cause ↦ Some cause | None ↦ judge_missing db a p gs ] ≡ None → Values db (p ∷ lits)) [
        | Some cause ↦ λ _ refused. cc
        | None ↦ λ groups rest. (
          flipped v p,
          either_left (literal_true (flipped v p) p) (clause_true (flipped v p) lits) (pivot_true v p),
          all_flipped a agree p gs groups db found all (none_found (is_missed a p gs) db (no_missing (find (is_missed a p gs) db) rest)),
        )
      ] refl h
    where
      no_missing : (o : Option Entry) → option_map (λ e. MissingGroup e.id) o ≡ None → o ≡ None
      no_missing None h = refl
      no_missing (Some e) h = cc

  opposite_true : (c : List Literal) → two_opposite c ≡ true → clause_true v c ≡ true
  opposite_true c h =
      let one = some_member (λ l. member c (negate l)) c h in
      elim (literal_true v one.0) as (λ b. literal_true v one.0 ≡ b → clause_true v c ≡ true) [
        | true ↦ λ t. member_any (literal_true v) c one.0 one.1 t
        | false ↦ λ f. member_any (literal_true v) c (negate one.0) one.2 (negated v one.0 ∙ ap not f)
      ] refl

  add_sound : Found db db → (id : ℕ) (lits : List Literal) (h : Hints) → judge_add db id lits h ≡ None → (is_some (clause_of db id) ≡ false) × Values db lits
  add_sound found id lits h none =
      elim (is_some (clause_of db id)) as (λ b. cond b (Some IdInUse) (cond (two_opposite lits) None (judge_first db lits h.groups (take_hints db (map negate lits) h.first))) ≡ None → (b ≡ false) × Values db lits) [
        | true ↦ λ used. cc
        | false ↦ λ rest. (
          refl,
          elim (clause_true v lits) as (λ t. clause_true v lits ≡ t → Values db lits) [
            | true ↦ λ t. (v, t, all)
            | false ↦ λ f.
                let agree = agrees_negated v lits f in
                elim (two_opposite lits) as (λ b. two_opposite lits ≡ b → cond b None (judge_first db lits h.groups (take_hints db (map negate lits) h.first)) ≡ None → Values db lits) [
                  | true ↦ λ opposite _. clash (clause_true v lits) (opposite_true lits opposite) f
                  | false ↦ λ _ first. elim (take_hints db (map negate lits) h.first) as (λ t. Good v t → judge_first db lits h.groups t ≡ None → Values db lits) [
                    | Conflict ↦ λ good _. absurd good
                    | Units a ↦ λ good rest. by_pivot a good found lits h.groups rest
                    | Stop cause ↦ λ _ stopped. cc
                  ] (hints_good v db all h.first (map negate lits) agree) first
                ] refl rest
          ] refl,
        )
      ] none

found_all : (db : Clauses) → RisingE 0 db → Found db db
found_all db rising = found_from [] db 0 (λ id h. refl) rising

-- A line that checks: values for what stands behind it, and a line of the empty clause never.
behind : (db : Clauses) (l : Line) (next : Clauses) → RisingE 0 db → judge db l ≡ Ok next → (v : ℕ → Bool) → holds v db ≡ true
    → RisingE 0 next × (is_last l ≡ false) × ((w : ℕ → Bool) × (holds w next ≡ true))
unfolding judge
behind db Skip next rising h v all = let e : db ≡ next = cc in (subst (λ (d : Clauses). RisingE 0 d) e rising, refl, (v, ap (holds v) (sym e) ∙ all))
behind db (Delete id ids) next rising h v all =
    let e : delete_clauses db ids ≡ next = cc in (
      subst (λ (d : Clauses). RisingE 0 d) e (rising_delete 0 (λ x. not (list_any (nat_eq x.id) ids)) db rising),
      refl,
      (v, ap (holds v) (sym e) ∙ holds_delete v (λ x. not (list_any (nat_eq x.id) ids)) db all),
    )
behind db (Add id lits hints) next rising h v all =
    elim (judge_add db id lits (split_hints hints)) as (λ o. judge_add db id lits (split_hints hints) ≡ o → added db id lits o ≡ Ok next → RisingE 0 next × (is_last (Add id lits hints) ≡ false) × ((w : ℕ → Bool) × (holds w next ≡ true))) [
      | Some cause ↦ λ _ refused. cc
      | None ↦ λ none adds.
          let e : add_clause db id lits ≡ next = cc in
          let sound = add_sound v db all (found_all db rising) id lits (split_hints hints) none in
          let w = sound.1 in (
            subst (λ (d : Clauses). RisingE 0 d) e (rising_add 0 db id lits (omega arith) (is_free db id sound.0) rising),
            nonempty lits w.0 w.1,
            (w.0, ap (holds w.0) (sym e) ∙ holds_add w.0 db id lits w.1 w.2),
          )
    ] refl h
  where
    nonempty : (lits : List Literal) (w : ℕ → Bool) → clause_true w lits ≡ true → is_last (Add id lits hints) ≡ false
    nonempty [] w t = absurd_bool t
    nonempty (l ∷ lits) w t = refl

no_values_from : (ls : List Line) (db : Clauses) → RisingE 0 db → checks_from db ls ≡ true → (v : ℕ → Bool) → holds v db ≡ true → false ≡ true
no_values_from [] db rising h v all = h
no_values_from (l ∷ ls) db rising h v all =
    elim (judge db l) as (λ r. judge db l ≡ r → elim r as (λ _. Bool) [ Err cause ↦ false | Ok next ↦ is_last l || checks_from next ls ] ≡ true → false ≡ true) [
      | Err cause ↦ λ _ refused. refused
      | Ok next ↦ λ is rest.
          let b = behind db l next rising is v all in
          no_values_from ls next b.0 (ap (λ t. t || checks_from next ls) (sym b.1) ∙ rest) b.2.0 b.2.1
    ] refl h

given_holds : (v : ℕ → Bool) (k : ℕ) (cs : List (List Literal)) → satisfies v cs ≡ holds v (given_from k cs)
given_holds v k [] = refl
given_holds v k (c ∷ cs) = ap (λ b. clause_true v c && b) (given_holds v (k + 1) cs)

given_rising : (k low : ℕ) (cs : List (List Literal)) → low ≤ k → RisingE low (given_from k cs)
given_rising k low [] h = tt
given_rising k low (c ∷ cs) h = (h, given_rising (k + 1) (k + 1) cs (omega arith))

-- Where the lines check, no values satisfy the clauses.
pub checks_refutes : (cs : List (List Literal)) (ls : List Line) → Checks cs ls → HaveNoValues cs
checks_refutes cs ls h v =
    elim (satisfies v cs) as (λ b. satisfies v cs ≡ b → b ≡ false) [
      | true ↦ λ all. sym (no_values_from ls (given cs) (given_rising 1 0 cs (omega arith)) h v (sym (given_holds v 1 cs) ∙ all))
      | false ↦ λ _. refl
    ] refl
