-- The entries of the map, as the clauses by id.
use Rattle.std.proofs.Common.{◌≡◌, ℕ, ◌<◌, ◌≤◌, Bool, true, false, not, ◌||◌, cond, List, [], ◌∷◌, map, refl, ap, sym, ◌∙◌, arith, nat_eq, nat_lt, Vec}
use Rattle.std.specs.Prelude.{Some, None}
use Rattle.std.specs.Option.{option_map}
use Rattle.std.specs.declared.option.Option.{Option}
use Rattle.std.specs.declared.cmp.Ordering.TheVariants.{Less, Equal, Greater}
use Rattle.std.specs.Ordering.{nat_cmp, is_eq, match_ordering}
use Rattle.std.specs.Cmp.{nat_cmp_is}
use Rattle.std.specs.List.{filter, find, list_any, AllByRecursion}
use Rattle.std.specs.List.Sorted.{IsStrictlySortedBy}
use Rattle.std.specs.Map.{lookup, remove_entry, keys_of}
use Rattle.std.specs.BTreeMap.{insert_entry, is_at}
use Rattle.std.proofs.lemmas.Grind.{common_steps}
use Rattle.sat_form.specs.Literals.{Literal}
use Rattle.lrat_lines.specs.Judge.{Clauses, Entry, clause_of, add_clause, delete_clauses}
use borrow.Author.Tests.{ltb-true, ltb-false}
use Rattle.sat_form.proofs.Sets.{nat_is}

-- how two numbers compare
pub data Compared (x y : ℕ) : Type 0 where
  Below : nat_cmp x y ≡ Less → nat_lt x y ≡ true → nat_eq y x ≡ false → Compared x y
  Same : nat_cmp x y ≡ Equal → nat_lt x y ≡ false → nat_eq y x ≡ true → Compared x y
  Above : nat_cmp x y ≡ Greater → nat_lt x y ≡ false → nat_eq y x ≡ false → Compared x y

differ : (x y : ℕ) → y ≤ x → nat_eq y x ≡ false → y < x
differ x y h e = grind (arith, common_steps)

pub compared : (x y : ℕ) → Compared x y
compared x y =
    elim (nat_lt x y) as (λ b. nat_lt x y ≡ b → Compared x y) [
      | true ↦ (λ e. let h : x < y = ltb-true x y e in Below (sym (nat_cmp_is x y Less h)) e (grind (arith, common_steps)))
      | false ↦ (λ e. let h : y ≤ x = ltb-false x y e in
          elim (nat_eq y x) as (λ b. nat_eq y x ≡ b → Compared x y) [
            | true ↦ (λ f. let q : x ≡ y = sym (nat_is y x f) in Same (sym (nat_cmp_is x y Equal q)) e f)
            | false ↦ (λ f. let q : y < x = differ x y h f in Above (sym (nat_cmp_is x y Greater q)) e f)
          ] refl)
    ] refl

abbrev pub entries : {Y : Type 0} → List (ℕ × Vec Literal Y) → Clauses
entries es = map (λ e. record { id = e.0; lits = e.1.items }) es

pub get_entry : {Y : Type 0} (es : List (ℕ × Vec Literal Y)) (id : ℕ) → option_map (λ v. v.items) (lookup (is_at (nat_cmp id)) es) ≡ clause_of (entries es) id
get_entry [] id = refl
get_entry (e ∷ es) id = elim (compared id e.0) [
  | Below c l q ↦ ap (λ o. option_map (λ v. v.items) (cond (is_eq o) (Some e.1) (lookup (is_at (nat_cmp id)) es))) c ∙ get_entry es id ∙ sym (ap (λ b. option_map (λ x. x.lits) (cond b (Some (record { id = e.0; lits = e.1.items })) (find (λ x. nat_eq x.id id) (entries es)))) q)
  | Same c l q ↦ ap (λ o. option_map (λ v. v.items) (cond (is_eq o) (Some e.1) (lookup (is_at (nat_cmp id)) es))) c ∙ sym (ap (λ b. option_map (λ x. x.lits) (cond b (Some (record { id = e.0; lits = e.1.items })) (find (λ x. nat_eq x.id id) (entries es)))) q)
  | Above c l q ↦ ap (λ o. option_map (λ v. v.items) (cond (is_eq o) (Some e.1) (lookup (is_at (nat_cmp id)) es))) c ∙ get_entry es id ∙ sym (ap (λ b. option_map (λ x. x.lits) (cond b (Some (record { id = e.0; lits = e.1.items })) (find (λ x. nat_eq x.id id) (entries es)))) q)
]

abbrev found_at : {Y : Type 0} → ℕ × Vec Literal Y → List (ℕ × Vec Literal Y) → ℕ → Bool → Option (List Literal)
found_at e es id b = option_map (λ x. x.lits) (cond b (Some (record { id = e.0; lits = e.1.items })) (find (λ x. nat_eq x.id id) (entries es)))

pub insert_entries : {Y : Type 0} (es : List (ℕ × Vec Literal Y)) (id : ℕ) (v : Vec Literal Y) → clause_of (entries es) id ≡ None → entries (insert_entry nat_cmp es id v) ≡ add_clause (entries es) id v.items
insert_entries [] id v h = refl
insert_entries (e ∷ es) id v h = elim (compared id e.0) [
  | Below c l q ↦ ap (λ o. entries (match_ordering o ((id, v) ∷ e ∷ es) ((e.0, v) ∷ es) (e ∷ insert_entry nat_cmp es id v))) c ∙ sym (ap (λ b. cond b (record { id = id; lits = v.items } ∷ entries (e ∷ es)) (record { id = e.0; lits = e.1.items } ∷ add_clause (entries es) id v.items)) l)
  | Same c l q ↦ absurd (let w : Some e.1.items ≡ None = sym (ap (found_at e es id) q) ∙ h in cc)
  | Above c l q ↦
      let n : clause_of (entries es) id ≡ None = sym (ap (found_at e es id) q) ∙ h in
      ap (λ o. entries (match_ordering o ((id, v) ∷ e ∷ es) ((e.0, v) ∷ es) (e ∷ insert_entry nat_cmp es id v))) c
      ∙ ap (λ r. record { id = e.0; lits = e.1.items } ∷ r) (insert_entries es id v n)
      ∙ sym (ap (λ b. cond b (record { id = id; lits = v.items } ∷ entries (e ∷ es)) (record { id = e.0; lits = e.1.items } ∷ add_clause (entries es) id v.items)) l)
]

-- without one id
abbrev pub without_id : Clauses → ℕ → Clauses
without_id db id = filter (λ e. not (nat_eq e.id id)) db

all_kept : {Y : Type 0} (es : List (ℕ × Vec Literal Y)) (id k : ℕ) → nat_eq k id ≡ true → AllByRecursion (λ y. nat_cmp k y ≡ Less) (keys_of es) → without_id (entries es) id ≡ entries es
all_kept [] id k q h = refl
all_kept (e ∷ es) id k q h = elim (compared k e.0) [
  | Below c l r ↦
      let f : nat_eq e.0 id ≡ false = grind (arith, common_steps, nat_is k id q) in
      ap (λ b. cond (not b) (record { id = e.0; lits = e.1.items } ∷ without_id (entries es) id) (without_id (entries es) id)) f ∙ ap (λ r. record { id = e.0; lits = e.1.items } ∷ r) (all_kept es id k q h.1)
  | Same c l r ↦ absurd (let w : Equal ≡ Less = sym c ∙ h.0 in cc)
  | Above c l r ↦ absurd (let w : Greater ≡ Less = sym c ∙ h.0 in cc)
]

pub remove_entries : {Y : Type 0} (es : List (ℕ × Vec Literal Y)) (id : ℕ) → IsStrictlySortedBy nat_cmp (keys_of es) → entries (remove_entry (is_at (nat_cmp id)) es) ≡ without_id (entries es) id
unfolding IsStrictlySortedBy
remove_entries [] id h = refl
remove_entries (e ∷ es) id h = elim (compared id e.0) [
  | Below c l q ↦
      ap (λ o. entries (cond (is_eq o) es (e ∷ remove_entry (is_at (nat_cmp id)) es))) c ∙ ap (λ r. record { id = e.0; lits = e.1.items } ∷ r) (remove_entries es id h.1)
      ∙ sym (ap (λ b. cond (not b) (record { id = e.0; lits = e.1.items } ∷ without_id (entries es) id) (without_id (entries es) id)) q)
  | Same c l q ↦
      ap (λ o. entries (cond (is_eq o) es (e ∷ remove_entry (is_at (nat_cmp id)) es))) c
      ∙ sym (ap (λ b. cond (not b) (record { id = e.0; lits = e.1.items } ∷ without_id (entries es) id) (without_id (entries es) id)) q ∙ all_kept es id e.0 q h.0)
  | Above c l q ↦
      ap (λ o. entries (cond (is_eq o) es (e ∷ remove_entry (is_at (nat_cmp id)) es))) c ∙ ap (λ r. record { id = e.0; lits = e.1.items } ∷ r) (remove_entries es id h.1)
      ∙ sym (ap (λ b. cond (not b) (record { id = e.0; lits = e.1.items } ∷ without_id (entries es) id) (without_id (entries es) id)) q)
]

delete_at : (e : Entry) (db : Clauses) (id : ℕ) (ids : List ℕ) → delete_clauses db (id ∷ ids) ≡ delete_clauses (without_id db id) ids → (b : Bool) → nat_eq e.id id ≡ b → delete_clauses (e ∷ db) (id ∷ ids) ≡ delete_clauses (without_id (e ∷ db) id) ids
delete_at e db id ids ih true q =
    ap (λ b. cond (not (b || list_any (nat_eq e.id) ids)) (e ∷ delete_clauses db (id ∷ ids)) (delete_clauses db (id ∷ ids))) q ∙ ih
    ∙ sym (ap (λ b. delete_clauses (cond (not b) (e ∷ without_id db id) (without_id db id)) ids) q)
delete_at e db id ids ih false q =
    ap (λ b. cond (not (b || list_any (nat_eq e.id) ids)) (e ∷ delete_clauses db (id ∷ ids)) (delete_clauses db (id ∷ ids))) q
    ∙ ap (λ r. cond (not (list_any (nat_eq e.id) ids)) (e ∷ r) r) ih
    ∙ sym (ap (λ b. delete_clauses (cond (not b) (e ∷ without_id db id) (without_id db id)) ids) q)

pub delete_step : (db : Clauses) (id : ℕ) (ids : List ℕ) → delete_clauses db (id ∷ ids) ≡ delete_clauses (without_id db id) ids
delete_step [] id ids = refl
delete_step (e ∷ db) id ids = delete_at e db id ids (delete_step db id ids) (nat_eq e.id id) refl

pub delete_none : (db : Clauses) → delete_clauses db [] ≡ db
delete_none [] = refl
delete_none (e ∷ db) = ap (λ r. e ∷ r) (delete_none db)
