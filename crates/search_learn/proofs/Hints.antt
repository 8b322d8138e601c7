-- The hints of a lesson are earlier ids.
use Rattle.std.proofs.Common.{◌≡◌, ℕ, ◌+◌, ◌<◌, ◌≤◌, Bool, true, false, ◌&&◌, cond, nat_eq, nat_lt, List, [], ◌∷◌, ◌++◌, refl, ap, ◌∙◌, arith}
use Rattle.std.specs.Prelude.{Some}
use Rattle.std.specs.List.{list_all, find}
use Rattle.std.specs.Option.{option_map_or}
use Rattle.std.proofs.lemmas.Grind.{common_steps}
use Rattle.sat_form.specs.Literals.{Literal, member, set_of}
use Rattle.sat_form.specs.Assignment.{is_false, clause_false}
use Rattle.search_learn.specs.declared.Step.{Step}
use Rattle.search_learn.specs.Trail.{assigned, level}
use Rattle.search_learn.specs.Rule.{Continues}
use Rattle.search_learn.specs.Analysis.{Resolved, is_resolved, resolve_if, resolve_back, lesson}
use Rattle.search_learn.specs.Machine.{Clause, State, clause_at, false_clause, next_id}
use Rattle.sat_form.proofs.Sets.{both, join, absurd_bool, member_of_unit, member_all, set_of_member}
use Rattle.search_learn.proofs.Entries.{AreReasoned}
use Rattle.search_learn.proofs.Decisions.{are_reasoned}
use Rattle.search_learn.proofs.Keeps.{Kept, Rising}
use Rattle.search_learn.proofs.Lessons.{found_here}

pub rising_end : (low high : ℕ) (cs : List Clause) → Rising low high cs → low ≤ high
rising_end low high [] h = h
rising_end low high (c ∷ cs) h = let a = h.0 in let b = rising_end (c.id + 1) high cs h.1 in omega arith

-- A clause with a literal has one of the ids.
id_there : (low high : ℕ) (cs : List Clause) (id : ℕ) (l : Literal) → Rising low high cs → member (clause_at cs id) l ≡ true → (low ≤ id) × (id < high)
id_there low high [] id l rising has = absurd_bool has
id_there low high (c ∷ cs) id l rising has =
    let a = rising.0 in
    let b = rising_end (c.id + 1) high cs rising.1 in
    elim (nat_eq c.id id) as (λ t. nat_eq c.id id ≡ t → member (option_map_or (λ (x : Clause). x.lits) (cond t (Some c) (find (λ x. nat_eq x.id id) cs)) []) l ≡ true → (low ≤ id) × (id < high)) [
      | true ↦ λ is _. let e = equal c.id id is in (omega arith, omega arith)
      | false ↦ λ _ later. let deep = id_there (c.id + 1) high cs id l rising.1 later in let x = deep.0 in let y = deep.1 in (omega arith, omega arith)
    ] refl has
  where
    equal : (m n : ℕ) → nat_eq m n ≡ true → m ≡ n
    equal m n h = grind (arith, common_steps)

used_pass : (p : ℕ → Bool) (lits_of : ℕ → List Literal) (vars : ℕ) (trail : List Step) (d : ℕ) (start : Resolved) → ((id : ℕ) (l : Literal) → member (lits_of id) l ≡ true → p id ≡ true) → list_all p start.used ≡ true
    → (before later : List Step) → Continues lits_of vars before later → AreReasoned lits_of trail d start later → list_all p (resolve_back lits_of trail d start later).used ≡ true
used_pass p lits_of vars trail d start there first before [] cont reasoned = first
used_pass p lits_of vars trail d start there first before (e ∷ later) cont reasoned =
    let r = resolve_back lits_of trail d start later in
    let deep = used_pass p lits_of vars trail d start there first (before ++ e ∷ []) later cont.1 reasoned.1 in
    elim (is_resolved lits_of trail d r.lits e) as (λ t. is_resolved lits_of trail d r.lits e ≡ t → list_all p (resolve_if lits_of trail d t r e).used ≡ true) [
      | true ↦ λ resolved. join _ _ (there e.reason e.lit (member_of_unit (assigned before) (lits_of e.reason) e.lit (cont.0.implied (reasoned.0 resolved)))) deep
      | false ↦ λ _. deep
    ] refl

all_last : (p : ℕ → Bool) (xs : List ℕ) (x : ℕ) → list_all p xs ≡ true → p x ≡ true → list_all p (xs ++ x ∷ []) ≡ true
all_last p [] x h here = join _ _ here refl
all_last p (y ∷ xs) x h here = let parts = both (p y) (list_all p xs) h in join _ _ parts.0 (all_last p xs x parts.1 here)

found_id : (p : Clause → Bool) (low high : ℕ) (cs : List Clause) (c : Clause) → Rising low high cs → find p cs ≡ Some c → (low ≤ c.id) × (c.id < high)
found_id p low high [] c rising found = cc
found_id p low high (x ∷ cs) c rising found =
    let a = rising.0 in
    let b = rising_end (x.id + 1) high cs rising.1 in
    elim (p x) as (λ t. cond t (Some x) (find p cs) ≡ Some c → (low ≤ c.id) × (c.id < high)) [
      | true ↦ λ here. let e : x ≡ c = cc in let i = ap (λ (y : Clause). y.id) e in (omega arith, omega arith)
      | false ↦ λ later. let deep = found_id p (x.id + 1) high cs c rising.1 later in let y = deep.0 in let z = deep.1 in (omega arith, omega arith)
    ] found

abbrev pub is_earlier : ℕ → ℕ → Bool
is_earlier id h = nat_lt 0 h && nat_lt h id

earlier : (id h : ℕ) → 1 ≤ h → h < id → is_earlier id h ≡ true
earlier id h a b = join _ _ (below 0 h a) (below h id b)
  where
    below : (m n : ℕ) → m < n → nat_lt m n ≡ true
    below m n h = grind (arith, common_steps)

pub hints_earlier : (m : State) (c : Clause) → Kept m → false_clause m ≡ Some c → list_all (is_earlier (next_id m)) (lesson (clause_at m.clauses) m.trail (level m.trail) c.id).hints ≡ true
hints_earlier m c kept found =
    let here = found_here m c kept found in
    let lits_of = clause_at m.clauses in
    let lits : lits_of c.id ≡ c.lits = ap (λ o. option_map_or (λ (x : Clause). x.lits) o []) here.0.found in
    let start : Resolved = record { lits = set_of (lits_of c.id); used = [] } in
    let all : (k : Literal) → member start.lits k ≡ true → is_false (assigned m.trail) k ≡ true =
    λ k one. member_all (is_false (assigned m.trail)) (lits_of c.id) k (ap (clause_false (assigned m.trail)) lits ∙ here.1) (set_of_member (lits_of c.id) k one) in
    let reasoned = are_reasoned lits_of m.vars m.trail (level m.trail) start [] m.trail refl kept.is_trail (λ k none. absurd_bool none) refl all in
    let used = used_pass (is_earlier (next_id m)) lits_of m.vars m.trail (level m.trail) start
    (λ id l has. let range = id_there 1 (next_id m) m.clauses id l kept.rising has in earlier (next_id m) id range.0 range.1) refl [] m.trail kept.is_trail reasoned in
    let own = found_id (λ x. clause_false (assigned m.trail) x.lits) 1 (next_id m) m.clauses c kept.rising found in
    all_last (is_earlier (next_id m)) (resolve_back lits_of m.trail (level m.trail) start m.trail).used c.id used (earlier (next_id m) c.id own.0 own.1)
