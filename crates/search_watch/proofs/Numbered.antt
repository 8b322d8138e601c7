-- Numbered clauses by their places.
use Rattle.std.proofs.Common.{◌≡◌, ◌≢◌, ℕ, zero, suc, ◌+◌, ◌<◌, Bool, true, false, not, ◌||◌, ◌==◌, cond, List, [], ◌∷◌, ◌++◌, length, get_or, refl, ap, sym, ◌∙◌, subst, inl, inr, arith}
use Rattle.std.specs.Prelude.{Some, None, Contains, is_none}
use Rattle.std.specs.List.{find, list_any}
use Rattle.std.specs.Option.{option_map}
use Rattle.std.specs.declared.option.Option.{Option}
use Rattle.std.proofs.lemmas.Bool.{cases_Bool}
use Rattle.std.proofs.lemmas.Bool.Decides.{nat_tests}
use Rattle.std.specs.Vec.{vec_len}
use Rattle.std.specs.declared.vec.Vec.{Vec}
use Rattle.std.specs.declared.alloc.Global.{Global}
use Rattle.sat_form.specs.Literals.{Literal}
use Rattle.search_learn.specs.declared.Step.{Step}
use Rattle.search_learn.specs.Machine.{Clause, numbered}
use Rattle.search_learn.specs.Trail.{clause_false, unit_literal}
use Rattle.search_watch.specs.declared.watch.UnitClause.{UnitClause}
use Rattle.search_watch.specs.Nets.{Net, IsNet}
use Rattle.search_watch.specs.Visits.{clause_at}
use Rattle.search_watch.specs.Watched.{IsAtMost}
use Rattle.search_watch.proofs.Begins.{unit-there}
use Rattle.search_watch.proofs.Exact.{IsConsistent}
use Rattle.search_watch.proofs.Found.{false-noted, unit-noted}

module _ (p : List Literal → Bool) where
  pub find-at : (k : ℕ) (cs : List (List Literal)) (j : ℕ) → j < length cs → p (get_or cs j []) ≡ true → ((i : ℕ) → i < j → p (get_or cs i []) ≡ false) → find (λ (c : Clause). p c.lits) (numbered k cs) ≡ Some (record { id = k + j; lits = get_or cs j [] })
  find-at k [] j low here before = absurd (omega arith)
  find-at k (c ∷ cs) zero low here before = ap (λ b. cond b (Some (record { id = k; lits = c })) (find (λ (x : Clause). p x.lits) (numbered (k + 1) cs))) here ∙ ap (λ (n : ℕ). Some (record { id = n; lits = c })) (add_none k)
    where
      add_none : (a : ℕ) → a ≡ a + 0
      add_none a = omega arith
  find-at k (c ∷ cs) (suc j) low here before =
      ap (λ b. cond b (Some (record { id = k; lits = c })) (find (λ (x : Clause). p x.lits) (numbered (k + 1) cs))) (before 0 (omega arith))
      ∙ find-at (k + 1) cs j (omega arith) here (λ i h. before (suc i) (omega arith))
      ∙ ap (λ (n : ℕ). Some (record { id = n; lits = get_or cs j [] })) (more k j)
    where
      more : (a b : ℕ) → a + 1 + b ≡ a + suc b
      more a b = omega arith

  pub find-none : (k : ℕ) (cs : List (List Literal)) → ((i : ℕ) → i < length cs → p (get_or cs i []) ≡ false) → find (λ (c : Clause). p c.lits) (numbered k cs) ≡ None
  find-none k [] none = refl
  find-none k (c ∷ cs) none =
      ap (λ b. cond b (Some (record { id = k; lits = c })) (find (λ (x : Clause). p x.lits) (numbered (k + 1) cs))) (none 0 (omega arith)) ∙ find-none (k + 1) cs (λ i h. none (suc i) (omega arith))

  pub any-none : (k : ℕ) (cs : List (List Literal)) → ((i : ℕ) → i < length cs → p (get_or cs i []) ≡ false) → list_any (λ (c : Clause). p c.lits) (numbered k cs) ≡ false
  any-none k [] none = refl
  any-none k (c ∷ cs) none = ap (λ b. b || list_any (λ (x : Clause). p x.lits) (numbered (k + 1) cs)) (none 0 (omega arith)) ∙ any-none (k + 1) cs (λ i h. none (suc i) (omega arith))

  pub any-at : (k : ℕ) (cs : List (List Literal)) (j : ℕ) → j < length cs → p (get_or cs j []) ≡ true → list_any (λ (c : Clause). p c.lits) (numbered k cs) ≡ true
  any-at k [] j low here = absurd (omega arith)
  any-at k (c ∷ cs) zero low here = ap (λ b. b || list_any (λ (x : Clause). p x.lits) (numbered (k + 1) cs)) here
  any-at k (c ∷ cs) (suc j) low here = elim (p c) as (λ b. (b || list_any (λ (x : Clause). p x.lits) (numbered (k + 1) cs)) ≡ true) [ true ↦ refl | false ↦ any-at (k + 1) cs j (omega arith) here ]

  -- What is found has a place.
  pub record HasPlace (k : ℕ) (cs : List (List Literal)) (c : Clause) : Type 0 where
    pub place : ℕ
    pub low : place < length cs
    pub id : c.id ≡ k + place
    pub lits : c.lits ≡ get_or cs place []
    pub passes : p c.lits ≡ true

  pub find-place : (k : ℕ) (cs : List (List Literal)) (c : Clause) → find (λ (x : Clause). p x.lits) (numbered k cs) ≡ Some c → HasPlace k cs c
  find-place k [] c is = absurd (cc)
  find-place k (l ∷ cs) c is = elim (p l) as (λ b. p l ≡ b → cond b (Some (record { id = k; lits = l })) (find (λ (x : Clause). p x.lits) (numbered (k + 1) cs)) ≡ Some c → HasPlace k (l ∷ cs) c) [
    | true ↦ λ here same.
        let e : ◌≡◌ {A = Clause} (record { id = k; lits = l }) c = cc in
        record { place = 0; low = omega arith; id = ap (λ (x : Clause). x.id) (sym e) ∙ add_none k; lits = ap (λ (x : Clause). x.lits) (sym e); passes = ap (λ (x : Clause). p x.lits) (sym e) ∙ here }
    | false ↦ λ _ same.
        let deep = find-place (k + 1) cs c same in
        let low = deep.low in
        let at = deep.id in
        record { place = suc deep.place; low = omega arith; id = omega arith; lits = deep.lits; passes = deep.passes }
  ] refl is
    where
      add_none : (a : ℕ) → a ≡ a + 0
      add_none a = omega arith

module _ (vars : ℕ) (t : List Step) (n : Net) (net : IsNet vars t [] n) (sound : IsConsistent t) where
  abbrev first_false : Option Clause
  first_false = find (λ (c : Clause). clause_false t c.lits) (numbered 1 n.clauses)

  least-first : (j : ℕ) → n.least ≡ Some j → first_false ≡ Some (record { id = 1 + j; lits = clause_at n.clauses j })
  least-first j is = find-at (clause_false t) 1 n.clauses j (net.least_low j is) (net.sound.least_is j is) (λ i low. elim (cases_Bool (clause_false t (clause_at n.clauses i))) as (λ _. clause_false t (clause_at n.clauses i) ≡ false) [
    | inr h ↦ h
    | inl wrong ↦ let inside = net.least_low j is in let most = subst (λ (o : Option ℕ). IsAtMost o i) is (false-noted vars t n net sound i (omega arith) wrong) in absurd (omega arith)
  ])

  pub least-found : (j : ℕ) → n.least ≡ Some j → Some (j + 1) ≡ option_map (λ (c : Clause). c.id) first_false
  least-found j is = ap (λ (k : ℕ). Some k) (turned j) ∙ sym (ap (option_map (λ (c : Clause). c.id)) (least-first j is))
    where
      turned : (a : ℕ) → a + 1 ≡ 1 + a
      turned a = omega arith

  none-first : n.least ≡ None → first_false ≡ None
  none-first is = find-none (clause_false t) 1 n.clauses (λ i low. elim (cases_Bool (clause_false t (clause_at n.clauses i))) as (λ _. clause_false t (clause_at n.clauses i) ≡ false) [
    | inr h ↦ h
    | inl wrong ↦ absurd (subst (λ (o : Option ℕ). IsAtMost o i) is (false-noted vars t n net sound i low wrong))
  ])

  pub none-found : n.least ≡ None → first_false ≡ None
  none-found is = none-first is

  pub least-none : first_false ≡ None → n.least ≡ None
  least-none is = from n.least refl
    where
      from : (o : Option ℕ) → n.least ≡ o → n.least ≡ None
      from None e = e
      from (Some j) e = absurd (cc (is, least-first j e))

  pub units-none : n.least ≡ None → n.units ≡ [] → list_any (λ (c : Clause). not (is_none (unit_literal t c.lits))) (numbered 1 n.clauses) ≡ false
  units-none quiet none = any-none (λ c. not (is_none (unit_literal t c))) 1 n.clauses (λ i low. each i (unit_literal t (clause_at n.clauses i)) refl)
    where
      each : (i : ℕ) (o : Option Literal) → unit_literal t (clause_at n.clauses i) ≡ o → not (is_none (unit_literal t (clause_at n.clauses i))) ≡ false
      each i None e = ap (λ (x : Option Literal). not (is_none x)) e
      each i (Some l) e = let h = subst (λ (us : List UnitClause). Contains us (record { clause = i; lit = l })) none (unit-noted vars t n net sound i l e quiet) in absurd (omega (arith, h.1))

  pub units-some : (u : UnitClause) → Contains n.units u → list_any (λ (c : Clause). not (is_none (unit_literal t c.lits))) (numbered 1 n.clauses) ≡ true
  units-some u h =
      let is = net.sound.units_are u h in
      any-at (λ c. not (is_none (unit_literal t c))) 1 n.clauses u.clause (unit-there t n.clauses u.clause u.lit is) (ap (λ (x : Option Literal). not (is_none x)) is)

  -- no unit clause was found where there is none
  pub none-unit : list_any (λ (c : Clause). not (is_none (unit_literal t c.lits))) (numbered 1 n.clauses) ≡ false → n.units ≡ []
  none-unit none = from n.units refl
    where
      from : (us : List UnitClause) → n.units ≡ us → n.units ≡ []
      from [] e = e
      from (u ∷ us) e = absurd (cc (none, units-some u (subst (λ (xs : List UnitClause). Contains xs u) (sym e) (0, omega arith, refl))))

-- A list that isn't empty has a member.
pub one-of : (us : List UnitClause) → us ≢ [] → (u : UnitClause) × Contains us u
one-of [] some = absurd (some refl)
one-of (u ∷ us) some = (u, (0, omega arith, refl))

none-length : (us : List UnitClause) → length us ≡ 0 → us ≡ []
none-length [] e = refl
none-length (u ∷ us) e = absurd (omega (arith, e))

pub vec-none : (v : Vec UnitClause Global) → true ≡ (vec_len v == 0) → v.items ≡ []
vec-none v h = let size = v.ok.0 in let e : v.len ≡ 0 = grind (arith, nat_tests) in none-length v.items (omega arith)

pub vec-some : (v : Vec UnitClause Global) → false ≡ (vec_len v == 0) → v.items ≢ []
vec-some v h = λ e. let size = v.ok.0 in let none : length v.items ≡ 0 = ap length e in let e2 : v.len ≡ 0 = omega arith in absurd (cc (h, ap (λ (n : ℕ). n == 0) e2))

-- A clause more.
pub numbered-push : (k : ℕ) (cs : List (List Literal)) (c : List Literal) (id : ℕ) → id ≡ k + length cs → numbered k (cs ++ c ∷ []) ≡ numbered k cs ++ record { id = id; lits = c } ∷ []
numbered-push k [] c id h = let e : k ≡ id = omega arith in ap (λ (n : ℕ). record { id = n; lits = c } ∷ []) e
numbered-push k (x ∷ cs) c id h = ap (λ (l : List Clause). record { id = k; lits = x } ∷ l) (numbered-push (k + 1) cs c id (omega arith))
