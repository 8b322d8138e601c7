-- A round: putting the unit clauses that were found is putting those that the definition names.
use Rattle.std.proofs.Common.{◌≡◌, ◌≢◌, ◌⊎◌, ℕ, zero, suc, ◌+◌, ◌-◌, ◌<◌, ◌≤◌, Bool, true, false, List, [], ◌∷◌, ◌++◌, length, get_or, cond, refl, ap, sym, ◌∙◌, subst, inl, inr, arith}
use Rattle.std.specs.Prelude.{Some, None, Contains}
use Rattle.std.proofs.lemmas.Bool.{cases_eq}
use Rattle.sat_form.specs.Literals.{Literal}
use Rattle.sat_form.proofs.Sets as sets
use Rattle.search_learn.specs.declared.Step.{Step}
use Rattle.search_learn.specs.Cases.{put_entries, put_one, unit_entries, unit_entry}
use Rattle.search_learn.specs.Machine.{State, assign, numbered}
use Rattle.search_learn.specs.Trail.{is_assigned, unit_literal}
use Rattle.search_learn.proofs.Entries.{assigned_last}
use Rattle.search_watch.specs.declared.watch.UnitClause.{UnitClause}
use Rattle.search_watch.specs.RoundUnits.{AreRising, entries, entry}

-- Members of a list, the first one apart.
pub has-first : {X : Type 0} (x : X) (xs : List X) → Contains (x ∷ xs) x
has-first x xs = (0, omega arith, refl)

pub has-later : {X : Type 0} (x y : X) (xs : List X) → Contains xs y → Contains (x ∷ xs) y
has-later x y xs h = let low = h.1 in (suc h.0, omega arith, h.2)

pub first-or_later : {X : Type 0} (x y : X) (xs : List X) → Contains (x ∷ xs) y → (x ≡ y) ⊎ Contains xs y
first-or_later x y xs (zero, low, is) = inl is
first-or_later x y xs (suc k, low, is) = inr (k, omega arith, is)

-- rising along the list
abbrev pub RisingFrom : ℕ → List UnitClause → Type 0
RisingFrom low [] = Unit {0}
RisingFrom low (u ∷ us) = (low ≤ u.clause) × RisingFrom u.clause us

pub rising-list : (low : ℕ) (us : List UnitClause) → ((j : ℕ) (d : UnitClause) → j < length us → low ≤ (get_or us j d).clause) → AreRising us → RisingFrom low us
rising-list low [] above rising = tt
rising-list low (u ∷ us) above rising = (above 0 u (omega arith), rising-list u.clause us (λ j d h. rising 0 (suc j) d (omega arith) (omega arith)) (λ i j d h l. rising (suc i) (suc j) d (omega arith) (omega arith)))

rising-low : (low : ℕ) (us : List UnitClause) (u : UnitClause) → RisingFrom low us → Contains us u → low ≤ u.clause
rising-low low [] u rising h = absurd (omega (arith, h.1))
rising-low low (v ∷ us) u rising h = elim (first-or_later v u us h) [
  | inl e ↦ subst (λ (x : UnitClause). low ≤ x.clause) e rising.0
  | inr later ↦ let a = rising.0 in let b = rising-low v.clause us u rising.1 later in omega arith
]

-- What is left of the units behind those of a place, of which one was put.
record IsPassed (d place : ℕ) (us : List UnitClause) (m : State) : Type 0 where
  rest : List UnitClause
  same : put_entries (entries d us) m ≡ put_entries (entries d rest) m
  rising : RisingFrom (place + 1) rest
  from : (u : UnitClause) → Contains rest u → Contains us u
  all : (u : UnitClause) → Contains us u → u.clause ≢ place → Contains rest u

passes : (d place : ℕ) (us : List UnitClause) (l : Literal) (m : State) → RisingFrom place us → ((u : UnitClause) → Contains us u → u.clause ≡ place → u.lit ≡ l) → is_assigned m.trail l ≡ true → IsPassed d place us m
passes d place [] l m rising lits is = record { rest = []; same = refl; rising = tt; from = λ u h. h; all = λ u h _. h }
passes d place (u ∷ us) l m rising lits is = elim (cases_eq u.clause place) [
  | inl e ↦
      let lit : u.lit ≡ l = lits u (has-first u us) e in
      let more : RisingFrom place us = subst (λ (n : ℕ). RisingFrom n us) e rising.1 in
      let deep = passes d place us l m more (λ v h. lits v (has-later u v us h)) is in
      let skipped : put_one m (entry d u) ≡ m = ap (λ (b : Bool). cond b m (assign m (entry d u))) (subst (λ (x : Literal). is_assigned m.trail x ≡ true) (sym lit) is) in
      record {
        rest = deep.rest;
        same = ap (put_entries (entries d us)) skipped ∙ deep.same;
        rising = deep.rising;
        from = λ v h. has-later u v us (deep.from v h);
        all = λ v h other. elim (first-or_later u v us h) [ inl f ↦ absurd (other (sym (ap (λ (x : UnitClause). x.clause) f) ∙ e)) | inr later ↦ deep.all v later other ];
      }
  | inr other ↦
      let low = rising.0 in
      record { rest = u ∷ us; same = refl; rising = (omega arith, rising.1); from = λ v h. h; all = λ v h _. h }
]

pub put-assigned : (m : State) (e : Step) → is_assigned (put_one m e).trail e.lit ≡ true
put-assigned m e = elim (is_assigned m.trail e.lit) as (λ b. is_assigned m.trail e.lit ≡ b → is_assigned (cond b m (assign m e)).trail e.lit ≡ true) [
  | true ↦ λ is. is
  | false ↦ λ _. sets.either_left _ _ (assigned_last m.trail e)
] refl

module _ (t : List Step) (d : ℕ) where
  -- what the units have to be: those of the clauses from a place on
  pub record AreUnits (place : ℕ) (cs : List (List Literal)) (us : List UnitClause) : Type 0 where
    pub rising : RisingFrom place us
    pub are : (u : UnitClause) → Contains us u → unit_literal t (get_or cs (u.clause - place) []) ≡ Some u.lit
    pub all : (i : ℕ) (l : Literal) → i < length cs → unit_literal t (get_or cs i []) ≡ Some l → Contains us (record { clause = place + i; lit = l })

  place-behind : (cs : List (List Literal)) (c : List Literal) (n place : ℕ) → place + 1 ≤ n → get_or (c ∷ cs) (n - place) [] ≡ get_or cs (n - (place + 1)) []
  place-behind cs c n place low = let e : n - place ≡ suc (n - (place + 1)) = omega arith in ap (λ (k : ℕ). get_or (c ∷ cs) k []) e

  at-place : (cs : List (List Literal)) (c : List Literal) (n place : ℕ) → n ≡ place → unit_literal t (get_or (c ∷ cs) (n - place) []) ≡ unit_literal t c
  at-place cs c n place e = let z : n - place ≡ 0 = omega arith in ap (λ (k : ℕ). unit_literal t (get_or (c ∷ cs) k [])) z

  lit-here : (cs : List (List Literal)) (c : List Literal) (place : ℕ) (us : List UnitClause) (l : Literal) (u : UnitClause) → unit_literal t c ≡ Some l → AreUnits place (c ∷ cs) us → Contains us u → u.clause ≡ place → u.lit ≡ l
  lit-here cs c place us l u some are h e = let is = are.are u h in let here = at-place cs c u.clause place e in cc

  unit-here : (cs : List (List Literal)) (c : List Literal) (place : ℕ) (us : List UnitClause) (m : State) (l : Literal) → unit_literal t c ≡ Some l → AreUnits place (c ∷ cs) us
      → ((vs : List UnitClause) (n : State) → AreUnits (place + 1) cs vs → put_entries (entries d vs) n ≡ put_entries (unit_entries t d (numbered (place + 1 + 1) cs)) n)
      → put_entries (entries d us) m ≡ put_entries (unit_entry d (place + 1) (Some l) ++ unit_entries t d (numbered (place + 1 + 1) cs)) m
  unit-here cs c place [] m l some are next = let h = are.all 0 l (omega arith) some in absurd (omega (arith, h.1))
  unit-here cs c place (u ∷ vs) m l some are next =
      let w : UnitClause = record { clause = place + 0; lit = l } in
      let low = are.rising.0 in
      let high : u.clause ≤ place = elim (first-or_later u w vs (are.all 0 l (omega arith) some)) [
        | inl e ↦ let f : u.clause ≡ place + 0 = ap (λ (x : UnitClause). x.clause) e in omega arith
        | inr later ↦ let f = rising-low u.clause vs w are.rising.1 later in omega arith
      ] in
      let at : u.clause ≡ place = omega arith in
      let lit = lit-here cs c place (u ∷ vs) l u some are (has-first u vs) at in
      let m2 = put_one m (entry d u) in
      let e : Step = record { lit = l; level = d; reason = place + 1 } in
      let same : entry d u ≡ e = λ i. record { lit = lit i; level = d; reason = at i + 1 } in
      let passed = passes d place vs l m2 (subst (λ (n : ℕ). RisingFrom n vs) at are.rising.1) (λ v h f. lit-here cs c place (u ∷ vs) l v some are (has-later u v vs h) f)
      (subst (λ (x : Literal). is_assigned m2.trail x ≡ true) lit (put-assigned m (entry d u))) in
      passed.same
      ∙ next passed.rest m2 (record {
        rising = passed.rising;
        are = λ v h. ap (unit_literal t) (sym (place-behind cs c v.clause place (rising-low (place + 1) passed.rest v passed.rising h))) ∙ are.are v (has-later u v vs (passed.from v h));
        all = λ i k inside is.
            let x : UnitClause = record { clause = place + suc i; lit = k } in
            let there : Contains vs x = elim (first-or_later u x vs (are.all (suc i) k (omega arith) is)) [ inl f ↦ let g : u.clause ≡ place + suc i = ap (λ (y : UnitClause). y.clause) f in absurd (omega arith) | inr later ↦ later ] in
            subst (λ (n : ℕ). Contains passed.rest (record { clause = n; lit = k })) (omega arith) (passed.all x there (omega arith));
      })
      ∙ ap (λ (x : Step). put_entries (unit_entries t d (numbered (place + 1 + 1) cs)) (put_one m x)) same

  pub units-put : (cs : List (List Literal)) (place : ℕ) (us : List UnitClause) (m : State) → AreUnits place cs us → put_entries (entries d us) m ≡ put_entries (unit_entries t d (numbered (place + 1) cs)) m
  units-put [] place [] m are = refl
  units-put [] place (u ∷ us) m are = absurd (cc (are.are u (has-first u us)))
  units-put (c ∷ cs) place us m are = elim (unit_literal t c) as (λ o. unit_literal t c ≡ o → put_entries (entries d us) m ≡ put_entries (unit_entry d (place + 1) o ++ unit_entries t d (numbered (place + 1 + 1) cs)) m) [
    | None ↦ λ none.
        let behind : (u : UnitClause) → Contains us u → place + 1 ≤ u.clause =
        λ u h. elim (cases_eq u.clause place) [
          | inl e ↦ absurd (cc (none, sym (at-place cs c u.clause place e), are.are u h))
          | inr other ↦ let low = rising-low place us u are.rising h in omega arith
        ] in
        units-put cs (place + 1) us m (record {
          rising = raised us are.rising behind;
          are = λ u h. ap (unit_literal t) (sym (place-behind cs c u.clause place (behind u h))) ∙ are.are u h;
          all = λ i l low is. subst (λ (n : ℕ). Contains us (record { clause = n; lit = l })) (omega arith) (are.all (suc i) l (omega arith) is);
        })
    | Some l ↦ λ some. unit-here cs c place us m l some are (λ vs n next. units-put cs (place + 1) vs n next)
  ] refl
    where
      raised : (vs : List UnitClause) → RisingFrom place vs → ((u : UnitClause) → Contains vs u → place + 1 ≤ u.clause) → RisingFrom (place + 1) vs
      raised [] rising behind = tt
      raised (v ∷ vs) rising behind = (behind v (has-first v vs), rising.1)
