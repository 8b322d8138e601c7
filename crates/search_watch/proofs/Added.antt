-- A clause is added.
use Rattle.std.proofs.Common.{◌≡◌, ◌≢◌, ◌⊎◌, ℕ, ◌+◌, ◌<◌, ◌≤◌, true, List, [], ◌∷◌, ◌++◌, length, get_or, refl, ap, sym, ◌∙◌, subst, inl, inr, arith}
use Rattle.std.specs.Prelude.{Some, Contains}
use Rattle.std.specs.List.{All}
use Rattle.std.proofs.lemmas.Bool.{cases_eq, cases_lt}
use Rattle.std.proofs.lemmas.List.{get_or_append_left, get_or_past, length-append}
use Rattle.sat_form.specs.Literals.{Literal, member}
use Rattle.search_learn.specs.declared.Step.{Step}
use Rattle.search_learn.specs.Trail.{clause_false, is_assigned, unit_literal}
use Rattle.search_watch.specs.declared.watch.Pair.{Pair}
use Rattle.search_watch.specs.declared.watch.UnitClause.{UnitClause}
use Rattle.search_watch.specs.Nets.{Net, IsNet, IsThere}
use Rattle.search_watch.specs.Visits.{ArePairsLow, IsLooked, clause_at, has, list_at, no_pair, outcome, pair_at}
use Rattle.search_watch.specs.Watched.{IsAtMost, IsCalmBelow, IsNoted, IsPair, Watches, index_of, is_false, is_satisfied, lesser}
use Rattle.search_learn.specs.Trail.{is_true, level}
use Rattle.search_learn.specs.Values.{IsOfMachine}
use Rattle.search_learn.proofs.Decisions.{clash, member_any}
use Rattle.sat_form.specs.Literals.{same_literal}
use Rattle.sat_form.proofs.Sets as sets
use Rattle.std.proofs.lemmas.List.{get_or-set_same, get_or-set_other, length-set}
use Rattle.std.proofs.lemmas.List.Elements.{Contains-append_left, Contains-push, Contains-push_cases}
use Rattle.search_watch.specs.Added.{entered, joined, least_with, units_with}
use Rattle.search_watch.specs.Chosen.{IsFree, IsHighest, IsOpen}
use Rattle.search_watch.specs.declared.watch.Outcome.{Outcome}
use Rattle.search_watch.specs.declared.watch.Outcome.TheVariants.{Stays, Moves, Implies, Fails}
use Rattle.search_watch.proofs.Begins.{unit-there}
use Rattle.search_watch.proofs.Chosen.{open-calm, pair-is}
use Rattle.search_watch.proofs.Kept.{lesser-here, lesser-low, list-grown, list-pushed}
use Rattle.search_watch.proofs.Nets.{all-member, has-push_cases}
use Rattle.search_watch.proofs.Sound.{lesser-one}
use Rattle.search_watch.proofs.Visits.{others-false, others-unit, replacement-some}
use Rattle.search_watch.proofs.Walks.{outcome-fails, outcome-implies, outcome-moves, outcome-stays}

-- What is noted stays noted, and what is listed stays listed.
pub looked-more : (t : List Step) (c later : List Literal) (i : ℕ) (p : Pair) (ls ls2 : List (List ℕ)) (noted noted2 : Type 0) → ((w : Literal) → has (list_at ls w) i ≡ true → has (list_at ls2 w) i ≡ true) → (noted → noted2)
    → IsLooked t c later i p ls noted → IsLooked t c later i p ls2 noted2
looked-more t c later i p ls ls2 noted noted2 grown more is = record {
  pair = is.pair;
  listed = λ w watched. grown w (is.listed w watched);
  excused = λ w watched wrong. elim (is.excused w watched wrong) as (λ _. (is_satisfied t c ≡ true) ⊎ (noted2 ⊎ (member later w ≡ true))) [ inl some ↦ inl some | inr (inl f) ↦ inr (inl (more f)) | inr (inr f) ↦ inr (inr f) ];
  one = λ e. elim (is.one e) as (λ _. (is_assigned t p.first ≡ true) ⊎ noted2) [ inl h ↦ inl h | inr f ↦ inr (more f) ];
}

-- What adding a clause does.
pub record IsAdded (vars : ℕ) (t : List Step) (n : Net) (c : List Literal) (n2 : Net) : Type 0 where
  pub clauses : n2.clauses ≡ n.clauses ++ c ∷ []
  pub kept : (i : ℕ) → i < length n.clauses → pair_at n2.pairs i ≡ pair_at n.pairs i
  pub aligned : 0 < vars → length n2.pairs ≡ length n.clauses + 1
  pub longer : length n.pairs ≤ length n2.pairs
  pub low : ArePairsLow vars n2.pairs
  pub room : length n2.lists ≡ length n.lists
  pub grown : (w : Literal) (i : ℕ) → has (list_at n.lists w) i ≡ true → has (list_at n2.lists w) i ≡ true
  pub from : (w : Literal) (i : ℕ) → has (list_at n2.lists w) i ≡ true → (has (list_at n.lists w) i ≡ true) ⊎ ((i ≡ length n.clauses) × (c ≢ []))
  pub units_more : (u : UnitClause) → Contains n.units u → Contains n2.units u
  pub units_from : (u : UnitClause) → Contains n2.units u → Contains n.units u ⊎ ((u.clause ≡ length n.clauses) × (unit_literal t c ≡ Some u.lit))
  pub least_more : (i : ℕ) → IsAtMost n.least i → IsAtMost n2.least i
  pub least_from : (j : ℕ) → n2.least ≡ Some j → (n.least ≡ Some j) ⊎ ((j ≡ length n.clauses) × (clause_false t c ≡ true))
  pub within : All (λ l. l.var ≤ vars) c
  pub variables : c ≢ [] → 0 < vars
  pub looked : c ≢ [] → IsLooked t c [] (length n.clauses) (pair_at n2.pairs (length n.clauses)) n2.lists (IsNoted t c n2.units n2.least (length n.clauses))
  pub calm : c ≢ [] → IsCalmBelow t c (pair_at n2.pairs (length n.clauses))
  pub none : c ≡ [] → IsAtMost n2.least (length n.clauses)
  pub fresh : c ≡ [] → t ≡ []

module _ (vars : ℕ) (t : List Step) (n : Net) (c : List Literal) (n2 : Net) (net : IsNet vars t [] n) (added : IsAdded vars t n c n2) where
  abbrev place : ℕ
  place = length n.clauses

  old : (i : ℕ) → i < place → clause_at n2.clauses i ≡ clause_at n.clauses i
  old i low = ap (λ (cs : List (List Literal)). clause_at cs i) added.clauses ∙ get_or_append_left n.clauses (c ∷ []) [] i low

  new : clause_at n2.clauses place ≡ c
  new = ap (λ (cs : List (List Literal)). clause_at cs place) added.clauses ∙ last n.clauses
    where
      last : (cs : List (List Literal)) → get_or (cs ++ c ∷ []) (length cs) [] ≡ c
      last [] = refl
      last (x ∷ cs) = last cs

  size : length n2.clauses ≡ place + 1
  size = ap length added.clauses ∙ length-append n.clauses (c ∷ [])

  -- An old clause or the new one.
  cases : (P : ℕ → Type 0) → ((i : ℕ) → i < place → P i) → P place → (i : ℕ) → i < length n2.clauses → P i
  cases P a b i low = let total = size in elim (cases_lt i place) as (λ _. P i) [
    | inl under ↦ a i under
    | inr over ↦ let e : place ≡ i = omega arith in subst P e b
  ]

  there-old : (i : ℕ) → i < place → IsThere n2.clauses i → IsThere n.clauses i
  there-old i low there = record { within = low; some = λ e. there.some (old i low ∙ e) }

  there-new : (i : ℕ) → IsThere n.clauses i → IsThere n2.clauses i
  there-new i there = let total = size in let low = there.within in record { within = omega arith; some = λ e. there.some (sym (old i there.within) ∙ e) }

  noted-old : (i : ℕ) → i < place → IsNoted t (clause_at n.clauses i) n.units n.least i → IsNoted t (clause_at n2.clauses i) n2.units n2.least i
  noted-old i low (inl f) = inl (record { is = subst (λ (x : List Literal). clause_false t x ≡ true) (sym (old i low)) f.is; at_most = added.least_more i f.at_most })
  noted-old i low (inr f) = inr (record { lit = f.lit; is = subst (λ (x : List Literal). unit_literal t x ≡ Some f.lit) (sym (old i low)) f.is; listed = added.units_more _ f.listed })

  looked-old : (i : ℕ) → i < place → IsThere n2.clauses i → IsLooked t (clause_at n2.clauses i) [] i (pair_at n2.pairs i) n2.lists (IsNoted t (clause_at n2.clauses i) n2.units n2.least i)
  looked-old i low there =
      let is = net.looked i (there-old i low there) in
      let noted = IsNoted t (clause_at n2.clauses i) n2.units n2.least i in
      let more = looked-more t (clause_at n.clauses i) [] i (pair_at n.pairs i) n.lists n2.lists _ noted (λ w h. added.grown w i h) (noted-old i low) is in
      subst (λ (x : List Literal). IsLooked t x [] i (pair_at n2.pairs i) n2.lists noted) (sym (old i low)) (subst (λ (p : Pair). IsLooked t (clause_at n.clauses i) [] i p n2.lists noted) (sym (added.kept i low)) more)

  new-some : IsThere n2.clauses place → c ≢ []
  new-some there = λ e. there.some (new ∙ e)

  pub add-net : IsNet vars t [] n2
  add-net = record {
    shape = record {
      size = λ i there. cases (λ (j : ℕ). IsThere n2.clauses j → j < length n2.pairs) (λ j under h. let low = net.shape.size j (there-old j under h) in let longer = added.longer in omega arith)
          (λ h. let aligned = added.aligned (added.variables (new-some h)) in omega arith) i there.within there;
      aligned = λ some. added.aligned some ∙ sym size;
      room = λ k low. subst (λ (m : ℕ). index_of k < m) (sym added.room) (net.shape.room k low);
      within = λ i. elim (cases_lt i (length n2.clauses)) as (λ _. All (λ l. l.var ≤ vars) (clause_at n2.clauses i)) [
        | inl low ↦ cases (λ (j : ℕ). All (λ l. l.var ≤ vars) (clause_at n2.clauses j))
            (λ j under. subst (λ (x : List Literal). All (λ l. l.var ≤ vars) x) (sym (old j under)) (net.shape.within j))
            (subst (λ (x : List Literal). All (λ l. l.var ≤ vars) x) (sym new) added.within) i low
        | inr high ↦ subst (λ (x : List Literal). All (λ l. l.var ≤ vars) x) (sym (get_or_past n2.clauses i [] high)) (λ k d low. absurd (omega arith))
      ];
      low = added.low;
      entries = λ w i h. elim (added.from w i h) [
        | inl before ↦ there-new i (net.shape.entries w i before)
        | inr here ↦ let total = size in let e : place ≡ i = sym here.0 in subst (IsThere n2.clauses) e (record { within = omega arith; some = λ f. here.1 (sym new ∙ f) })
      ];
    };
    looked = λ i there. cases (λ (j : ℕ). IsThere n2.clauses j → IsLooked t (clause_at n2.clauses j) [] j (pair_at n2.pairs j) n2.lists (IsNoted t (clause_at n2.clauses j) n2.units n2.least j)) looked-old
        (λ h. subst (λ (x : List Literal). IsLooked t x [] place (pair_at n2.pairs place) n2.lists (IsNoted t x n2.units n2.least place)) (sym new) (added.looked (new-some h))) i there.within there;
    calm = λ i there. cases (λ (j : ℕ). IsThere n2.clauses j → IsCalmBelow t (clause_at n2.clauses j) (pair_at n2.pairs j))
        (λ j under h. subst (λ (x : List Literal). IsCalmBelow t x (pair_at n2.pairs j)) (sym (old j under)) (subst (λ (p : Pair). IsCalmBelow t (clause_at n.clauses j) p) (sym (added.kept j under)) (net.calm j (there-old j under h))))
        (λ h. subst (λ (x : List Literal). IsCalmBelow t x (pair_at n2.pairs place)) (sym new) (added.calm (new-some h))) i there.within there;
    sound = record {
      units_are = λ u h. elim (added.units_from u h) [
        | inl before ↦ let is = net.sound.units_are u before in subst (λ (x : List Literal). unit_literal t x ≡ Some u.lit) (sym (old u.clause (unit-there t n.clauses u.clause u.lit is))) is
        | inr here ↦ subst (λ (k : ℕ). unit_literal t (clause_at n2.clauses k) ≡ Some u.lit) (sym here.0) (subst (λ (x : List Literal). unit_literal t x ≡ Some u.lit) (sym new) here.1)
      ];
      least_is = λ j e. elim (added.least_from j e) [
        | inl before ↦ subst (λ (x : List Literal). clause_false t x ≡ true) (sym (old j (net.least_low j before))) (net.sound.least_is j before)
        | inr here ↦ subst (λ (k : ℕ). clause_false t (clause_at n2.clauses k) ≡ true) (sym here.0) (subst (λ (x : List Literal). clause_false t x ≡ true) (sym new) here.1)
      ];
    };
    least_low = λ j e. let total = size in elim (added.least_from j e) as (λ _. j < length n2.clauses) [ inl before ↦ let low = net.least_low j before in omega arith | inr here ↦ let f = here.0 in omega arith ];
    empty = cases (λ (j : ℕ). clause_at n2.clauses j ≡ [] → IsAtMost n2.least j) (λ j under e. added.least_more j (net.empty j under (sym (old j under) ∙ e))) (λ e. added.none (sym new ∙ e));
    fresh = cases (λ (j : ℕ). clause_at n2.clauses j ≡ [] → t ≡ []) (λ j under e. net.fresh j under (sym (old j under) ∙ e)) (λ e. added.fresh (sym new ∙ e));
  }

entered-from : (ls : List (List ℕ)) (l w : Literal) (j i : ℕ) → index_of l < length ls → has (list_at (entered ls l j) w) i ≡ true → (has (list_at ls w) i ≡ true) ⊎ (i ≡ j)
entered-from ls l w j i room h = elim (cases_eq (index_of w) (index_of l)) [
  | inl e ↦
      let same : list_at (entered ls l j) w ≡ list_at ls l ++ j ∷ [] = ap (λ (k : ℕ). get_or (entered ls l j) k []) e ∙ get_or-set_same ls (index_of l) (list_at ls l ++ j ∷ []) [] room in
      elim (has-push_cases (list_at ls l) j i (subst (λ (x : List ℕ). has x i ≡ true) same h)) [ inl old ↦ inl (subst (λ (k : ℕ). has (get_or ls k []) i ≡ true) (sym e) old) | inr is ↦ inr is ]
  | inr d ↦ inl (subst (λ (x : List ℕ). has x i ≡ true) (get_or-set_other ls (index_of l) (index_of w) (list_at ls l ++ j ∷ []) [] d) h)
]

module _ (vars : ℕ) (t : List Step) (n : Net) (c : List Literal) (l k : Literal) (net : IsNet vars t [] n) (some : c ≢ []) (variables : 0 < vars) (within : All (λ (x : Literal). x.var ≤ vars) c) (machine : IsOfMachine vars t)
    (opens : 0 < level t → IsOpen t c) (free : IsFree t c l) (highest : IsHighest t c l k) where
  abbrev spot : ℕ
  spot = length n.clauses

  abbrev pair : Pair
  pair = record { first = l; second = k }

  abbrev once : List (List ℕ)
  once = entered n.lists l spot

  abbrev twice : List (List ℕ)
  twice = entered once k spot

  has-pair : IsPair c pair
  has-pair = pair-is t c l k free highest

  low : (w : Literal) → member c w ≡ true → w.var ≤ vars
  low w h = all-member vars w c within h

  room-first : index_of l < length n.lists
  room-first = net.shape.room l (low l free.member)

  room-second : index_of k < length once
  room-second = subst (λ (m : ℕ). index_of k < m) (sym (length-set n.lists (index_of l) (list_at n.lists l ++ spot ∷ []))) (net.shape.room k (low k has-pair.second))

  listed : (w : Literal) → Watches pair w → has (list_at twice w) spot ≡ true
  listed w (inl e) = subst (λ (x : Literal). has (list_at twice x) spot ≡ true) (sym e) (list-grown once k l spot spot room-second (list-pushed n.lists l spot room-first))
  listed w (inr e) = subst (λ (x : Literal). has (list_at twice x) spot ≡ true) (sym e) (list-pushed once k spot room-second)

  last-pair : pair_at (n.pairs ++ pair ∷ []) spot ≡ pair
  last-pair = let aligned = net.shape.aligned variables in ap (λ (m : ℕ). pair_at (n.pairs ++ pair ∷ []) m) (sym aligned) ∙ last n.pairs
    where
      last : (ps : List Pair) → get_or (ps ++ pair ∷ []) (length ps) no_pair ≡ pair
      last [] = refl
      last (x ∷ ps) = last ps

  looked : (o : Outcome) → outcome t c l ≡ o → IsLooked t c [] spot pair twice (IsNoted t c (units_with o spot l n.units) (least_with o spot n.least) spot)
  looked Stays told =
      let held = outcome-stays _ _ _ told in
      record { pair = has-pair; listed = listed; excused = λ w _ _. inl (member_any (is_true t) c l free.member held); one = λ _. inl (sets.either_left (is_true t l) (is_false t l) held) }
  looked (Moves next) told =
      let found = replacement-some t c l next (outcome-moves _ _ _ next told) in
      let apart : next ≢ l = λ e. clash (same_literal next l) (subst (λ (x : Literal). same_literal next x ≡ true) e (sets.same_itself next)) found.2 in
      record {
        pair = has-pair;
        listed = listed;
        excused = λ w watched wrong. elim watched as (λ _. (is_satisfied t c ≡ true) ⊎ (IsNoted t c n.units n.least spot ⊎ (member [] w ≡ true))) [
          | inl e ↦ clash (is_false t next) (sets.member_all (is_false t) c next (free.free (subst (λ (x : Literal). is_false t x ≡ true) e wrong)) found.0) found.1
          | inr e ↦ clash (is_false t next) (highest.wrong (subst (λ (x : Literal). is_false t x ≡ true) e wrong) next found.0 apart) found.1
        ];
        one = λ e. absurd (apart (highest.one (sym e) next found.0));
      }
  looked Implies told =
      let facts = outcome-implies _ _ _ told in
      let now : IsNoted t c (n.units ++ record { clause = spot; lit = l } ∷ []) n.least spot = inr (record { lit = l; is = others-unit t c l facts.1.1 free.member facts.0 facts.1.0; listed = Contains-push n.units (record { clause = spot; lit = l }) }) in
      record { pair = has-pair; listed = listed; excused = λ w _ _. inr (inl now); one = λ _. inr now }
  looked Fails told =
      let facts = outcome-fails _ _ _ told in
      let now : IsNoted t c n.units (lesser n.least spot) spot = inl (record { is = others-false t c l facts.1 facts.0; at_most = lesser-here n.least spot }) in
      record { pair = has-pair; listed = listed; excused = λ w _ _. inr (inl now); one = λ _. inr now }

  units-from : (o : Outcome) → outcome t c l ≡ o → (u : UnitClause) → Contains (units_with o spot l n.units) u → Contains n.units u ⊎ ((u.clause ≡ spot) × (unit_literal t c ≡ Some u.lit))
  units-from Stays told u h = inl h
  units-from (Moves next) told u h = inl h
  units-from Implies told u h =
      let facts = outcome-implies _ _ _ told in
      elim (Contains-push_cases n.units (record { clause = spot; lit = l }) u h) [
        | inl old ↦ inl old
        | inr e ↦ inr (ap (λ (x : UnitClause). x.clause) (sym e), others-unit t c l facts.1.1 free.member facts.0 facts.1.0 ∙ ap (λ (x : UnitClause). Some x.lit) e)
      ]
  units-from Fails told u h = inl h

  units-more : (o : Outcome) (u : UnitClause) → Contains n.units u → Contains (units_with o spot l n.units) u
  units-more Stays u h = h
  units-more (Moves next) u h = h
  units-more Implies u h = Contains-append_left n.units (record { clause = spot; lit = l } ∷ []) u h
  units-more Fails u h = h

  least-from : (o : Outcome) → outcome t c l ≡ o → (j : ℕ) → least_with o spot n.least ≡ Some j → (n.least ≡ Some j) ⊎ ((j ≡ spot) × (clause_false t c ≡ true))
  least-from Stays told j e = inl e
  least-from (Moves next) told j e = inl e
  least-from Implies told j e = inl e
  least-from Fails told j e =
      let facts = outcome-fails _ _ _ told in
      elim (lesser-one n.least spot j e) [ inl here ↦ inr (here, others-false t c l facts.1 facts.0) | inr old ↦ inl old ]

  least-more : (o : Outcome) (i : ℕ) → IsAtMost n.least i → IsAtMost (least_with o spot n.least) i
  least-more Stays i h = h
  least-more (Moves next) i h = h
  least-more Implies i h = h
  least-more Fails i h = lesser-low n.least spot i h

  pub join-net : IsNet vars t [] (joined t c l k n)
  join-net =
      let aligned = net.shape.aligned variables in
      let total = length-append n.pairs (pair ∷ []) in
      let o = outcome t c l in
      add-net vars t n c (joined t c l k n) net (record {
        clauses = refl;
        kept = λ i under. get_or_append_left n.pairs (pair ∷ []) no_pair i (omega arith);
        aligned = λ _. total ∙ ap (λ (m : ℕ). m + 1) aligned;
        longer = omega arith;
        low = λ i. elim (cases_lt i (length n.pairs)) as (λ _. ((pair_at (n.pairs ++ pair ∷ []) i).first.var ≤ vars) × ((pair_at (n.pairs ++ pair ∷ []) i).second.var ≤ vars)) [
          | inl under ↦ subst (λ (p : Pair). (p.first.var ≤ vars) × (p.second.var ≤ vars)) (sym (get_or_append_left n.pairs (pair ∷ []) no_pair i under)) (net.shape.low i)
          | inr over ↦ elim (cases_eq i spot) as (λ _. ((pair_at (n.pairs ++ pair ∷ []) i).first.var ≤ vars) × ((pair_at (n.pairs ++ pair ∷ []) i).second.var ≤ vars)) [
            | inl e ↦ subst (λ (p : Pair). (p.first.var ≤ vars) × (p.second.var ≤ vars)) (sym (ap (λ (m : ℕ). pair_at (n.pairs ++ pair ∷ []) m) e ∙ last-pair)) (low l free.member, low k has-pair.second)
            | inr d ↦ subst (λ (p : Pair). (p.first.var ≤ vars) × (p.second.var ≤ vars)) (sym (get_or_past (n.pairs ++ pair ∷ []) i no_pair (omega arith))) (omega arith, omega arith)
          ]
        ];
        room = length-set once (index_of k) (list_at once k ++ spot ∷ []) ∙ length-set n.lists (index_of l) (list_at n.lists l ++ spot ∷ []);
        grown = λ w i h. list-grown once k w spot i room-second (list-grown n.lists l w spot i room-first h);
        from = λ w i h. elim (entered-from once k w spot i room-second h) [
          | inr e ↦ inr (e, some)
          | inl before ↦ elim (entered-from n.lists l w spot i room-first before) [ inl old ↦ inl old | inr e ↦ inr (e, some) ]
        ];
        units_more = units-more o;
        units_from = units-from o refl;
        least_more = least-more o;
        least_from = least-from o refl;
        within = within;
        variables = λ _. variables;
        looked = λ _. subst (λ (p : Pair). IsLooked t c [] spot p twice (IsNoted t c (units_with o spot l n.units) (least_with o spot n.least) spot)) (sym last-pair) (looked o refl);
        calm = λ _. subst (λ (p : Pair). IsCalmBelow t c p) (sym last-pair) (open-calm vars t c l k machine opens free highest);
        none = λ e. absurd (some e);
        fresh = λ e. absurd (some e);
      })
