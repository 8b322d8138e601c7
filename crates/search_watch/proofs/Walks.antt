-- A walk along the list of a literal that became false keeps what holds of each clause.
use Rattle.std.proofs.Common.{◌≡◌, ◌≢◌, ℕ, ◌<◌, Bool, true, false, List, [], ◌∷◌, ◌++◌, length, set, refl, sym, subst, inl, inr}
use Rattle.std.specs.Prelude.{Some, None}
use Rattle.std.specs.declared.option.Option.{Option}
use Rattle.std.proofs.lemmas.Bool.{cases_eq}
use Rattle.std.proofs.lemmas.List.{get_or-set_same, get_or-set_other, length-set}
use Rattle.std.proofs.lemmas.List.Elements.{Contains-push}
use Rattle.sat_form.specs.Literals.{Literal, member}
use Rattle.search_learn.specs.declared.Step.{Step}
use Rattle.search_watch.specs.declared.watch.Pair.{Pair}
use Rattle.search_watch.specs.declared.watch.UnitClause.{UnitClause}
use Rattle.search_watch.specs.declared.watch.Outcome.{Outcome}
use Rattle.search_watch.specs.declared.watch.Outcome.TheVariants.{Stays, Moves, Implies, Fails}
use Rattle.search_watch.specs.Watched.{is_false, other, index_of, lesser, IsNoted}
use Rattle.search_watch.specs.Visits.{Table, pair_at, list_at, clause_at, visit_as, visit, walk, IsKept, IsKeptAs, no_pair, outcome, outcome_if}
use Rattle.search_watch.proofs.Visits.{replacement-some, others-false, others-unit}
use Rattle.search_watch.proofs.Kept.{has-more, list-grown, lesser-here, noted-fewer, noted-more, other-watches, watches-member, kept-other, kept-true, kept-noted, kept-moved}

-- What an outcome tells.
pub outcome-stays : (a w : Bool) (f : Option Literal) → outcome_if a w f ≡ Stays → a ≡ true
outcome-stays true w f is = refl
outcome-stays false w (Some n) is = cc
outcome-stays false true None is = cc
outcome-stays false false None is = cc

pub outcome-moves : (a w : Bool) (f : Option Literal) (next : Literal) → outcome_if a w f ≡ Moves next → f ≡ Some next
outcome-moves true w f next is = cc
outcome-moves false w (Some n) next is = cc
outcome-moves false true None next is = cc
outcome-moves false false None next is = cc

pub outcome-implies : (a w : Bool) (f : Option Literal) → outcome_if a w f ≡ Implies → (a ≡ false) × ((w ≡ false) × (f ≡ None))
outcome-implies true w f is = cc
outcome-implies false w (Some n) is = cc
outcome-implies false true None is = cc
outcome-implies false false None is = (refl, (refl, refl))

pub outcome-fails : (a w : Bool) (f : Option Literal) → outcome_if a w f ≡ Fails → (w ≡ true) × (f ≡ None)
outcome-fails true w f is = cc
outcome-fails false w (Some n) is = cc
outcome-fails false true None is = (refl, refl)
outcome-fails false false None is = cc

module _ (t : List Step) (cs : List (List Literal)) (lit : Literal) (later : List Literal) (wrong : is_false t lit ≡ true) where
  -- the visited clause
  visit-same : (rest : List ℕ) (s : Table) (i : ℕ) → i < length s.pairs → ((k : Literal) → member (clause_at cs i) k ≡ true → index_of k < length s.lists) → IsKept t cs lit later (i ∷ rest) s i
      → (o : Outcome) → outcome t (clause_at cs i) (other (pair_at s.pairs i) lit) ≡ o → IsKept t cs lit later rest (visit_as (other (pair_at s.pairs i) lit) i o s) i
  visit-same rest s i bound room is Stays told =
      kept-true t (clause_at cs i) lit later rest i (pair_at s.pairs i) s.lists s.kept (IsNoted t (clause_at cs i) s.units s.least i) (outcome-stays _ _ _ told) is
  visit-same rest s i bound room is (Moves next) told =
      let c = clause_at cs i in
      let p = pair_at s.pairs i in
      let o = other p lit in
      let found = outcome-moves _ _ _ next told in
      let inside = room next (replacement-some t c o next found).0 in
      let new : Pair = record { first = o; second = next } in
      let here : pair_at (set s.pairs i new) i ≡ new = get_or-set_same s.pairs i new no_pair bound in
      subst (λ (x : Pair). IsKeptAs t c lit later rest i x (set s.lists (index_of next) (list_at s.lists next ++ i ∷ [])) s.kept (IsNoted t c s.units s.least i)) (sym here)
      (kept-moved t c lit later rest i p s.lists s.kept (IsNoted t c s.units s.least i) next wrong found inside is)
  visit-same rest s i bound room is Implies told =
      let c = clause_at cs i in
      let p = pair_at s.pairs i in
      let o = other p lit in
      let facts = outcome-implies _ _ _ told in
      let here = watches-member c p o is.pair (other-watches p lit) in
      let now : IsNoted t c (s.units ++ record { clause = i; lit = o } ∷ []) s.least i = inr (record { lit = o; is = others-unit t c o facts.1.1 here facts.0 facts.1.0; listed = Contains-push s.units (record { clause = i; lit = o }) }) in
      kept-noted t c lit later rest i p s.lists s.kept (IsNoted t c s.units s.least i) _ now is
  visit-same rest s i bound room is Fails told =
      let c = clause_at cs i in
      let p = pair_at s.pairs i in
      let o = other p lit in
      let facts = outcome-fails _ _ _ told in
      let now : IsNoted t c s.units (lesser s.least i) i = inl (record { is = others-false t c o facts.1 facts.0; at_most = lesser-here s.least i }) in
      kept-noted t c lit later rest i p s.lists s.kept (IsNoted t c s.units s.least i) _ now is

  -- another clause
  visit-other : (rest : List ℕ) (s : Table) (i0 i : ℕ) → i ≢ i0 → ((k : Literal) → member (clause_at cs i0) k ≡ true → index_of k < length s.lists) → IsKept t cs lit later (i0 ∷ rest) s i
      → (o : Outcome) → outcome t (clause_at cs i0) (other (pair_at s.pairs i0) lit) ≡ o → IsKept t cs lit later rest (visit_as (other (pair_at s.pairs i0) lit) i0 o s) i
  visit-other rest s i0 i apart room is Stays told =
      kept-other t (clause_at cs i) lit later rest i0 i (pair_at s.pairs i) s.lists s.lists s.kept (s.kept ++ i0 ∷ []) (IsNoted t (clause_at cs i) s.units s.least i) _ apart (λ w h. h) (has-more s.kept i0 i) (λ n. n) is
  visit-other rest s i0 i apart room is (Moves next) told =
      let c = clause_at cs i in
      let o = other (pair_at s.pairs i0) lit in
      let found = outcome-moves _ _ _ next told in
      let inside = room next (replacement-some t (clause_at cs i0) o next found).0 in
      let new : Pair = record { first = o; second = next } in
      let same : pair_at (set s.pairs i0 new) i ≡ pair_at s.pairs i = get_or-set_other s.pairs i0 i new no_pair apart in
      let grown = set s.lists (index_of next) (list_at s.lists next ++ i0 ∷ []) in
      subst (λ (x : Pair). IsKeptAs t c lit later rest i x grown s.kept (IsNoted t c s.units s.least i)) (sym same)
      (kept-other t c lit later rest i0 i (pair_at s.pairs i) s.lists grown s.kept s.kept (IsNoted t c s.units s.least i) _ apart (λ w h. list-grown s.lists next w i0 i inside h) (λ h. h) (λ n. n) is)
  visit-other rest s i0 i apart room is Implies told =
      let c = clause_at cs i in
      let u : UnitClause = record { clause = i0; lit = other (pair_at s.pairs i0) lit } in
      kept-other t c lit later rest i0 i (pair_at s.pairs i) s.lists s.lists s.kept (s.kept ++ i0 ∷ []) (IsNoted t c s.units s.least i) (IsNoted t c (s.units ++ u ∷ []) s.least i) apart (λ w h. h) (has-more s.kept i0 i) (noted-more t c s.units s.least i u) is
  visit-other rest s i0 i apart room is Fails told =
      let c = clause_at cs i in
      kept-other t c lit later rest i0 i (pair_at s.pairs i) s.lists s.lists s.kept (s.kept ++ i0 ∷ []) (IsNoted t c s.units s.least i) (IsNoted t c s.units (lesser s.least i0) i) apart (λ w h. h) (has-more s.kept i0 i) (noted-fewer t c s.units s.least i i0) is

  pub visit-kept : (rest : List ℕ) (s : Table) (i0 i : ℕ) → i < length s.pairs → ((j : ℕ) (k : Literal) → member (clause_at cs j) k ≡ true → index_of k < length s.lists) → IsKept t cs lit later (i0 ∷ rest) s i → IsKept t cs lit later rest (visit t cs lit i0 s) i
  visit-kept rest s i0 i bound room is = elim (cases_eq i i0) as (λ _. IsKept t cs lit later rest (visit t cs lit i0 s) i) [
    | inl e ↦ subst (λ (k : ℕ). IsKept t cs lit later rest (visit t cs lit i0 s) k) (sym e)
        (visit-same rest s i0 (subst (λ (k : ℕ). k < length s.pairs) e bound) (room i0) (subst (λ (k : ℕ). IsKept t cs lit later (i0 ∷ rest) s k) e is) (outcome t (clause_at cs i0) (other (pair_at s.pairs i0) lit)) refl)
    | inr d ↦ visit-other rest s i0 i d (room i0) is (outcome t (clause_at cs i0) (other (pair_at s.pairs i0) lit)) refl
  ]

  -- a visit keeps the sizes
  visit-sizes : (s : Table) (i o' : ℕ) (l : Literal) (o : Outcome) → (length (visit_as l i o s).pairs ≡ length s.pairs) × (length (visit_as l i o s).lists ≡ length s.lists)
  visit-sizes s i o' l Stays = (refl, refl)
  visit-sizes s i o' l (Moves next) = (length-set s.pairs i _, length-set s.lists (index_of next) _)
  visit-sizes s i o' l Implies = (refl, refl)
  visit-sizes s i o' l Fails = (refl, refl)

  -- The whole walk.
  pub walk-kept : (rest : List ℕ) (s : Table) (i : ℕ) → i < length s.pairs → ((j : ℕ) (k : Literal) → member (clause_at cs j) k ≡ true → index_of k < length s.lists) → IsKept t cs lit later rest s i → IsKept t cs lit later [] (walk t cs lit rest s) i
  walk-kept [] s i bound room is = is
  walk-kept (i0 ∷ rest) s i bound room is =
      let sizes = visit-sizes s i0 0 (other (pair_at s.pairs i0) lit) (outcome t (clause_at cs i0) (other (pair_at s.pairs i0) lit)) in
      walk-kept rest (visit t cs lit i0 s) i (subst (λ (n : ℕ). i < n) (sym sizes.0) bound) (λ j k h. subst (λ (n : ℕ). index_of k < n) (sym sizes.1) (room j k h)) (visit-kept rest s i0 i bound room is)
