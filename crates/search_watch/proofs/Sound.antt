-- What a walk notes is so: each noted unit clause is unit with its literal, and the least false clause is false.
use Rattle.std.proofs.Common.{◌≡◌, ◌⊎◌, ℕ, ◌<◌, true, false, List, [], ◌∷◌, length, set, nat_eq, nat_lt, if◌then◌else◌, refl, sym, subst, inl, inr}
use Rattle.std.specs.Prelude.{Some, None}
use Rattle.std.specs.declared.option.Option.{Option}
use Rattle.std.proofs.lemmas.Bool.{cases_eq}
use Rattle.std.proofs.lemmas.List.{get_or-set_same, get_or-set_other, length-set}
use Rattle.std.proofs.lemmas.List.Elements.{Contains-push_cases}
use Rattle.sat_form.specs.Literals.{Literal, same_literal}
use Rattle.sat_form.proofs.Sets as sets
use Rattle.search_learn.specs.declared.Step.{Step}
use Rattle.search_learn.specs.Trail.{clause_false, unit_literal}
use Rattle.search_learn.proofs.Decisions.{clash}
use Rattle.search_watch.specs.declared.watch.Pair.{Pair}
use Rattle.search_watch.specs.declared.watch.UnitClause.{UnitClause}
use Rattle.search_watch.specs.declared.watch.Outcome.{Outcome}
use Rattle.search_watch.specs.declared.watch.Outcome.TheVariants.{Stays, Moves, Implies, Fails}
use Rattle.search_watch.specs.Watched.{other, lesser, IsPair}
use Rattle.search_watch.specs.Nets.{IsSound}
use Rattle.search_watch.specs.Visits.{Table, pair_at, clause_at, visit_as, visit, walk, has, no_pair, outcome}
use Rattle.search_watch.proofs.Visits.{replacement-some, others-false, others-unit}
use Rattle.search_watch.proofs.Kept.{other-watches, watches-member}
use Rattle.search_watch.proofs.Walks.{outcome-moves, outcome-implies, outcome-fails}

pub lesser-one : (o : Option ℕ) (i j : ℕ) → lesser o i ≡ Some j → (j ≡ i) ⊎ (o ≡ Some j)
lesser-one None i j is = inl (cc)
lesser-one (Some k) i j is = elim (nat_lt i k) as (λ b. (if b then Some i else Some k) ≡ Some j → (j ≡ i) ⊎ (◌≡◌ {A = Option ℕ} (Some k) (Some j))) [ true ↦ λ e. inl (cc) | false ↦ λ e. inr e ] is

module _ (t : List Step) (cs : List (List Literal)) (lit : Literal) where
  visit-pair : (s : Table) (i0 i : ℕ) → i < length s.pairs → (o : Outcome) → outcome t (clause_at cs i0) (other (pair_at s.pairs i0) lit) ≡ o → IsPair (clause_at cs i) (pair_at s.pairs i)
      → IsPair (clause_at cs i) (pair_at (visit_as (other (pair_at s.pairs i0) lit) i0 o s).pairs i)
  visit-pair s i0 i bound Stays told pair = pair
  visit-pair s i0 i bound (Moves next) told pair =
      let o = other (pair_at s.pairs i0) lit in
      let new : Pair = record { first = o; second = next } in
      elim (cases_eq i i0) as (λ _. IsPair (clause_at cs i) (pair_at (set s.pairs i0 new) i)) [
        | inl e ↦
            let mine : IsPair (clause_at cs i0) (pair_at s.pairs i0) = subst (λ (k : ℕ). IsPair (clause_at cs k) (pair_at s.pairs k)) e pair in
            let found = replacement-some t (clause_at cs i0) o next (outcome-moves _ _ _ next told) in
            let here : pair_at (set s.pairs i0 new) i0 ≡ new = get_or-set_same s.pairs i0 new no_pair (subst (λ (k : ℕ). k < length s.pairs) e bound) in
            let is : IsPair (clause_at cs i0) new = record {
              first = watches-member (clause_at cs i0) (pair_at s.pairs i0) o mine (other-watches (pair_at s.pairs i0) lit);
              second = found.0;
              one = λ f. absurd (clash (same_literal next o) (subst (λ (x : Literal). same_literal next x ≡ true) (sym f) (sets.same_itself next)) found.2);
            } in
            subst (λ (k : ℕ). IsPair (clause_at cs k) (pair_at (set s.pairs i0 new) k)) (sym e) (subst (λ (p : Pair). IsPair (clause_at cs i0) p) (sym here) is)
        | inr d ↦ subst (λ (p : Pair). IsPair (clause_at cs i) p) (sym (get_or-set_other s.pairs i0 i new no_pair d)) pair
      ]
  visit-pair s i0 i bound Implies told pair = pair
  visit-pair s i0 i bound Fails told pair = pair

  visit-sound : (s : Table) (i : ℕ) → (o : Outcome) → outcome t (clause_at cs i) (other (pair_at s.pairs i) lit) ≡ o → IsPair (clause_at cs i) (pair_at s.pairs i) → IsSound t cs s.units s.least
      → IsSound t cs (visit_as (other (pair_at s.pairs i) lit) i o s).units (visit_as (other (pair_at s.pairs i) lit) i o s).least
  visit-sound s i Stays told pair sound = sound
  visit-sound s i (Moves next) told pair sound = sound
  visit-sound s i Implies told pair sound =
      let c = clause_at cs i in
      let o = other (pair_at s.pairs i) lit in
      let facts = outcome-implies _ _ _ told in
      let here = watches-member c (pair_at s.pairs i) o pair (other-watches (pair_at s.pairs i) lit) in
      let is = others-unit t c o facts.1.1 here facts.0 facts.1.0 in
      record {
        units_are = λ u h. elim (Contains-push_cases s.units (record { clause = i; lit = o }) u h) as (λ _. unit_literal t (clause_at cs u.clause) ≡ Some u.lit) [
          | inl before ↦ sound.units_are u before
          | inr e ↦ subst (λ (x : UnitClause). unit_literal t (clause_at cs x.clause) ≡ Some x.lit) e is
        ];
        least_is = sound.least_is;
      }
  visit-sound s i Fails told pair sound =
      let facts = outcome-fails _ _ _ told in
      record {
        units_are = sound.units_are;
        least_is = λ j h. elim (lesser-one s.least i j h) as (λ _. clause_false t (clause_at cs j) ≡ true) [
          | inl e ↦ subst (λ (k : ℕ). clause_false t (clause_at cs k) ≡ true) (sym e) (others-false t (clause_at cs i) (other (pair_at s.pairs i) lit) facts.1 facts.0)
          | inr before ↦ sound.least_is j before
        ];
      }

  visit-length : (s : Table) (i : ℕ) (l : Literal) (o : Outcome) → length (visit_as l i o s).pairs ≡ length s.pairs
  visit-length s i l Stays = refl
  visit-length s i l (Moves next) = length-set s.pairs i _
  visit-length s i l Implies = refl
  visit-length s i l Fails = refl

  pub walk-sound : (rest : List ℕ) (s : Table) → ((i : ℕ) → has rest i ≡ true → (i < length s.pairs) × IsPair (clause_at cs i) (pair_at s.pairs i)) → IsSound t cs s.units s.least → IsSound t cs (walk t cs lit rest s).units (walk t cs lit rest s).least
  walk-sound [] s pairs sound = sound
  walk-sound (i0 ∷ rest) s pairs sound =
      let o = outcome t (clause_at cs i0) (other (pair_at s.pairs i0) lit) in
      let first = pairs i0 (sets.either_left (nat_eq i0 i0) (has rest i0) (sets.nat_itself i0)) in
      let size = visit-length s i0 (other (pair_at s.pairs i0) lit) o in
      walk-sound rest (visit t cs lit i0 s)
      (λ i h. let p = pairs i (sets.either_right (nat_eq i i0) (has rest i) h) in (subst (λ (n : ℕ). i < n) (sym size) p.0, visit-pair s i0 i p.0 o refl p.1))
      (visit-sound s i0 o refl first.1 sound)
