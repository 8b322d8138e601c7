-- What was found is all that is false or unit.
use Rattle.std.proofs.Common.{◌≡◌, ◌≢◌, ◌⊎◌, ℕ, suc, ◌+◌, ◌-◌, ◌<◌, ◌≤◌, Bool, true, false, not, cond, List, [], ◌∷◌, ◌++◌, length, get_or, drop, refl, ap, sym, ◌∙◌, subst, inl, inr, arith}
use Rattle.std.specs.Prelude.{Some, None, Contains}
use Rattle.std.specs.List.{All}
use Rattle.std.specs.declared.option.Option.{Option}
use Rattle.std.proofs.lemmas.Bool.{cases_Bool}
use Rattle.std.proofs.lemmas.List.{append-nil, append_assoc}
use Rattle.std.proofs.Math.Seq.{drop-append_seam}
use Rattle.std.proofs.lemmas.List.Elements.{All-push, Contains-get_or, filter-append}
use Rattle.sat_form.specs.Literals.{Literal, member, negate, same_literal}
use Rattle.sat_form.proofs.Sets as sets
use Rattle.search_learn.specs.declared.Step.{Step}
use Rattle.search_learn.specs.declared.Turn.TheVariants.{More}
use Rattle.search_learn.specs.Cases.{put_entries}
use Rattle.search_learn.specs.Machine.{State, assign}
use Rattle.search_learn.specs.Rule.{Continues, EntryFollows}
use Rattle.search_learn.specs.Trail.{assigned, clause_false, cut, is_assigned, is_true, level, unit_literal}
use Rattle.search_learn.specs.Values.{IsOfMachine}
use Rattle.search_learn.proofs.Decisions.{clash, level_append}
use Rattle.search_watch.specs.declared.watch.UnitClause.{UnitClause}
use Rattle.search_watch.specs.Nets.{Net, IsNet, IsThere, negated}
use Rattle.search_watch.specs.RoundUnits.{AreRising, IsLeastBroken, entries, entry}
use Rattle.search_watch.specs.Visits.{clause_at, pair_at}
use Rattle.search_watch.specs.Watched.{IsAtMost, IsCalm, is_false}
use Rattle.search_watch.proofs.Begins.{AreImplied, begins, implied-cut, implied-level, member-parts, put-adds, put-assigns, reordered, unit-there}
use Rattle.search_watch.proofs.Exact.{IsConsistent, exact-false, exact-unit, unit-free}
use Rattle.search_watch.proofs.Looks.{looked-watched}
use Rattle.search_watch.proofs.Nets.{all-member}
use Rattle.search_watch.proofs.Putting.{AreUnits, rising-list}

-- On a trail of the machine no literal is both true and false.
consistent-push : (lits_of : ℕ → List Literal) (vars : ℕ) (b : List Step) (e : Step) → IsConsistent b → EntryFollows lits_of vars b e → IsConsistent (b ++ e ∷ [])
consistent-push lits_of vars b e sound follows = λ l held. elim (cases_Bool (is_false (b ++ e ∷ []) l)) as (λ _. is_false (b ++ e ∷ []) l ≡ false) [
  | inr free ↦ free
  | inl wrong ↦
      let new = sets.neither (is_true b e.lit) (is_false b e.lit) follows.new in
      elim (member-parts b (e ∷ []) l held) [
        | inl old ↦ elim (member-parts b (e ∷ []) (negate l) wrong) [
          | inl bad ↦ clash (is_false b l) bad (sound l old)
          | inr last ↦
              let same : negate l ≡ e.lit = only (negate l) last in
              clash (is_false b e.lit) (subst (λ (x : Literal). member (assigned b) x ≡ true) (sym (sets.negate_twice l) ∙ ap negate same) old) new.1
        ]
        | inr first ↦
            let is : l ≡ e.lit = only l first in
            elim (member-parts b (e ∷ []) (negate l) wrong) [
              | inl bad ↦ clash (is_false b e.lit) (subst (λ (x : Literal). is_false b x ≡ true) is bad) new.1
              | inr last ↦ let same : negate l ≡ e.lit = only (negate l) last in opposite l.positive (ap (λ (x : Literal). x.positive) (same ∙ sym is))
            ]
      ]
]
  where
    only : (x : Literal) → member (assigned (e ∷ [])) x ≡ true → x ≡ e.lit
    only x h = elim (sets.one_of (same_literal x e.lit) false h) [ inl here ↦ sets.same_is x e.lit here | inr none ↦ absurd (cc) ]

    opposite : {P : Type 0} (b : Bool) → not b ≡ b → P
    opposite true h = absurd (cc)
    opposite false h = absurd (cc)

consistent-from : (lits_of : ℕ → List Literal) (vars : ℕ) (b later : List Step) → IsConsistent b → Continues lits_of vars b later → IsConsistent (b ++ later)
consistent-from lits_of vars b [] sound cont = subst IsConsistent (sym (append-nil b)) sound
consistent-from lits_of vars b (e ∷ later) sound cont = subst IsConsistent (append_assoc b (e ∷ []) later) (consistent-from lits_of vars (b ++ e ∷ []) later (consistent-push lits_of vars b e sound cont.0) cont.1)

pub consistent : (vars : ℕ) (t : List Step) → IsOfMachine vars t → IsConsistent t
consistent vars t machine = consistent-from machine.0 vars [] t (λ l h. absurd (cc)) machine.1

-- A clause has literals or none.
pub some-or_none : (c : List Literal) → (c ≡ []) ⊎ (c ≢ [])
some-or_none [] = inl refl
some-or_none (l ∷ c) = inr (λ e. cc)

module _ (vars : ℕ) (t : List Step) (n : Net) (net : IsNet vars t [] n) (sound : IsConsistent t) where
  pub unit-noted : (i : ℕ) (l : Literal) → unit_literal t (clause_at n.clauses i) ≡ Some l → n.least ≡ None → Contains n.units (record { clause = i; lit = l })
  unit-noted i l is quiet =
      let c = clause_at n.clauses i in
      let there : IsThere n.clauses i = record { within = unit-there t n.clauses i l is; some = λ e. cc } in
      let looked = net.looked i there in
      elim (exact-unit t c (pair_at n.pairs i) _ sound looked.pair (looked-watched t c [] i (pair_at n.pairs i) n.lists _ looked) l is) [
        | inl wrong ↦ absurd (subst (λ (o : Option ℕ). IsAtMost o i) quiet wrong.at_most)
        | inr unit ↦ let same : unit.lit ≡ l = let a = unit.is in cc in subst (λ (x : Literal). Contains n.units (record { clause = i; lit = x })) same unit.listed
      ]

  pub false-noted : (i : ℕ) → i < length n.clauses → clause_false t (clause_at n.clauses i) ≡ true → IsAtMost n.least i
  false-noted i low wrong =
      let c = clause_at n.clauses i in
      elim (some-or_none c) [
        | inl none ↦ net.empty i low none
        | inr some ↦
            let looked = net.looked i (record { within = low; some = some }) in
            elim (exact-false t c (pair_at n.pairs i) _ sound looked.pair (looked-watched t c [] i (pair_at n.pairs i) n.lists _ looked) wrong) [
              | inl is ↦ is.at_most
              | inr unit ↦ absurd (cc (unit-false c wrong unit.is))
            ]
      ]
    where
      unit-false : (c : List Literal) → clause_false t c ≡ true → {l : Literal} → unit_literal t c ≡ Some l → false ≡ true
      unit-false c all {l} is =
          let free = sets.neither (is_true t l) (is_false t l) (unit-free (assigned t) c l is) in
          sym free.1 ∙ sets.member_all (is_false t) c l all (sets.member_of_unit (assigned t) c l is)

less_none : (a : ℕ) → a ≡ a - 0
less_none a = omega arith

more_none : (a : ℕ) → a ≡ 0 + a
more_none a = omega arith

-- The unit clauses of a round, found and in order.
pub are-units : (vars d : ℕ) (t : List Step) (n : Net) (us : List UnitClause) → IsNet vars t [] n → IsConsistent t → n.least ≡ None → AreRising us → ((u : UnitClause) → Contains us u → Contains n.units u) → ((u : UnitClause) → Contains n.units u → Contains us u)
    → AreUnits t d 0 n.clauses us
are-units vars d t n us net sound quiet rising from all = record {
  rising = rising-list 0 us (λ j d low. omega arith) rising;
  are = λ u h. subst (λ (k : ℕ). unit_literal t (clause_at n.clauses k) ≡ Some u.lit) (less_none u.clause) (net.sound.units_are u (from u h));
  all = λ i l low is. subst (λ (k : ℕ). Contains us (record { clause = k; lit = l })) (more_none i) (all (record { clause = i; lit = l }) (unit-noted vars t n net sound i l is quiet));
}

-- The units are in range.
pub units-low : (vars : ℕ) (t : List Step) (n : Net) (us : List UnitClause) → IsNet vars t [] n → ((u : UnitClause) → Contains us u → Contains n.units u) → All (λ (u : UnitClause). u.clause < length n.clauses) us
units-low vars t n us net from = λ k d low. let u = get_or us k d in unit-there t n.clauses u.clause u.lit (net.sound.units_are u (from u (Contains-get_or us k d low)))

pub units-within : (vars : ℕ) (t : List Step) (n : Net) (us : List UnitClause) → IsNet vars t [] n → ((u : UnitClause) → Contains us u → Contains n.units u) → All (λ (u : UnitClause). u.lit.var ≤ vars) us
units-within vars t n us net from = λ k d low. let u = get_or us k d in all-member vars u.lit (clause_at n.clauses u.clause) (net.shape.within u.clause) (sets.member_of_unit (assigned t) (clause_at n.clauses u.clause) u.lit (net.sound.units_are u (from u (Contains-get_or us k d low))))

pub put-within : (vars d : ℕ) (us : List UnitClause) (m : State) → All (λ (u : UnitClause). u.lit.var ≤ vars) us → All (λ (e : Step). e.lit.var ≤ vars) m.trail → All (λ (e : Step). e.lit.var ≤ vars) (put_entries (entries d us) m).trail
put-within vars d [] m units here = here
put-within vars d (u ∷ us) m units here = elim (is_assigned m.trail u.lit) as (λ b. All (λ (e : Step). e.lit.var ≤ vars) (put_entries (entries d us) (cond b m (assign m (entry d u)))).trail) [
  | true ↦ put-within vars d us m (λ k x low. units (suc k) x (omega arith)) here
  | false ↦ put-within vars d us (assign m (entry d u)) (λ k x low. units (suc k) x (omega arith)) (All-push (λ (e : Step). e.lit.var ≤ vars) m.trail (entry d u) here (units 0 u (omega arith)))
]

-- A state with a trail and signs.
abbrev pub state_of : List Step → List Bool → State
state_of t signs = record { vars = 0; inputs = 0; clauses = []; trail = t; scores = []; signs = signs; spent = 0; conflicts = 0; restarts = 0; since = 0; end = More }

pub record Puts (d : ℕ) (us : List UnitClause) (t u : List Step) : Type 0 where
  pub new : List Step
  pub is : u ≡ t ++ new
  pub implied : AreImplied d new
  pub assigns : (x : UnitClause) → Contains us x → is_assigned u x.lit ≡ true

pub puts : (d : ℕ) (us : List UnitClause) (t u : List Step) (signs signs2 : List Bool) (count : ℕ) → put_entries (entries d us) (state_of t signs) ≡ record (state_of t signs) { trail = u; signs = signs2; spent = 0 + count } → Puts d us t u
puts d us t u signs signs2 count is =
    let trail : (put_entries (entries d us) (state_of t signs)).trail ≡ u = ap (λ (m : State). m.trail) is in
    let adds = put-adds d us (state_of t signs) in
    record {
      new = adds.new;
      is = sym trail ∙ adds.is;
      implied = adds.implied;
      assigns = λ x h. subst (λ (y : List Step). is_assigned y x.lit ≡ true) trail (put-assigns d us (state_of t signs) x h);
    }

-- What a round puts, it has looked at but for the entries put.
pub round-begins : (vars : ℕ) (t u : List Step) (n : Net) (us : List UnitClause) (least : Option ℕ) → IsNet vars t [] n → n.least ≡ None → ((x : UnitClause) → Contains us x → Contains n.units x) → ((x : UnitClause) → Contains n.units x → Contains us x)
    → Puts (level t) us t u → IsLeastBroken u us least → IsNet vars u (negated (drop (length t) u)) (record n { units = []; least = least })
round-begins vars t u n us least net quiet from all p broken =
    let d = level t in
    let here = p.is in
    let flat : level (t ++ p.new) ≡ d = level_append t p.new ∙ ap (λ (x : ℕ). level t + x) (implied-level d p.new p.implied) ∙ add_none (level t) in
    let begun = begins vars t p.new (record n { units = us }) least (reordered vars t [] n us from all net) quiet (λ x h. subst (λ (y : List Step). is_assigned y x.lit ≡ true) here (p.assigns x h))
    (subst (λ (y : List Step). IsLeastBroken y us least) here broken)
    (λ i there k under.
    let low : k < level t = subst (λ (m : ℕ). k < m) flat under in
    let same : cut k (t ++ p.new) ≡ cut k t = cut-parts k t p.new ∙ ap (λ (y : List Step). cut k t ++ y) (implied-cut d k p.new low p.implied) ∙ append-nil (cut k t) in
    subst (λ (y : List Step). IsCalm y (clause_at n.clauses i) (pair_at n.pairs i)) (sym same) (net.calm i there k low)) in
    let behind : drop (length t) u ≡ p.new = ap (drop (length t)) here ∙ drop-append_seam t p.new in
    subst (λ (y : List Step). IsNet vars u (negated y) (record n { units = []; least = least })) (sym behind) (subst (λ (y : List Step). IsNet vars y (negated p.new) (record n { units = []; least = least })) (sym here) begun)
  where
    add_none : (a : ℕ) → a + 0 ≡ a
    add_none a = omega arith

    cut-parts : (k : ℕ) (b c : List Step) → cut k (b ++ c) ≡ cut k b ++ cut k c
    cut-parts k b c = filter-append _ b c
