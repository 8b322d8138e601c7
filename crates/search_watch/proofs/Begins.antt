-- Entries are put: what was noted is true by now or noted as false, and what they made false is to be looked at.
use Rattle.std.proofs.Common.{◌≡◌, ◌≢◌, ◌⊎◌, ℕ, ◌<◌, Bool, true, false, List, [], ◌∷◌, ◌++◌, length, cond, nat_eq, nat_le, refl, ap, sym, ◌∙◌, subst, inl, inr, arith}
use Rattle.std.specs.Prelude.{Some, None, Contains}
use Rattle.std.specs.declared.option.Option.{Option}
use Rattle.std.proofs.lemmas.Bool.{cases_lt}
use Rattle.std.proofs.lemmas.Grind.{common_steps}
use Rattle.std.proofs.lemmas.List.{append-nil, append_assoc, get_or_past}
use Rattle.sat_form.specs.Literals.{Literal, member, negate, same_literal}
use Rattle.sat_form.proofs.Sets as sets
use Rattle.search_learn.specs.declared.Step.{Step}
use Rattle.search_learn.specs.Cases.{put_entries, put_one}
use Rattle.search_learn.specs.Machine.{State, assign}
use Rattle.search_learn.specs.Trail.{assigned, clause_false, cut, is_assigned, is_true, level, unit_literal}
use Rattle.search_learn.proofs.Decisions.{level_cons, member_any, some_member}
use Rattle.search_learn.proofs.Reach.{assigned_append}
use Rattle.search_watch.specs.declared.watch.UnitClause.{UnitClause}
use Rattle.search_watch.specs.Nets.{Net, IsNet, IsThere, negated}
use Rattle.search_watch.specs.RoundUnits.{IsLeastBroken, entries, entry}
use Rattle.search_watch.specs.Visits.{clause_at, pair_at}
use Rattle.search_watch.specs.Watched.{IsAtMost, IsCalmBelow, IsNoted, is_false, is_satisfied}
use Rattle.search_watch.proofs.Exact.{same_or_not}
use Rattle.search_watch.proofs.Looks.{begin-round}
use Rattle.search_watch.proofs.Putting.{first-or_later, put-assigned}

-- What stands on a trail in two parts.
pub member-parts : (b c : List Step) (x : Literal) → member (assigned (b ++ c)) x ≡ true → (member (assigned b) x ≡ true) ⊎ (member (assigned c) x ≡ true)
member-parts [] c x h = inr h
member-parts (e ∷ b) c x h = elim (sets.one_of (same_literal x e.lit) (member (assigned (b ++ c)) x) h) [
  | inl here ↦ inl (sets.either_left (same_literal x e.lit) (member (assigned b) x) here)
  | inr later ↦ elim (member-parts b c x later) [ inl old ↦ inl (sets.either_right (same_literal x e.lit) (member (assigned b) x) old) | inr new ↦ inr new ]
]

pub negated-member : (es : List Step) (w : Literal) → member (assigned es) (negate w) ≡ true → member (negated es) w ≡ true
negated-member [] w h = h
negated-member (e ∷ es) w h = elim (sets.one_of (same_literal (negate w) e.lit) (member (assigned es) (negate w)) h) [
  | inl here ↦
      let same : w ≡ negate e.lit = sym (sets.negate_twice w) ∙ ap negate (sets.same_is (negate w) e.lit here) in
      sets.either_left (same_literal w (negate e.lit)) (member (negated es) w) (subst (λ (x : Literal). same_literal w x ≡ true) same (sets.same_itself w))
  | inr later ↦ sets.either_right (same_literal w (negate e.lit)) (member (negated es) w) (negated-member es w later)
]

pub assigned-grows : (t new : List Step) (l : Literal) → is_assigned t l ≡ true → is_assigned (t ++ new) l ≡ true
assigned-grows t new l h = elim (sets.one_of (is_true t l) (is_false t l) h) [
  | inl held ↦ sets.either_left (is_true (t ++ new) l) (is_false (t ++ new) l) (assigned_append t new l held)
  | inr wrong ↦ sets.either_right (is_true (t ++ new) l) (is_false (t ++ new) l) (assigned_append t new (negate l) wrong)
]

-- A unit clause is one of the clauses.
pub unit-there : (t : List Step) (cs : List (List Literal)) (i : ℕ) (l : Literal) → unit_literal t (clause_at cs i) ≡ Some l → i < length cs
unit-there t cs i l is = elim (cases_lt i (length cs)) [ inl low ↦ low | inr high ↦ absurd (cc (is, ap (unit_literal t) (get_or_past cs i [] high))) ]

-- A clause that was unit, and whose literal became false, is false.
pub broken-false : (t new : List Step) (c : List Literal) (l : Literal) → unit_literal t c ≡ Some l → is_false (t ++ new) l ≡ true → clause_false (t ++ new) c ≡ true
broken-false t new c l is wrong = sets.all_members (is_false (t ++ new)) c (λ k h. elim (same_or_not k l) [
  | inl e ↦ subst (λ (x : Literal). is_false (t ++ new) x ≡ true) (sym e) wrong
  | inr d ↦ assigned_append t new (negate k) (sets.other_false (assigned t) c l k is h (λ e. absurd (d e)))
])

module _ (vars : ℕ) (t new : List Step) (n : Net) (least : Option ℕ) (net : IsNet vars t [] n) (quiet : n.least ≡ None) (put : (u : UnitClause) → Contains n.units u → is_assigned (t ++ new) u.lit ≡ true)
    (broken : IsLeastBroken (t ++ new) n.units least) (calm : (i : ℕ) → IsThere n.clauses i → IsCalmBelow (t ++ new) (clause_at n.clauses i) (pair_at n.pairs i)) where
  settled : (i : ℕ) → IsNoted t (clause_at n.clauses i) n.units n.least i → (is_satisfied (t ++ new) (clause_at n.clauses i) ≡ true) ⊎ IsNoted (t ++ new) (clause_at n.clauses i) [] least i
  settled i (inl is) = absurd (subst (λ (o : Option ℕ). IsAtMost o i) quiet is.at_most)
  settled i (inr is) =
      let c = clause_at n.clauses i in
      let u : UnitClause = record { clause = i; lit = is.lit } in
      elim (sets.one_of (is_true (t ++ new) is.lit) (is_false (t ++ new) is.lit) (put u is.listed)) [
        | inl held ↦ inl (member_any (is_true (t ++ new)) c is.lit (sets.member_of_unit (assigned t) c is.lit is.is) held)
        | inr wrong ↦ inr (inl (record { is = broken-false t new c is.lit is.is wrong; at_most = broken.at_most i (u, is.listed, refl, wrong) }))
      ]

  none-empty : (i : ℕ) → i < length n.clauses → clause_at n.clauses i ≡ [] → ⊥
  none-empty i low none = subst (λ (o : Option ℕ). IsAtMost o i) quiet (net.empty i low none)

  pub begins : IsNet vars (t ++ new) (negated new) (record n { units = []; least = least })
  begins = record {
    shape = record { size = net.shape.size; aligned = net.shape.aligned; room = net.shape.room; within = net.shape.within; low = net.shape.low; entries = net.shape.entries };
    looked = λ i there.
        let c = clause_at n.clauses i in
        let p = pair_at n.pairs i in
        let looked = net.looked i there in
        begin-round t (t ++ new) c (negated new) i p n.lists _ _ (λ l h. assigned_append t new l h) (assigned-grows t new)
        (λ w wrong. elim (member-parts t new (negate w) wrong) as (λ _. (is_false t w ≡ true) ⊎ (member (negated new) w ≡ true)) [ inl old ↦ inl old | inr fresh ↦ inr (negated-member new w fresh) ])
        (settled i)
        (λ same noted. elim (settled i noted) as (λ _. (is_assigned (t ++ new) p.first ≡ true) ⊎ IsNoted (t ++ new) c [] least i) [
          | inl some ↦ let k = some_member (is_true (t ++ new)) c some in
              inl (sets.either_left (is_true (t ++ new) p.first) (is_false (t ++ new) p.first) (subst (λ (x : Literal). is_true (t ++ new) x ≡ true) (looked.pair.one same k.0 k.1) k.2))
          | inr now ↦ inr now
        ])
        looked;
    calm = calm;
    sound = record {
      units_are = λ u h. absurd (omega (arith, h.1));
      least_is = λ j e. let b = broken.is j e in
          subst (λ (k : ℕ). clause_false (t ++ new) (clause_at n.clauses k) ≡ true) b.2 (broken-false t new (clause_at n.clauses b.0.clause) b.0.lit (net.sound.units_are b.0 b.1) b.3);
    };
    least_low = λ j e. let b = broken.is j e in subst (λ (k : ℕ). k < length n.clauses) b.2 (unit-there t n.clauses b.0.clause b.0.lit (net.sound.units_are b.0 b.1));
    empty = λ i low none. absurd (none-empty i low none);
    fresh = λ i low none. absurd (none-empty i low none);
  }

-- Entries of a level that are no decisions.
abbrev pub AreImplied : ℕ → List Step → Type 0
AreImplied d [] = Unit {0}
AreImplied d (e ∷ es) = (e.level ≡ d) × (e.reason ≢ 0) × AreImplied d es

implied-append : (d : ℕ) (b c : List Step) → AreImplied d b → AreImplied d c → AreImplied d (b ++ c)
implied-append d [] c x y = y
implied-append d (e ∷ b) c x y = (x.0, x.1, implied-append d b c x.2 y)

pub implied-level : (d : ℕ) (es : List Step) → AreImplied d es → level es ≡ 0
implied-level d [] h = refl
implied-level d (e ∷ es) h = let first = level_cons e es in let one = none (nat_eq e.reason 0) refl in let rest = implied-level d es h.2 in omega arith
  where
    none : (b : Bool) → nat_eq e.reason 0 ≡ b → ◌≡◌ {A = ℕ} (cond b 1 0) 0
    none true is = absurd (h.1 (sets.nat_is e.reason 0 is))
    none false is = refl

pub implied-cut : (d k : ℕ) (es : List Step) → k < d → AreImplied d es → cut k es ≡ []
implied-cut d k [] low h = refl
implied-cut d k (e ∷ es) low h =
    let level = h.0 in
    let over : nat_le e.level k ≡ false = above e.level k (omega arith) in
    ap (λ b. cond b (e ∷ cut k es) (cut k es)) over ∙ implied-cut d k es low h.2
  where
    above : (a b : ℕ) → b < a → nat_le a b ≡ false
    above a b h = grind (arith, common_steps)

-- What putting units adds.
pub record Adds (d : ℕ) (m n : State) : Type 0 where
  pub new : List Step
  pub is : n.trail ≡ m.trail ++ new
  pub implied : AreImplied d new

pub put-adds : (d : ℕ) (us : List UnitClause) (m : State) → Adds d m (put_entries (entries d us) m)
put-adds d [] m = record { new = []; is = sym (append-nil m.trail); implied = tt }
put-adds d (u ∷ us) m = elim (is_assigned m.trail u.lit) as (λ b. is_assigned m.trail u.lit ≡ b → Adds d m (put_entries (entries d us) (cond b m (assign m (entry d u))))) [
  | true ↦ λ _. put-adds d us m
  | false ↦ λ _.
      let deep = put-adds d us (assign m (entry d u)) in
      record { new = entry d u ∷ deep.new; is = deep.is ∙ append_assoc m.trail (entry d u ∷ []) deep.new; implied = (refl, (λ z. omega (arith, z)), deep.implied) }
] refl

pub put-assigns : (d : ℕ) (us : List UnitClause) (m : State) (u : UnitClause) → Contains us u → is_assigned (put_entries (entries d us) m).trail u.lit ≡ true
put-assigns d [] m u h = absurd (omega (arith, h.1))
put-assigns d (v ∷ us) m u h = elim (first-or_later v u us h) [
  | inl e ↦
      let n = put_one m (entry d v) in
      let adds = put-adds d us n in
      subst (λ (t : List Step). is_assigned t u.lit ≡ true) (sym adds.is) (assigned-grows n.trail adds.new u.lit (subst (λ (x : UnitClause). is_assigned n.trail x.lit ≡ true) e (put-assigned m (entry d v))))
  | inr later ↦ put-assigns d us (put_one m (entry d v)) u later
]

-- The units in another order.
pub reordered : (vars : ℕ) (t later : List Step) (n : Net) (us : List UnitClause) → ((u : UnitClause) → Contains us u → Contains n.units u) → ((u : UnitClause) → Contains n.units u → Contains us u) → IsNet vars t [] n → IsNet vars t [] (record n { units = us })
reordered vars t later n us from all net =
    let noted = λ (i : ℕ) (is : IsNoted t (clause_at n.clauses i) n.units n.least i). elim is as (λ _. IsNoted t (clause_at n.clauses i) us n.least i) [
      | inl f ↦ inl f
      | inr u ↦ inr (record { lit = u.lit; is = u.is; listed = all (record { clause = i; lit = u.lit }) u.listed })
    ] in
    record {
      shape = record { size = net.shape.size; aligned = net.shape.aligned; room = net.shape.room; within = net.shape.within; low = net.shape.low; entries = net.shape.entries };
      looked = λ i there. let is = net.looked i there in record {
        pair = is.pair;
        listed = is.listed;
        excused = λ w watched wrong. elim (is.excused w watched wrong) as (λ _. (is_satisfied t (clause_at n.clauses i) ≡ true) ⊎ (IsNoted t (clause_at n.clauses i) us n.least i ⊎ (member [] w ≡ true))) [ inl some ↦ inl some | inr (inl f) ↦ inr (inl (noted i f)) | inr (inr f) ↦ inr (inr f) ];
        one = λ e. elim (is.one e) as (λ _. (is_assigned t (pair_at n.pairs i).first ≡ true) ⊎ IsNoted t (clause_at n.clauses i) us n.least i) [ inl h ↦ inl h | inr f ↦ inr (noted i f) ];
      };
      calm = net.calm;
      sound = record { units_are = λ u h. net.sound.units_are u (from u h); least_is = net.sound.least_is };
      least_low = net.least_low;
      empty = net.empty;
      fresh = net.fresh;
    }
