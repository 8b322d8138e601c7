-- A learnt clause checks by its hints in trail order.
use Rattle.std.proofs.Common.{◌≡◌, ◌≢◌, ℕ, true, false, ◌||◌, cond, List, [], ◌∷◌, ◌++◌, refl, ap, sym, ◌∙◌, map, ◌⊎◌, inl, inr}
use Rattle.std.specs.Prelude.{Some}
use Rattle.sat_form.specs.Literals.{Literal, negate, same_literal, member, without, set_of}
use Rattle.sat_form.specs.Assignment.{is_true, is_false, clause_false, unit_literal}
use Rattle.search_learn.specs.declared.Step.{Step}
use Rattle.search_learn.specs.Analysis.{Resolved, is_resolved, resolve_if, resolve_next, resolve_back, lesson}
use Rattle.search_learn.specs.Trail.{assigned}
use Rattle.search_learn.specs.Rule.{Continues, IsTrail}
use Rattle.lrat_lines.specs.Judge.{Clauses, clause_of, Taken, take_hints, take_clause, take_unit}
use Rattle.lrat_lines.specs.Judge.Taken.{Conflict, Units, Stop}
use Rattle.search_learn.proofs.Entries.{AreReasoned, assigned_more, assigned_last}
use Rattle.sat_form.proofs.Sets.{neither, one_of, decided, same_is, all_but, all_put_all, all_weaker, unit_of, false_more, negation_false, member_all, member_of_unit, member_without, without_itself, member_put_all, others_false, true_negated, false_negated, negate_twice}

-- what a hint's clause makes of the hints behind it
abbrev go_on : Clauses → List ℕ → Taken → Taken
go_on db ids t = elim t as (λ _. Taken) [ Conflict ↦ Conflict | Units b ↦ take_hints db b ids | Stop cause ↦ Stop cause ]

pub hint_false : (db : Clauses) (a c : List Literal) (id : ℕ) (ids : List ℕ) → clause_of db id ≡ Some c → clause_false a c ≡ true → take_hints db a (id ∷ ids) ≡ Conflict
hint_false db a c id ids there all =
    ap (λ o. go_on db ids (take_clause id a o)) there
    ∙ ap (λ b. go_on db ids (cond b Conflict (take_unit id a (unit_literal a c)))) all

pub hint_unit : (db : Clauses) (a c : List Literal) (l : Literal) (id : ℕ) (ids : List ℕ) → clause_of db id ≡ Some c → clause_false a c ≡ false → unit_literal a c ≡ Some l
    → take_hints db a (id ∷ ids) ≡ take_hints db (l ∷ a) ids
hint_unit db a c l id ids there some unit =
    ap (λ o. go_on db ids (take_clause id a o)) there
    ∙ ap (λ b. go_on db ids (cond b Conflict (take_unit id a (unit_literal a c)))) some
    ∙ ap (λ o. go_on db ids (take_unit id a o)) unit

module _ (db : Clauses) (lits_of : ℕ → List Literal) (trail : List Step) (d : ℕ) (start : Resolved) where
  -- the reason of an entry that is resolved is a clause there, with the entry's literal
  pub record HasReason (e : Step) : Type 0 where
    pub there : clause_of db e.reason ≡ Some (lits_of e.reason)
    pub has : member (lits_of e.reason) e.lit ≡ true

  -- What the entries owe, on an assignment a: one that is resolved has its reason, and its literal is new, also behind those taken before it.
  abbrev pub AreNew : List Literal → List Step → Type 0
  AreNew a [] = Unit {0}
  AreNew a (e ∷ later) =
      (is_resolved lits_of trail d (resolve_back lits_of trail d start later).lits e ≡ true → HasReason e × (is_true a e.lit ≡ false) × AreNew (e.lit ∷ a) later)
      × (is_resolved lits_of trail d (resolve_back lits_of trail d start later).lits e ≡ false → AreNew a later)

  -- From the set in which the entries end, the hints of those that were resolved lead to a conflict.
  pub follows : (tail : List ℕ) → ((b : List Literal) → clause_false b start.lits ≡ true → take_hints db b (start.used ++ tail) ≡ Conflict)
      → (later : List Step) (a : List Literal) → AreNew a later → clause_false a (resolve_back lits_of trail d start later).lits ≡ true
      → take_hints db a ((resolve_back lits_of trail d start later).used ++ tail) ≡ Conflict
  follows tail finish [] a new h = finish a h
  follows tail finish (e ∷ later) a new h =
      let r = resolve_back lits_of trail d start later in
      elim (is_resolved lits_of trail d r.lits e) as (λ t. is_resolved lits_of trail d r.lits e ≡ t
      → clause_false a (resolve_if lits_of trail d t r e).lits ≡ true → take_hints db a ((resolve_if lits_of trail d t r e).used ++ tail) ≡ Conflict) [
        | true ↦ λ resolved all.
            let owed = new.0 resolved in
            let parts = all_put_all (is_false a) (without r.lits (negate e.lit)) (without (lits_of e.reason) e.lit) all in
            elim (is_false a e.lit) as (λ t. is_false a e.lit ≡ t → take_hints db a (e.reason ∷ (r.used ++ tail)) ≡ Conflict) [
              | true ↦ λ false_too. hint_false db a (lits_of e.reason) e.reason (r.used ++ tail) owed.0.there (all_but (is_false a) e.lit false_too (lits_of e.reason) parts.1)
              | false ↦ λ unfalse.
                  let unit = unit_of a (lits_of e.reason) e.lit owed.0.has parts.1 owed.1 unfalse in
                  hint_unit db a (lits_of e.reason) e.lit e.reason (r.used ++ tail) owed.0.there unit.0 unit.1
                  ∙ follows tail finish later (e.lit ∷ a) owed.2
                  (all_but (is_false (e.lit ∷ a)) (negate e.lit) (negation_false a e.lit) r.lits
                  (all_weaker (is_false a) (is_false (e.lit ∷ a)) (false_more a e.lit) (without r.lits (negate e.lit)) parts.0))
            ] refl
        | false ↦ λ passed all. follows tail finish later a (new.1 passed) all
      ] refl h

module _ (db : Clauses) (lits_of : ℕ → List Literal) (vars : ℕ) (trail : List Step) (d : ℕ) (start : Resolved) where
  -- the literal of an entry that is resolved isn't true
  abbrev pub AreFresh : List Literal → List Step → Type 0
  AreFresh a [] = Unit {0}
  AreFresh a (e ∷ later) = (is_resolved lits_of trail d (resolve_back lits_of trail d start later).lits e ≡ true → is_true a e.lit ≡ false) × AreFresh a later

  -- what stands on the trail isn't the literal of a later entry
  fresh_more : (before later : List Step) (x : Literal) (a : List Literal) → Continues lits_of vars before later → member (assigned before) x ≡ true → AreFresh a later → AreFresh (x ∷ a) later
  fresh_more before [] x a cont has fresh = tt
  fresh_more before (e ∷ later) x a cont has fresh =
      let unassigned = neither (is_true (assigned before) e.lit) (is_false (assigned before) e.lit) cont.0.new in (
        λ resolved. decided (same_literal e.lit x || is_true a e.lit) (λ one. elim (one_of (same_literal e.lit x) (is_true a e.lit) one) [
          | inl same ↦ sym unassigned.0 ∙ ap (member (assigned before)) (same_is e.lit x same) ∙ has
          | inr old ↦ sym (fresh.0 resolved) ∙ old
        ]),
        fresh_more (before ++ e ∷ []) later x a cont.1 (assigned_more before e x has) fresh.1,
      )

  are_new : ((id : ℕ) (l : Literal) → member (lits_of id) l ≡ true → clause_of db id ≡ Some (lits_of id))
      → (before later : List Step) (a : List Literal) → Continues lits_of vars before later → AreReasoned lits_of trail d start later → AreFresh a later → AreNew db lits_of trail d start a later
  are_new there before [] a cont reasoned fresh = tt
  are_new there before (e ∷ later) a cont reasoned fresh = (
    λ resolved.
        let has = member_of_unit (assigned before) (lits_of e.reason) e.lit (cont.0.implied (reasoned.0 resolved)) in (
          record { there = there e.reason e.lit has; has = has },
          fresh.0 resolved,
          are_new there (before ++ e ∷ []) later (e.lit ∷ a) cont.1 reasoned.1 (fresh_more (before ++ e ∷ []) later e.lit a cont.1 (assigned_last before e) fresh.1),
        ),
    λ passed. are_new there (before ++ e ∷ []) later a cont.1 reasoned.1 fresh.1,
  )

  -- Each member of the set is one of those behind the entries, or false before them.
  abbrev Covered : List Step → List Step → List Literal → Type 0
  Covered before later s = (k : Literal) → member s k ≡ true → (member (resolve_back lits_of trail d start later).lits k ≡ true) ⊎ (is_false (assigned before) k ≡ true)

  are_fresh : (before later : List Step) (s : List Literal) → Continues lits_of vars before later → AreReasoned lits_of trail d start later → Covered before later s → AreFresh (map negate s) later
  are_fresh before [] s cont reasoned covered = tt
  are_fresh before (e ∷ later) s cont reasoned covered =
      let r = resolve_back lits_of trail d start later in
      let unassigned = neither (is_true (assigned before) e.lit) (is_false (assigned before) e.lit) cont.0.new in
      let clash : is_false (assigned before) (negate e.lit) ≡ true → false ≡ true = λ h. sym unassigned.0 ∙ ap (member (assigned before)) (sym (negate_twice e.lit)) ∙ h in
      let others = λ (n : e.reason ≢ 0). others_false (assigned before) (lits_of e.reason) e.lit (cont.0.implied n) in
      let step = λ (resolved : is_resolved lits_of trail d r.lits e ≡ true) (k : Literal) (has : member (resolve_next lits_of trail d r e).lits k ≡ true).
      member_put_all (without r.lits (negate e.lit)) (without (lits_of e.reason) e.lit) k (ap (λ t. member (resolve_if lits_of trail d t r e).lits k) (sym resolved) ∙ has) in (
        λ resolved. true_negated s e.lit ∙ decided (member s (negate e.lit)) (λ has. elim (covered (negate e.lit) has) [
          | inl back ↦ elim (step resolved (negate e.lit) back) [
            | inl kept ↦ without_itself r.lits (negate e.lit) kept
            | inr new ↦ clash (member_all (is_false (assigned before)) (without (lits_of e.reason) e.lit) (negate e.lit) (others (reasoned.0 resolved)) new)
          ]
          | inr early ↦ clash early
        ]),
        are_fresh (before ++ e ∷ []) later s cont.1 reasoned.1 (λ k has. elim (covered k has) [
          | inr early ↦ inr (assigned_more before e (negate k) early)
          | inl back ↦ elim (is_resolved lits_of trail d r.lits e) as (λ t. is_resolved lits_of trail d r.lits e ≡ t → (member r.lits k ≡ true) ⊎ (is_false (assigned (before ++ e ∷ [])) k ≡ true)) [
            | true ↦ λ resolved. elim (step resolved k back) [
              | inl kept ↦ inl (member_without r.lits (negate e.lit) k kept)
              | inr new ↦ inr (assigned_more before e (negate k) (member_all (is_false (assigned before)) (without (lits_of e.reason) e.lit) k (others (reasoned.0 resolved)) new))
            ]
            | false ↦ λ passed. inl (ap (λ t. member (resolve_if lits_of trail d t r e).lits k) (sym passed) ∙ back)
          ] refl
        ]),
      )

-- The clause that a conflict teaches checks by its hints.
pub lesson_checks : (db : Clauses) (lits_of : ℕ → List Literal) (vars : ℕ) (trail : List Step) (d false_id : ℕ)
    → ((id : ℕ) (l : Literal) → member (lits_of id) l ≡ true → clause_of db id ≡ Some (lits_of id))
    → clause_of db false_id ≡ Some (lits_of false_id)
    → IsTrail lits_of vars trail
    → AreReasoned lits_of trail d (record { lits = set_of (lits_of false_id); used = [] }) trail
    → let s = lesson lits_of trail d false_id in take_hints db (map negate s.lits) s.hints ≡ Conflict
lesson_checks db lits_of vars trail d false_id there there_false is_trail reasoned =
    let start : Resolved = record { lits = set_of (lits_of false_id); used = [] } in
    let end = resolve_back lits_of trail d start trail in
    follows db lits_of trail d start (false_id ∷ [])
    (λ b all. hint_false db b (lits_of false_id) false_id [] there_false (all_put_all (is_false b) [] (lits_of false_id) all).1)
    trail (map negate end.lits)
    (are_new db lits_of vars trail d start there [] trail (map negate end.lits) is_trail reasoned
    (are_fresh db lits_of vars trail d start [] trail end.lits is_trail reasoned (λ k has. inl has)))
    (false_negated end.lits)
