-- Each step keeps the trail one of the machine.
use Rattle.std.proofs.Common.{subst, ◌≡◌, ℕ, ◌+◌, ◌<◌, ◌≤◌, true, false, cond, List, [], ◌∷◌, ◌++◌, refl, ap, sym, ◌∙◌, inl, inr, nat_eq, arith}
use Rattle.std.specs.Prelude.{Some, None}
use Rattle.std.specs.List.{find}
use Rattle.std.specs.Option.{option_map_or, option_or}
use Rattle.std.specs.declared.option.Option.{Option}
use Rattle.std.proofs.lemmas.List.{append_assoc}
use Rattle.std.proofs.lemmas.List.Folds.{find-append}
use Rattle.sat_form.specs.Literals.{Literal, negate, same_literal, member, without}
use Rattle.sat_form.specs.Assignment.{is_false, unit_literal}
use Rattle.search_learn.specs.declared.Step.{Step}
use Rattle.search_learn.specs.Trail.{assigned}
use Rattle.search_learn.specs.Rule.{Continues, IsTrail}
use Rattle.search_learn.specs.Analysis.{Resolved, is_resolved, resolve_if, resolve_back}
use Rattle.search_learn.specs.Machine.{Clause, State, clause_at, start}
use Rattle.sat_form.proofs.Numbers.{eq_not_below}
use Rattle.sat_form.proofs.Sets.{one_of, nat_itself, same_is, member_all, member_without, member_put_all, others_false, member_of_unit, absurd_bool}
use Rattle.search_learn.proofs.Entries.{AreReasoned}
use Rattle.search_learn.proofs.Reach.{AreKnown, assigned_append}

-- the ids rise, from low on and below high
abbrev pub Rising : ℕ → ℕ → List Clause → Type 0
Rising low high [] = low ≤ high
Rising low high (c ∷ cs) = (low ≤ c.id) × Rising (c.id + 1) high cs

abbrev pub AreWithin : ℕ → List Clause → Type 0
AreWithin vars [] = Unit {0}
AreWithin vars (c ∷ cs) = ((l : Literal) → member c.lits l ≡ true → (0 < l.var) × (l.var ≤ vars)) × AreWithin vars cs

pub rising_push : (low high : ℕ) (cs : List Clause) (lits : List Literal) → Rising low high cs → Rising low (high + 1) (cs ++ record { id = high; lits = lits } ∷ [])
rising_push low high [] lits h = (h, omega arith)
rising_push low high (c ∷ cs) lits h = (h.0, rising_push (c.id + 1) high cs lits h.1)

pub within_push : (vars : ℕ) (cs : List Clause) (c : Clause) → AreWithin vars cs → ((l : Literal) → member c.lits l ≡ true → (0 < l.var) × (l.var ≤ vars)) → AreWithin vars (cs ++ c ∷ [])
within_push vars [] c h here = (here, tt)
within_push vars (x ∷ cs) c h here = (h.0, within_push vars cs c h.1 here)

-- Clauses with rising ids are found by their ids.
known_from : (vars : ℕ) (before cs : List Clause) (low high : ℕ) → 0 < low → ((id : ℕ) → low ≤ id → find (λ x. nat_eq x.id id) before ≡ None) → Rising low high cs → AreWithin vars cs → AreKnown (before ++ cs) vars cs
known_from vars before [] low high above none rising within = tt
known_from vars before (c ∷ cs) low high above none rising within = (
  record {
    found = find-append (λ x. nat_eq x.id c.id) before (c ∷ cs)
        ∙ ap (λ o. option_or o (cond (nat_eq c.id c.id) (Some c) (find (λ x. nat_eq x.id c.id) cs))) (none c.id rising.0)
        ∙ ap (λ b. cond b (Some c) (find (λ x. nat_eq x.id c.id) cs)) (nat_itself c.id);
    above = λ z. absurd (low_id c.id low z above rising.0);
    within = within.0;
  },
  subst (λ (l : List Clause). AreKnown l vars cs) (append_assoc before (c ∷ []) cs)
      (known_from vars (before ++ c ∷ []) cs (c.id + 1) high (omega arith) (λ id h.
      find-append (λ x. nat_eq x.id id) before (c ∷ [])
      ∙ ap (λ o. option_or o (cond (nat_eq c.id id) (Some c) None)) (none id (let first : low ≤ c.id = rising.0 in omega arith))
      ∙ ap (λ b. cond b (Some c) None) (eq_not_below c.id id (omega arith))) rising.1 within.1),
)
  where
    low_id : (id low : ℕ) → id ≡ 0 → 0 < low → low ≤ id → ⊥
    low_id id low z a b = omega arith

pub are_known : (vars high : ℕ) (cs : List Clause) → Rising 1 high cs → AreWithin vars cs → AreKnown cs vars cs
are_known vars high cs rising within = known_from vars [] cs 1 high (omega arith) (λ id h. refl) rising within

-- More clauses leave the reasons as they are.
pub clause_kept : (cs : List Clause) (c : Clause) (id : ℕ) (l : Literal) → member (clause_at cs id) l ≡ true → clause_at (cs ++ c ∷ []) id ≡ clause_at cs id
clause_kept cs c id l has =
    ap (λ o. option_map_or (λ x. x.lits) o []) (find-append (λ x. nat_eq x.id id) cs (c ∷ []))
    ∙ stays (find (λ x. nat_eq x.id id) cs) (cond (nat_eq c.id id) (Some c) None) has
  where
    stays : (o p : Option Clause) → member (option_map_or (λ x. x.lits) o []) l ≡ true → option_map_or (λ x. x.lits) (option_or o p) [] ≡ option_map_or (λ x. x.lits) o []
    stays None p h = absurd_bool h
    stays (Some x) p h = refl

pub continues_same : (lits_of lits_of' : ℕ → List Literal) (vars : ℕ) → ((id : ℕ) (l : Literal) → member (lits_of id) l ≡ true → lits_of' id ≡ lits_of id)
    → (before later : List Step) → Continues lits_of vars before later → Continues lits_of' vars before later
continues_same lits_of lits_of' vars same before [] cont = tt
continues_same lits_of lits_of' vars same before (e ∷ later) cont = (
  record {
    above = cont.0.above;
    within = cont.0.within;
    new = cont.0.new;
    decided = cont.0.decided;
    at_level = cont.0.at_level;
    implied = λ n. ap (unit_literal (assigned before)) (same e.reason e.lit (member_of_unit (assigned before) (lits_of e.reason) e.lit (cont.0.implied n))) ∙ cont.0.implied n;
  },
  continues_same lits_of lits_of' vars same (before ++ e ∷ []) later cont.1,
)

-- what stands on a trail is in range
pub in_range : (lits_of : ℕ → List Literal) (vars : ℕ) (before later : List Step) (x : Literal) → Continues lits_of vars before later → member (assigned later) x ≡ true → (0 < x.var) × (x.var ≤ vars)
in_range lits_of vars before [] x cont has = absurd_bool has
in_range lits_of vars before (e ∷ later) x cont has =
    elim (one_of (same_literal x e.lit) (member (assigned later) x) has) [
      | inl same ↦ let is = ap (λ (k : Literal). k.var) (same_is x e.lit same) in let a = cont.0.above in let b = cont.0.within in (omega arith, omega arith)
      | inr deep ↦ in_range lits_of vars (before ++ e ∷ []) later x cont.1 deep
    ]

-- The literals of a lesson are false on the trail.
pub lesson_false : (lits_of : ℕ → List Literal) (vars : ℕ) (trail : List Step) (d : ℕ) (start : Resolved)
    → ((k : Literal) → member start.lits k ≡ true → is_false (assigned trail) k ≡ true)
    → (before later : List Step) → trail ≡ before ++ later → Continues lits_of vars before later → AreReasoned lits_of trail d start later
    → (k : Literal) → member (resolve_back lits_of trail d start later).lits k ≡ true → is_false (assigned trail) k ≡ true
lesson_false lits_of vars trail d start all before [] split cont reasoned k has = all k has
lesson_false lits_of vars trail d start all before (e ∷ later) split cont reasoned k has =
    let r = resolve_back lits_of trail d start later in
    let deep = lesson_false lits_of vars trail d start all (before ++ e ∷ []) later (split ∙ sym (append_assoc before (e ∷ []) later)) cont.1 reasoned.1 in
    elim (is_resolved lits_of trail d r.lits e) as (λ t. is_resolved lits_of trail d r.lits e ≡ t → member (resolve_if lits_of trail d t r e).lits k ≡ true → is_false (assigned trail) k ≡ true) [
      | true ↦ λ resolved one. elim (member_put_all (without r.lits (negate e.lit)) (without (lits_of e.reason) e.lit) k one) [
        | inl kept ↦ deep k (member_without r.lits (negate e.lit) k kept)
        | inr new ↦ ap (λ t. is_false (assigned t) k) split
            ∙ assigned_append before (e ∷ later) (negate k) (member_all (is_false (assigned before)) (without (lits_of e.reason) e.lit) k (others_false (assigned before) (lits_of e.reason) e.lit (cont.0.implied (reasoned.0 resolved))) new)
      ]
      | false ↦ λ passed one. deep k one
    ] refl has

-- What a state keeps.
pub record Kept (m : State) : Type 0 where
  pub is_trail : IsTrail (clause_at m.clauses) m.vars m.trail
  pub rising : Rising 1 (m.inputs + m.conflicts + 1) m.clauses
  pub within : AreWithin m.vars m.clauses
