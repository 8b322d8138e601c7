-- Every state that the machine reaches has a trail of the machine.
use Rattle.std.proofs.Common.{subst, ◌≡◌, ◌≢◌, ℕ, zero, suc, ◌+◌, ◌-◌, ◌*◌, ◌<◌, ◌≤◌, Bool, true, false, not, ◌&&◌, ◌||◌, cond, List, [], ◌∷◌, refl, ap, sym, ◌∙◌, ◌⊎◌, inl, inr, nat_eq, nat_le, nat_lt, get_or, length, arith}
use Rattle.std.specs.Prelude.{Some, None, is_none}
use Rattle.std.specs.List.{list_all, find, range_with_len}
use Rattle.std.specs.declared.option.Option.{Option}
use Rattle.std.proofs.lemmas.Grind.{common_steps}
use Rattle.sat_form.specs.Literals.{Literal, negate, member, set_of}
use Rattle.sat_form.specs.Assignment.{is_true, is_false, is_assigned, clause_false}
use Rattle.search_learn.specs.declared.Step.{Step}
use Rattle.search_learn.specs.declared.Turn.TheVariants.{More, Sat, Unsat, Budget}
use Rattle.sat_form.specs.Shape.{variables_within}
use Rattle.search_learn.specs.Luby.{luby}
use Rattle.search_learn.specs.Trail.{assigned, level, cut}
use Rattle.sat_form.specs.Assignment as assignment
use Rattle.std.specs.Option.{option_map_or}
use Rattle.std.proofs.lemmas.List.{append-nil}
use Rattle.search_learn.specs.Rule.{IsTrail}
use Rattle.search_learn.specs.Analysis.{Resolved, lesson}
use Rattle.search_learn.specs.Machine as machine
use Rattle.search_learn.specs.Machine.{Clause, State, clause_at, choose, numbered, start, step, step_from, step_if, move, conflict, conflict_with, after_lesson, count_conflict, add_lesson, restart, decide, false_clause, has_unit, all_assigned, is_sat, steps, Reached}
use Rattle.sat_form.proofs.Sets.{both, neither, absurd_bool, set_of_member, member_all}
use Rattle.search_learn.proofs.Decisions.{clash, are_reasoned}
use Rattle.search_learn.proofs.Reach.{IsKnown, AreKnown, cut_continues, continues_push, propagate_keeps}
use Rattle.search_learn.proofs.Keeps.{Rising, AreWithin, rising_push, within_push, are_known, clause_kept, continues_same, in_range, lesson_false, Kept}

abbrev pub variable : ℕ → Literal
variable v = record { var = v; positive = true }

-- what is chosen: an unassigned variable
pub record IsFree (m : State) (v : ℕ) : Type 0 where
  pub above : 0 < v
  pub within : v ≤ m.vars
  pub free : is_assigned (assigned m.trail) (variable v) ≡ false

abbrev pub InRange : State → List ℕ → Type 0
InRange m [] = Unit {0}
InRange m (v ∷ vs) = (0 < v) × (v ≤ m.vars) × InRange m vs

not_true : (b : Bool) → not b ≡ true → b ≡ false
not_true true h = sym h
not_true false h = refl

pub choose_free : (m : State) (best : ℕ) (vs : List ℕ) → InRange m vs → (best ≡ 0) ⊎ IsFree m best → (choose m best vs ≡ 0) ⊎ IsFree m (choose m best vs)
choose_free m best [] r h = h
choose_free m best (v ∷ vs) r h =
    elim (not (is_assigned (assigned m.trail) (variable v)) && (nat_eq best 0 || nat_lt (get_or m.scores (best - 1) 0) (get_or m.scores (v - 1) 0))) as
    (λ b. (not (is_assigned (assigned m.trail) (variable v)) && (nat_eq best 0 || nat_lt (get_or m.scores (best - 1) 0) (get_or m.scores (v - 1) 0))) ≡ b
    → (cond b (choose m v vs) (choose m best vs) ≡ 0) ⊎ IsFree m (cond b (choose m v vs) (choose m best vs))) [
      | true ↦ λ taken. choose_free m v vs r.2 (inr (record { above = r.0; within = r.1; free = not_true (is_assigned (assigned m.trail) (variable v)) (both _ _ taken).0 }))
      | false ↦ λ _. choose_free m best vs r.2 h
    ] refl

pub choose_some : (m : State) (best : ℕ) (vs : List ℕ) → InRange m vs → (best ≢ 0) ⊎ (list_all (λ v. is_assigned (assigned m.trail) (variable v)) vs ≡ false) → choose m best vs ≢ 0
choose_some m best [] r (inl h) = h
choose_some m best [] r (inr h) = λ _. absurd_bool (sym h)
choose_some m best (v ∷ vs) r h =
    elim (is_assigned (assigned m.trail) (variable v)) as
    (λ a. is_assigned (assigned m.trail) (variable v) ≡ a → cond (not a && (nat_eq best 0 || nat_lt (get_or m.scores (best - 1) 0) (get_or m.scores (v - 1) 0))) (choose m v vs) (choose m best vs) ≢ 0) [
      | true ↦ λ assigned_v. choose_some m best vs r.2 (elim h [ inl n ↦ inl n | inr some ↦ inr (ap (λ b. b && list_all (λ v. is_assigned (assigned m.trail) (variable v)) vs) (sym assigned_v) ∙ some) ])
      | false ↦ λ free.
          elim (nat_eq best 0 || nat_lt (get_or m.scores (best - 1) 0) (get_or m.scores (v - 1) 0)) as
          (λ b. (nat_eq best 0 || nat_lt (get_or m.scores (best - 1) 0) (get_or m.scores (v - 1) 0)) ≡ b → cond b (choose m v vs) (choose m best vs) ≢ 0) [
            | true ↦ λ _. choose_some m v vs r.2 (inl (λ z. let a = r.0 in absurd (omega arith)))
            | false ↦ λ kept. choose_some m best vs r.2 (inl (λ z. clash (nat_eq best 0) (ap (λ n. nat_eq n 0) z) (neither _ _ kept).0))
          ] refl
    ] refl

pub range_in : (m : State) (low n : ℕ) → 0 < low → low + n ≤ m.vars + 1 → InRange m (range_with_len low n)
range_in m low zero above end = tt
range_in m low (suc n) above end = (above, omega arith, range_in m (low + 1) n (omega arith) (omega arith))

pub either_sign : (trail : List Step) (v : ℕ) (b : Bool) → is_assigned (assigned trail) (record { var = v; positive = true }) ≡ false → is_assigned (assigned trail) (record { var = v; positive = b }) ≡ false
either_sign trail v true h = h
either_sign trail v false h =
    let parts = neither (member (assigned trail) (record { var = v; positive = true })) (member (assigned trail) (record { var = v; positive = false })) h in
    ap (λ x. x || member (assigned trail) (record { var = v; positive = true })) parts.1 ∙ parts.0

decide_keeps : (m : State) (v : ℕ) → Kept m → IsFree m v → Kept (decide m v)
decide_keeps m v kept free =
    let sign = get_or m.signs (v - 1) false in
    let e : Step = record { lit = record { var = v; positive = sign }; level = level m.trail + 1; reason = 0 } in
    record {
      is_trail = continues_push (clause_at m.clauses) m.vars [] m.trail e kept.is_trail (record {
        above = free.above;
        within = free.within;
        new = either_sign m.trail v sign free.free;
        decided = λ _. refl;
        at_level = λ n. absurd (n refl);
        implied = λ n. absurd (n refl);
      });
      rising = kept.rising;
      within = kept.within;
    }

-- what case 4 leaves as it is
pub record IsSame (m t : State) : Type 0 where
  pub clauses : t.clauses ≡ m.clauses
  pub vars : t.vars ≡ m.vars
  pub next : t.inputs + t.conflicts ≡ m.inputs + m.conflicts

pub same_propagated : (seen : List Step) (cs : List Clause) (m : State) → IsSame m (machine.propagate seen cs m)
same_propagated seen [] m = record { clauses = refl; vars = refl; next = refl }
same_propagated seen (c ∷ cs) m =
    let l = assignment.unit_literal (assigned seen) c.lits in
    let one = same_one l in
    let rest = same_propagated seen cs (machine.propagate_one seen c l m) in
    record { clauses = rest.clauses ∙ one.clauses; vars = rest.vars ∙ one.vars; next = rest.next ∙ one.next }
  where
    same_if : (b : Bool) (e : Step) → IsSame m (cond b m (machine.assign m e))
    same_if true e = record { clauses = refl; vars = refl; next = refl }
    same_if false e = record { clauses = refl; vars = refl; next = refl }

    same_one : (o : Option Literal) → IsSame m (machine.propagate_one seen c o m)
    same_one None = record { clauses = refl; vars = refl; next = refl }
    same_one (Some l) = same_if (is_assigned (assigned m.trail) l) (record { lit = l; level = level seen; reason = c.id })

kept_same : (m t : State) → Kept m → IsSame m t → IsTrail (clause_at m.clauses) m.vars t.trail → Kept t
kept_same m t kept same trail =
    record {
      is_trail = subst (λ (v : ℕ). IsTrail (clause_at t.clauses) v t.trail) (sym same.vars) (subst (λ (cs : List Clause). IsTrail (clause_at cs) m.vars t.trail) (sym same.clauses) trail);
      rising = subst (λ (cs : List Clause). Rising 1 (t.inputs + t.conflicts + 1) cs) (sym same.clauses) (subst (λ (n : ℕ). Rising 1 (n + 1) m.clauses) (sym same.next) kept.rising);
      within = subst (λ (v : ℕ). AreWithin v t.clauses) (sym same.vars) (subst (λ (cs : List Clause). AreWithin m.vars cs) (sym same.clauses) kept.within);
    }

pub propagate_kept : (m : State) → Kept m → Kept (machine.propagate m.trail m.clauses m)
propagate_kept m kept =
    kept_same m (machine.propagate m.trail m.clauses m) kept (same_propagated m.trail m.clauses m)
    (propagate_keeps m.clauses m.vars m.trail m.clauses (are_known m.vars (m.inputs + m.conflicts + 1) m.clauses kept.rising kept.within) m
    (record { is_trail = kept.is_trail; new = []; begins = sym (append-nil m.trail); level_is = refl })).is_trail

-- what is found is one of the list, and passes
pub found_known : (all : List Clause) (vars : ℕ) (p : Clause → Bool) (cs : List Clause) (c : Clause) → AreKnown all vars cs → find p cs ≡ Some c → IsKnown all vars c × (p c ≡ true)
found_known all vars p [] c known h = cc
found_known all vars p (x ∷ cs) c known h =
    elim (p x) as (λ b. p x ≡ b → cond b (Some x) (find p cs) ≡ Some c → IsKnown all vars c × (p c ≡ true)) [
      | true ↦ λ passes here. let e : x ≡ c = cc in (subst (λ (y : Clause). IsKnown all vars y) e known.0, ap p (sym e) ∙ passes)
      | false ↦ λ _ later. found_known all vars p cs c known.1 later
    ] refl h

rising_more : (low high : ℕ) (cs : List Clause) → Rising low high cs → Rising low (high + 1) cs
rising_more low high [] h = omega arith
rising_more low high (c ∷ cs) h = (h.0, rising_more (c.id + 1) high cs h.1)

restart_kept : (m : State) → Kept m → Kept (restart m)
restart_kept m kept =
    elim (nat_eq m.since (64 * luby (m.restarts + 1))) as (λ b. Kept (elim b as (λ _. State) [ true ↦ record m { trail = cut 0 m.trail; restarts = m.restarts + 1; since = 0 } | false ↦ m ])) [
      | true ↦ record { is_trail = cut_continues (clause_at m.clauses) m.vars 0 [] m.trail kept.is_trail; rising = kept.rising; within = kept.within }
      | false ↦ kept
    ]

-- on the false clause
pub conflict_kept : (m : State) (c : Clause) → Kept m → false_clause m ≡ Some c → Kept (conflict m c).state
conflict_kept m c kept found =
    let high = m.inputs + m.conflicts + 1 in
    let known = are_known m.vars high m.clauses kept.rising kept.within in
    let here = found_known m.clauses m.vars (λ x. clause_false (assigned m.trail) x.lits) m.clauses c known found in
    let lits_of = clause_at m.clauses in
    let lits : lits_of c.id ≡ c.lits = ap (λ o. option_map_or (λ x. x.lits) o []) here.0.found in
    let start : Resolved = record { lits = set_of (lits_of c.id); used = [] } in
    let all : (k : Literal) → member start.lits k ≡ true → is_false (assigned m.trail) k ≡ true =
    λ k has. member_all (is_false (assigned m.trail)) (lits_of c.id) k (ap (clause_false (assigned m.trail)) lits ∙ here.1) (set_of_member (lits_of c.id) k has) in
    let reasoned = are_reasoned lits_of m.vars m.trail (level m.trail) start [] m.trail refl kept.is_trail (λ k none. absurd_bool none) refl all in
    let s = lesson lits_of m.trail (level m.trail) c.id in
    let ranged : (l : Literal) → member s.lits l ≡ true → (0 < l.var) × (l.var ≤ m.vars) =
    λ l has. in_range lits_of m.vars [] m.trail (negate l) kept.is_trail (lesson_false lits_of m.vars m.trail (level m.trail) start all [] m.trail refl kept.is_trail reasoned l has) in
    let m1 = count_conflict m in
    let m2 = add_lesson m1 s in
    let same_next : m.inputs + m.conflicts + 1 ≡ m.inputs + (m.conflicts + 1) = omega arith in
    let kept1 : Kept m1 = record { is_trail = kept.is_trail; rising = subst (λ (n : ℕ). Rising 1 n m.clauses) (ap (λ n. n + 1) same_next) (rising_more 1 high m.clauses kept.rising); within = kept.within } in
    let kept2 : Kept m2 = record {
      is_trail = continues_same lits_of (clause_at m2.clauses) m.vars (clause_kept m.clauses (record { id = m1.inputs + m1.conflicts; lits = s.lits })) [] (cut s.back m.trail)
          (cut_continues lits_of m.vars s.back [] m.trail kept.is_trail);
      rising = rising_push 1 (m1.inputs + m1.conflicts) m.clauses s.lits (subst (λ (n : ℕ). Rising 1 n m.clauses) same_next kept.rising);
      within = within_push m.vars m.clauses (record { id = m1.inputs + m1.conflicts; lits = s.lits }) kept.within ranged;
    } in
    elim s.lits as (λ ls. Kept (after_lesson m1 s ls)) [
      | [] ↦ record { is_trail = kept1.is_trail; rising = kept1.rising; within = kept1.within }
      | l ∷ ls ↦ restart_kept m2 kept2
    ]

move_kept : (m : State) → Kept m → is_sat m ≡ false → Kept (move m (false_clause m)).state
move_kept m kept unsat =
    elim (false_clause m) as (λ o. false_clause m ≡ o → Kept (move m o).state) [
      | Some c ↦ λ found. conflict_kept m c kept found
      | None ↦ λ none. elim (has_unit m) as (λ b. has_unit m ≡ b → Kept (elim b as (λ _. machine.Moved) [ true ↦ machine.quietly (machine.propagate m.trail m.clauses m) | false ↦ machine.quietly (decide m (choose m 0 (range_with_len 1 m.vars))) ]).state) [
        | true ↦ λ _. propagate_kept m kept
        | false ↦ λ no_unit.
            let ranged = range_in m 1 m.vars (omega arith) (omega arith) in
            let some2 : all_assigned m ≡ false = ap (λ b. not b && all_assigned m) (sym no_unit) ∙ (ap (λ o. (is_none o && not (has_unit m)) && all_assigned m) (sym none) ∙ unsat) in
            elim (choose_free m 0 (range_with_len 1 m.vars) ranged (inl refl)) [
              | inl none_chosen ↦ absurd (choose_some m 0 (range_with_len 1 m.vars) ranged (inr some2) none_chosen)
              | inr free ↦ decide_keeps m (choose m 0 (range_with_len 1 m.vars)) kept free
            ]
      ] refl
    ] refl

pub step_kept : (budget : ℕ) (m : State) → Kept m → Kept (step budget m).state
unfolding step
step_kept budget m kept =
    elim m.end as (λ t. Kept (step_from t budget m).state) [
      | More ↦ elim (is_sat m) as (λ b. is_sat m ≡ b → Kept (step_if b (nat_le budget m.spent) m).state) [
        | true ↦ λ _. record { is_trail = kept.is_trail; rising = kept.rising; within = kept.within }
        | false ↦ λ unsat. elim (nat_le budget m.spent) as (λ b. Kept (step_if false b m).state) [
          | true ↦ record { is_trail = kept.is_trail; rising = kept.rising; within = kept.within }
          | false ↦ move_kept m kept unsat
        ]
      ] refl
      | Sat ↦ kept
      | Unsat ↦ kept
      | Budget n ↦ kept
    ]

numbered_rising : (k : ℕ) (cs : List (List Literal)) → Rising k (k + length cs) (numbered k cs)
numbered_rising k [] = omega arith
numbered_rising k (c ∷ cs) = (omega arith, subst (λ (n : ℕ). Rising (k + 1) n (numbered (k + 1) cs)) (length_step k (length cs)) (numbered_rising (k + 1) cs))
  where
    length_step : (k n : ℕ) → (k + 1) + n ≡ k + suc n
    length_step k n = omega arith

pub in_range_all : (vars : ℕ) (l : Literal) → (nat_lt 0 l.var && nat_le l.var vars) ≡ true → (0 < l.var) × (l.var ≤ vars)
in_range_all vars l h = let parts = both (nat_lt 0 l.var) (nat_le l.var vars) h in let a = parts.0 in let b = parts.1 in (grind (arith, common_steps), grind (arith, common_steps))

numbered_within : (vars k : ℕ) (cs : List (List Literal)) → variables_within vars cs ≡ true → AreWithin vars (numbered k cs)
numbered_within vars k [] h = tt
numbered_within vars k (c ∷ cs) h =
    let parts = both (list_all (λ l. nat_lt 0 l.var && nat_le l.var vars) c) (variables_within vars cs) h in
    (λ l has. in_range_all vars l (member_all (λ x. nat_lt 0 x.var && nat_le x.var vars) c l parts.0 has), numbered_within vars (k + 1) cs parts.1)

pub start_kept : (vars : ℕ) (cs : List (List Literal)) → variables_within vars cs ≡ true → Kept (start vars cs)
start_kept vars cs h =
    record {
      is_trail = tt;
      rising = subst (λ (n : ℕ). Rising 1 n (numbered 1 cs)) (first_next (length cs)) (numbered_rising 1 cs);
      within = numbered_within vars 1 cs h;
    }
  where
    first_next : (n : ℕ) → 1 + n ≡ n + 0 + 1
    first_next n = omega arith

steps_kept : (n budget : ℕ) (m : machine.Machine) → Kept m.state → Kept (steps n budget m).state
steps_kept zero budget m kept = kept
steps_kept (suc n) budget m kept = steps_kept n budget (machine.advance budget m) (step_kept budget m.state kept)

-- What learning asks of the trail holds of every state that the machine reaches.
pub reached_kept : (vars : ℕ) (cs : List (List Literal)) (budget : ℕ) (m : State) → variables_within vars cs ≡ true → Reached vars cs budget m → Kept m
reached_kept vars cs budget m h reached = subst (λ (s : State). Kept s) (sym reached.1) (steps_kept reached.0 budget (machine.machine vars cs) (start_kept vars cs h))
