-- How runs of the machine end.
use Rattle.std.proofs.Common.{◌≡◌, ◌≢◌, ℕ, zero, suc, ◌+◌, ◌*◌, ◌≤◌, Bool, true, false, not, ◌&&◌, ◌||◌, cond, nat_eq, nat_le, List, [], ◌∷◌, refl, ap, sym, subst, arith, ◌⊎◌, inl, inr}
use Rattle.std.specs.Prelude.{Some, None, is_none}
use Rattle.std.specs.List.{list_any, list_all, range_with_len}
use Rattle.std.specs.declared.option.Option.{Option}
use Rattle.std.proofs.lemmas.Grind.{common_steps}
use Rattle.sat_form.specs.Literals.{Literal, same_literal}
use Rattle.sat_form.specs.Assignment as assignment
use Rattle.sat_form.specs.Assignment.{is_false, is_assigned}
use Rattle.sat_form.proofs.Sets.{both, absurd_bool}
use Rattle.search_learn.specs.declared.Step.{Step}
use Rattle.search_learn.specs.declared.Turn.{Turn}
use Rattle.search_learn.specs.declared.Turn.TheVariants.{More, Sat, Unsat, Budget}
use Rattle.search_learn.specs.Luby.{luby}
use Rattle.search_learn.specs.Trail.{assigned, level, cut, unit_literal}
use Rattle.search_learn.specs.Analysis.{Lesson, lesson}
use Rattle.search_learn.specs.Machine.{Clause, State, Moved, Machine, clause_at, false_clause, has_unit, is_sat, assign, propagate, propagate_one, choose, decide, conflict_with, after_lesson, add_lesson, count_conflict, quietly, step, step_if, move, steps, machine, run}
use Rattle.search_learn.proofs.Cases.{case_ended, step_before, steps_last}
use Rattle.search_learn.proofs.Counted.{grows_all}

pub is_more : (t : Turn) → (t ≡ More) ⊎ (t ≢ More)
is_more More = inl refl
is_more Sat = inr (λ h. cc)
is_more Unsat = inr (λ h. cc)
is_more (Budget n) = inr (λ h. cc)

-- The literal of a unit clause is unassigned.
unit_unassigned : (a c : List Literal) (l : Literal) → assignment.unit_literal a c ≡ Some l → is_assigned a l ≡ false
unit_unassigned a [] l h = cc
unit_unassigned a (k ∷ c) l h =
    elim (is_false a k) as (λ t. cond t (assignment.unit_literal a c) (cond (not (is_assigned a k) && list_all (λ j. same_literal j k || is_false a j) c) (Some k) None) ≡ Some l → is_assigned a l ≡ false) [
      | true ↦ λ later. unit_unassigned a c l later
      | false ↦ elim (not (is_assigned a k) && list_all (λ j. same_literal j k || is_false a j) c) as (λ t. (not (is_assigned a k) && list_all (λ j. same_literal j k || is_false a j) c) ≡ t → ◌≡◌ {A = Option Literal} (cond t (Some k) None) (Some l) → is_assigned a l ≡ false) [
        | true ↦ λ taken here. let e : k ≡ l = cc in subst (λ (x : Literal). is_assigned a x ≡ false) e (opposite (is_assigned a k) (both (not (is_assigned a k)) _ taken).0)
        | false ↦ λ _ none. cc
      ] refl
    ] h
  where
    opposite : (b : Bool) → not b ≡ true → b ≡ false
    opposite true h = sym h
    opposite false h = refl

-- A round puts something.
round_spends : (m : State) (cs : List Clause) → list_any (λ c. not (is_none (unit_literal m.trail c.lits))) cs ≡ true → m.spent + 1 ≤ (propagate m.trail cs m).spent
round_spends m [] h = absurd_bool h
round_spends m (c ∷ cs) h =
    elim (unit_literal m.trail c.lits) as (λ o. unit_literal m.trail c.lits ≡ o → (not (is_none o) || list_any (λ x. not (is_none (unit_literal m.trail x.lits))) cs) ≡ true → m.spent + 1 ≤ (propagate m.trail cs (propagate_one m.trail c o m)).spent) [
      | None ↦ λ _ later. round_spends m cs later
      | Some l ↦ λ unit _.
          let e : Step = record { lit = l; level = level m.trail; reason = c.id } in
          let free : is_assigned (assigned m.trail) l ≡ false = unit_unassigned (assigned m.trail) c.lits l unit in
          let more : m.spent + 1 ≤ (propagate m.trail cs (assign m e)).spent = (grows_all m.trail cs (assign m e)).more in
          subst (λ (b : Bool). m.spent + 1 ≤ (propagate m.trail cs (cond b m (assign m e))).spent) (sym free) more
    ] refl h

-- A step ends, or spends.
abbrev Spends : State → State → Type 0
Spends m t = (t.end ≢ More) ⊎ (m.spent + 1 ≤ t.spent)

conflict_spends : (m : State) (s : Lesson) → Spends m (conflict_with m s).state
conflict_spends m s =
    elim s.lits as (λ ls. Spends m (after_lesson (count_conflict m) s ls)) [
      | [] ↦ inl (λ h. cc)
      | l ∷ ls ↦
          let x = add_lesson (count_conflict m) s in
          inr (elim (nat_eq x.since (64 * luby (x.restarts + 1))) as (λ t. m.spent + 1 ≤ (elim t as (λ _. State) [ true ↦ record x { trail = cut 0 x.trail; restarts = x.restarts + 1; since = 0 } | false ↦ x ]).spent) [ true ↦ omega arith | false ↦ omega arith ])
    ]

move_spends : (m : State) (o : Option Clause) → Spends m (move m o).state
move_spends m (Some c) = conflict_spends m (lesson (clause_at m.clauses) m.trail (level m.trail) c.id)
move_spends m None =
    elim (has_unit m) as (λ b. has_unit m ≡ b → Spends m (elim b as (λ _. Moved) [ true ↦ quietly (propagate m.trail m.clauses m) | false ↦ quietly (decide m (choose m 0 (range_with_len 1 m.vars))) ]).state) [
      | true ↦ λ unit. inr (round_spends m m.clauses unit)
      | false ↦ λ _. inr (omega arith)
    ] refl

step_spends : (budget : ℕ) (m : State) → m.end ≡ More → Spends m (step budget m).state
step_spends budget m more =
    subst (λ (r : Moved). Spends m r.state) (sym (step_before budget m more))
    (elim (is_sat m) as (λ b. Spends m (step_if b (nat_le budget m.spent) m).state) [
      | true ↦ inl (λ h. cc)
      | false ↦ elim (nat_le budget m.spent) as (λ b. Spends m (step_if false b m).state) [ true ↦ inl (λ h. cc) | false ↦ move_spends m (false_clause m) ]
    ])

pub stays_ended : (budget : ℕ) (m : State) → m.end ≢ More → (step budget m).state ≡ m
stays_ended budget m ended = ap (λ (r : Moved). r.state) (case_ended budget m ended)

-- After k steps a machine has ended, or spent at least k.
abbrev Past : ℕ → State → Type 0
Past k m = (m.end ≢ More) ⊎ (k ≤ m.spent)

past_more : (budget k : ℕ) (m : State) → Past k m → Past (suc k) (step budget m).state
past_more budget k m past =
    elim (is_more m.end) [
      | inr ended ↦ inl (subst (λ (x : State). x.end ≢ More) (sym (stays_ended budget m ended)) ended)
      | inl more ↦ elim past [
        | inl ended ↦ absurd (ended more)
        | inr low ↦ elim (step_spends budget m more) [ inl ended ↦ inl ended | inr spent ↦ inr (omega arith) ]
      ]
    ]

past : (k budget : ℕ) (a : Machine) → Past k (steps k budget a).state
past zero budget a = inr (omega arith)
past (suc k) budget a = subst (λ (x : Machine). Past (suc k) x.state) (sym (steps_last k budget a)) (past_more budget k (steps k budget a).state (past k budget a))

-- Where the budget is spent, a step ends.
last_ends : (budget : ℕ) (m : State) → budget ≤ m.spent → m.end ≡ More → (step budget m).state.end ≢ More
last_ends budget m spent more =
    subst (λ (r : Moved). r.state.end ≢ More) (sym (step_before budget m more))
    (subst (λ (b : Bool). (step_if (is_sat m) b m).state.end ≢ More) (sym (at_most budget m.spent spent))
    (elim (is_sat m) as (λ b. (step_if b true m).state.end ≢ More) [ true ↦ λ h. cc | false ↦ λ h. cc ]))
  where
    at_most : (a b : ℕ) → a ≤ b → nat_le a b ≡ true
    at_most a b h = grind (arith, common_steps)

ended_next : (budget : ℕ) (m : State) → Past budget m → (step budget m).state.end ≢ More
ended_next budget m past =
    elim (is_more m.end) [
      | inr ended ↦ subst (λ (x : State). x.end ≢ More) (sym (stays_ended budget m ended)) ended
      | inl more ↦ elim past [ inl ended ↦ absurd (ended more) | inr spent ↦ last_ends budget m spent more ]
    ]

pub run_ends : (vars : ℕ) (cs : List (List Literal)) (budget : ℕ) → (run vars cs budget).state.end ≢ More
run_ends vars cs budget =
    let one : budget + 1 ≡ suc budget = omega arith in
    let a = machine vars cs in
    subst (λ (n : ℕ). (steps n budget a).state.end ≢ More) (sym one)
    (subst (λ (x : Machine). x.state.end ≢ More) (sym (steps_last budget budget a)) (ended_next budget (steps budget budget a).state (past budget budget a)))
