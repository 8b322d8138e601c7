-- Conflicts are paid for, and each is a line of the log.
use Rattle.std.proofs.Common.{◌≡◌, ℕ, zero, suc, ◌+◌, ◌*◌, ◌<◌, ◌≤◌, true, false, cond, nat_eq, nat_le, List, [], ◌∷◌, length, refl, ap, sym, ◌∙◌, arith, length-append}
use Rattle.std.specs.Prelude.{Some, None}
use Rattle.std.specs.List.{range_with_len}
use Rattle.std.specs.declared.option.Option.{Option}
use Rattle.std.proofs.lemmas.Grind.{common_steps}
use Rattle.sat_form.specs.Literals.{Literal}
use Rattle.search_learn.specs.declared.Step.{Step}
use Rattle.search_learn.specs.declared.Turn.TheVariants.{More, Sat, Unsat, Budget}
use Rattle.search_learn.specs.Luby.{luby}
use Rattle.search_learn.specs.Trail.{level, unit_literal, is_assigned, cut}
use Rattle.search_learn.specs.Analysis.{Lesson, lesson}
use Rattle.search_learn.specs.Machine.{Clause, State, Moved, Machine, clause_at, false_clause, has_unit, is_sat, assign, propagate, propagate_one, choose, decide, conflict_with, after_lesson, add_lesson, count_conflict, quietly, step, step_from, step_if, move, logged, advance, steps, machine}

pub record Counts (budget : ℕ) (m : State) : Type 0 where
  pub paid : m.conflicts ≤ m.spent
  pub bound : m.conflicts ≤ budget

-- what a step that learns nothing leaves
pub record Grows (m t : State) : Type 0 where
  pub same : t.conflicts ≡ m.conflicts
  pub more : m.spent ≤ t.spent

grows_one : (seen : List Step) (c : Clause) (o : Option Literal) (m : State) → Grows m (propagate_one seen c o m)
grows_one seen c None m = record { same = refl; more = omega arith }
grows_one seen c (Some l) m =
    elim (is_assigned m.trail l) as (λ b. Grows m (cond b m (assign m (record { lit = l; level = level seen; reason = c.id })))) [
      | true ↦ record { same = refl; more = omega arith }
      | false ↦ record { same = refl; more = omega arith }
    ]

pub grows_all : (seen : List Step) (cs : List Clause) (m : State) → Grows m (propagate seen cs m)
grows_all seen [] m = record { same = refl; more = omega arith }
grows_all seen (c ∷ cs) m =
    let one = grows_one seen c (unit_literal seen c.lits) m in
    let rest = grows_all seen cs (propagate_one seen c (unit_literal seen c.lits) m) in
    let a = one.more in let b = rest.more in
    record { same = rest.same ∙ one.same; more = omega arith }

pub lines_of : Option Lesson → ℕ
lines_of None = 0
lines_of (Some s) = 1

-- A step counts what it learns.
pub record IsCounted (budget : ℕ) (m : State) (r : Moved) : Type 0 where
  pub counts : Counts budget r.state
  pub each : r.state.conflicts ≡ m.conflicts + length (logged m r.learnt)

grown : (budget : ℕ) (m t : State) → Counts budget m → Grows m t → IsCounted budget m (quietly t)
grown budget m t h g =
    let a = h.paid in let b = h.bound in let s = g.same in let more = g.more in
    record { counts = record { paid = omega arith; bound = omega arith }; each = omega arith }

counted_conflict : (budget : ℕ) (m : State) (s : Lesson) → Counts budget m → m.spent < budget → IsCounted budget m (conflict_with m s)
counted_conflict budget m s h going =
    let a = h.paid in let b = h.bound in
    elim s.lits as (λ ls. IsCounted budget m (record { state = after_lesson (count_conflict m) s ls; learnt = Some s })) [
      | [] ↦ record { counts = record { paid = omega arith; bound = omega arith }; each = refl }
      | l ∷ ls ↦
          let x = add_lesson (count_conflict m) s in
          elim (nat_eq x.since (64 * luby (x.restarts + 1))) as (λ t. IsCounted budget m (record { state = elim t as (λ _. State) [ true ↦ record x { trail = cut 0 x.trail; restarts = x.restarts + 1; since = 0 } | false ↦ x ]; learnt = Some s })) [
            | true ↦ record { counts = record { paid = omega arith; bound = omega arith }; each = refl }
            | false ↦ record { counts = record { paid = omega arith; bound = omega arith }; each = refl }
          ]
    ]

counted_move : (budget : ℕ) (m : State) (o : Option Clause) → Counts budget m → m.spent < budget → IsCounted budget m (move m o)
counted_move budget m (Some c) h going = counted_conflict budget m (lesson (clause_at m.clauses) m.trail (level m.trail) c.id) h going
counted_move budget m None h going =
    elim (has_unit m) as (λ b. IsCounted budget m (elim b as (λ _. Moved) [ true ↦ quietly (propagate m.trail m.clauses m) | false ↦ quietly (decide m (choose m 0 (range_with_len 1 m.vars))) ])) [
      | true ↦ grown budget m (propagate m.trail m.clauses m) h (grows_all m.trail m.clauses m)
      | false ↦ grown budget m (decide m (choose m 0 (range_with_len 1 m.vars))) h (record { same = refl; more = omega arith })
    ]

not_paid : (a b : ℕ) → nat_le a b ≡ false → b < a
not_paid a b h = grind (arith, common_steps)

stays : (budget : ℕ) (m t : State) → Counts budget m → t.conflicts ≡ m.conflicts → t.spent ≡ m.spent → IsCounted budget m (quietly t)
stays budget m t h c s = grown budget m t h (record { same = c; more = omega arith })

pub step_counted : (budget : ℕ) (m : State) → Counts budget m → IsCounted budget m (step budget m)
unfolding step
step_counted budget m h =
    elim m.end as (λ t. IsCounted budget m (step_from t budget m)) [
      | More ↦ elim (is_sat m) as (λ b. IsCounted budget m (step_if b (nat_le budget m.spent) m)) [
        | true ↦ stays budget m (record m { end = Sat }) h refl refl
        | false ↦ elim (nat_le budget m.spent) as (λ b. nat_le budget m.spent ≡ b → IsCounted budget m (step_if false b m)) [
          | true ↦ λ _. stays budget m (record m { end = Budget m.spent }) h refl refl
          | false ↦ λ open_budget. counted_move budget m (false_clause m) h (not_paid budget m.spent open_budget)
        ] refl
      ]
      | Sat ↦ stays budget m m h refl refl
      | Unsat ↦ stays budget m m h refl refl
      | Budget n ↦ stays budget m m h refl refl
    ]

-- The log has a line for each conflict.
pub record IsLogged (budget : ℕ) (a : Machine) : Type 0 where
  pub counts : Counts budget a.state
  pub lines : length a.log ≡ a.state.conflicts

pub advance_logged : (budget : ℕ) (a : Machine) → IsLogged budget a → IsLogged budget (advance budget a)
advance_logged budget a h =
    let one = step_counted budget a.state h.counts in
    record { counts = one.counts; lines = length-append a.log (logged a.state (step budget a.state).learnt) ∙ ap (λ n. n + length (logged a.state (step budget a.state).learnt)) h.lines ∙ sym one.each }

pub steps_logged : (n budget : ℕ) (a : Machine) → IsLogged budget a → IsLogged budget (steps n budget a)
steps_logged zero budget a h = h
steps_logged (suc n) budget a h = steps_logged n budget (advance budget a) (advance_logged budget a h)

pub run_logged : (n vars : ℕ) (cs : List (List Literal)) (budget : ℕ) → IsLogged budget (steps n budget (machine vars cs))
run_logged n vars cs budget = steps_logged n budget (machine vars cs) (record { counts = record { paid = omega arith; bound = omega arith }; lines = refl })

-- A step that learns has a false clause, of which this is the lesson.
pub record IsTaught (budget : ℕ) (m : State) (s : Lesson) : Type 0 where
  pub clause : Clause
  pub found : false_clause m ≡ Some clause
  pub is : s ≡ lesson (clause_at m.clauses) m.trail (level m.trail) clause.id
  pub going : m.spent < budget

taught_move : (budget : ℕ) (m : State) (s : Lesson) (o : Option Clause) → m.spent < budget → false_clause m ≡ o → (move m o).learnt ≡ Some s → IsTaught budget m s
taught_move budget m s (Some c) going found h = record { clause = c; found = found; is = cc; going = going }
taught_move budget m s None going found h =
    elim (has_unit m) as (λ b. (elim b as (λ _. Moved) [ true ↦ quietly (propagate m.trail m.clauses m) | false ↦ quietly (decide m (choose m 0 (range_with_len 1 m.vars))) ]).learnt ≡ Some s → IsTaught budget m s) [
      | true ↦ λ none. cc
      | false ↦ λ none. cc
    ] h

pub step_taught : (budget : ℕ) (m : State) (s : Lesson) → (step budget m).learnt ≡ Some s → IsTaught budget m s
unfolding step
step_taught budget m s h =
    elim m.end as (λ t. (step_from t budget m).learnt ≡ Some s → IsTaught budget m s) [
      | More ↦ elim (is_sat m) as (λ b. (step_if b (nat_le budget m.spent) m).learnt ≡ Some s → IsTaught budget m s) [
        | true ↦ λ none. cc
        | false ↦ elim (nat_le budget m.spent) as (λ b. nat_le budget m.spent ≡ b → (step_if false b m).learnt ≡ Some s → IsTaught budget m s) [
          | true ↦ λ _ none. cc
          | false ↦ λ open_budget some. taught_move budget m s (false_clause m) (not_paid budget m.spent open_budget) refl some
        ] refl
      ]
      | Sat ↦ λ none. cc
      | Unsat ↦ λ none. cc
      | Budget n ↦ λ none. cc
    ] h
