-- How a search goes on by a step.
use Rattle.std.proofs.Common.{◌≡◌, ◌≢◌, ℕ, zero, suc, ◌+◌, ◌-◌, ◌*◌, ◌≤◌, true, false, cond, nat_eq, nat_le, List, [], ◌∷◌, ◌++◌, length, refl, ap, sym, ◌∙◌, arith}
use Rattle.std.specs.Prelude.{Some, None}
use Rattle.std.specs.List.{range_with_len}
use Rattle.std.specs.declared.option.Option.{Option}
use Rattle.std.proofs.lemmas.List.{append-nil}
use Rattle.sat_form.specs.Literals.{Literal}
use Rattle.sat_form.specs.Shape.{variables_within}
use Rattle.sat_form.proofs.Sets.{both}
use Rattle.search_learn.specs.declared.Step.{Step}
use Rattle.search_learn.specs.declared.Turn.TheVariants.{More, Sat, Unsat, Budget}
use Rattle.search_learn.specs.Luby.{luby}
use Rattle.search_learn.specs.Trail.{level, cut, unit_literal, is_assigned}
use Rattle.search_learn.specs.Analysis.{Lesson, lesson}
use Rattle.search_learn.specs.Engine.{Engine, stepped}
use Rattle.search_learn.specs.Machine.{Clause, State, Moved, Machine, clause_at, false_clause, has_unit, is_sat, assign, propagate, propagate_one, choose, decide, conflict_with, after_lesson, add_lesson, count_conflict, quietly, step, step_from, step_if, move, logged, next_id, after_move, advance, steps, machine}
use Rattle.search_learn.proofs.Cases.{steps_last, case_ended}
use Rattle.search_learn.proofs.Counted.{step_taught, run_logged}
use Rattle.search_learn.proofs.Hints.{hints_earlier}
use Rattle.search_learn.proofs.Reached.{reached_kept}
use Rattle.lrat_trim.specs.Derivation.{Derivation, are_earlier}
use Rattle.lrat_trim.specs.Derivation as derivation
use Rattle.cdcl_solver.specs.Kept.{IsRunning}
use Rattle.cdcl_solver.specs.Notes.{MayNote, lines_with}
use Rattle.cdcl_solver.specs.Progress.{Progress, turned}

-- A step leaves the number of given clauses as it is.
inputs_one : (seen : List Step) (c : Clause) (o : Option Literal) (m : State) → (propagate_one seen c o m).inputs ≡ m.inputs
inputs_one seen c None m = refl
inputs_one seen c (Some l) m =
    elim (is_assigned m.trail l) as (λ b. (cond b m (assign m (record { lit = l; level = level seen; reason = c.id }))).inputs ≡ m.inputs) [ true ↦ refl | false ↦ refl ]

inputs_round : (seen : List Step) (cs : List Clause) (m : State) → (propagate seen cs m).inputs ≡ m.inputs
inputs_round seen [] m = refl
inputs_round seen (c ∷ cs) m = inputs_round seen cs (propagate_one seen c (unit_literal seen c.lits) m) ∙ inputs_one seen c (unit_literal seen c.lits) m

inputs_conflict : (m : State) (s : Lesson) → (conflict_with m s).state.inputs ≡ m.inputs
inputs_conflict m s =
    elim s.lits as (λ ls. (after_lesson (count_conflict m) s ls).inputs ≡ m.inputs) [
      | [] ↦ refl
      | l ∷ ls ↦
          let x = add_lesson (count_conflict m) s in
          elim (nat_eq x.since (64 * luby (x.restarts + 1))) as (λ t. (elim t as (λ _. State) [ true ↦ record x { trail = cut 0 x.trail; restarts = x.restarts + 1; since = 0 } | false ↦ x ]).inputs ≡ m.inputs) [ true ↦ refl | false ↦ refl ]
    ]

inputs_move : (m : State) (o : Option Clause) → (move m o).state.inputs ≡ m.inputs
inputs_move m (Some c) = inputs_conflict m (lesson (clause_at m.clauses) m.trail (level m.trail) c.id)
inputs_move m None =
    elim (has_unit m) as (λ b. (elim b as (λ _. Moved) [ true ↦ quietly (propagate m.trail m.clauses m) | false ↦ quietly (decide m (choose m 0 (range_with_len 1 m.vars))) ]).state.inputs ≡ m.inputs) [
      | true ↦ inputs_round m.trail m.clauses m
      | false ↦ refl
    ]

inputs_step : (budget : ℕ) (m : State) → (step budget m).state.inputs ≡ m.inputs
unfolding step
inputs_step budget m =
    elim m.end as (λ t. (step_from t budget m).state.inputs ≡ m.inputs) [
      | More ↦ elim (is_sat m) as (λ b. (step_if b (nat_le budget m.spent) m).state.inputs ≡ m.inputs) [
        | true ↦ refl
        | false ↦ elim (nat_le budget m.spent) as (λ b. (step_if false b m).state.inputs ≡ m.inputs) [ true ↦ refl | false ↦ inputs_move m (false_clause m) ]
      ]
      | Sat ↦ refl
      | Unsat ↦ refl
      | Budget n ↦ refl
    ]

pub inputs_steps : (n budget : ℕ) (a : Machine) → (steps n budget a).state.inputs ≡ a.state.inputs
inputs_steps zero budget a = refl
inputs_steps (suc n) budget a = inputs_steps n budget (advance budget a) ∙ inputs_step budget a.state

-- Of a running search: what a step learns may go into the log, as the machine's line.
module _ (engine : Engine) (log : Derivation) (running : IsRunning engine log) (given : log.inputs ≡ length engine.clauses) where
  abbrev here : Machine
  here = steps running.count engine.budget (machine engine.vars engine.clauses)

  state_is : engine.state ≡ here.state
  state_is = ap (λ (a : Machine). a.state) running.reached

  lines_are : log.lines ≡ here.log
  lines_are = ap (λ (a : Machine). a.log) running.reached

  within : variables_within engine.vars engine.clauses ≡ true
  within = (both _ (variables_within engine.vars engine.clauses) running.formula).1

  inputs_are : engine.state.inputs ≡ log.inputs
  inputs_are = ap (λ (m : State). m.inputs) state_is ∙ inputs_steps running.count engine.budget (machine engine.vars engine.clauses) ∙ sym given

  lines_count : length log.lines ≡ engine.state.conflicts
  lines_count = ap length lines_are ∙ (run_logged running.count engine.vars engine.clauses engine.budget).lines ∙ ap (λ (m : State). m.conflicts) (sym state_is)

  id_is : derivation.next_id log ≡ next_id engine.state
  id_is = let a = inputs_are in let b = lines_count in omega arith

  taught_noted : (s : Lesson) → (step engine.budget engine.state).learnt ≡ Some s → MayNote log (Some s)
  taught_noted s learnt =
      let taught = step_taught engine.budget engine.state s learnt in
      let counts = (run_logged running.count engine.vars engine.clauses engine.budget).counts in
      let spent_is : here.state.spent ≡ engine.state.spent = ap (λ (m : State). m.spent) (sym state_is) in
      let conflicts_are : here.state.conflicts ≡ engine.state.conflicts = ap (λ (m : State). m.conflicts) (sym state_is) in
      let paid = counts.paid in let going = taught.going in let limit = running.limit in let size = lines_count in
      let kept = reached_kept engine.vars engine.clauses engine.budget engine.state within (running.count, state_is) in (
        omega arith,
        ap (λ id. are_earlier id s.hints) id_is
            ∙ ap (λ (x : Lesson). are_earlier (next_id engine.state) x.hints) taught.is
            ∙ hints_earlier engine.state taught.clause kept taught.found,
      )

  pub may_note : (o : Option Lesson) → (step engine.budget engine.state).learnt ≡ o → MayNote log o
  may_note None learnt = tt
  may_note (Some s) learnt = taught_noted s learnt

  pub noted_is : (o : Option Lesson) → lines_with log o ≡ log.lines ++ logged engine.state o
  noted_is None = sym (append-nil log.lines)
  noted_is (Some s) = ap (λ id. log.lines ++ record { id = id; lits = s.lits; hints = s.hints } ∷ []) id_is

  -- The machine behind the step.
  pub advanced : (o : Option Lesson) → (step engine.budget engine.state).learnt ≡ o
      → ◌≡◌ {A = Machine} (record { state = (step engine.budget engine.state).state; log = lines_with log o }) (advance engine.budget (record { state = engine.state; log = log.lines }))
  advanced o learnt =
      ap (λ ls. record { state = (step engine.budget engine.state).state; log = ls }) (noted_is o ∙ ap (λ x. log.lines ++ logged engine.state x) (sym learnt))

  pub next_running : (o : Option Lesson) → (step engine.budget engine.state).learnt ≡ o → IsRunning (stepped engine) (record log { lines = lines_with log o })
  next_running o learnt = record {
    whole = running.whole;
    formula = running.formula;
    limit = running.limit;
    count = suc running.count;
    reached = advanced o learnt ∙ ap (advance engine.budget) running.reached ∙ sym (steps_last running.count engine.budget (machine engine.vars engine.clauses));
  }

-- An ended machine stays, with its log.
pub advance_ended : (budget : ℕ) (a : Machine) → a.state.end ≢ More → advance budget a ≡ a
advance_ended budget a ended = ap (after_move a) (case_ended budget a.state ended) ∙ ap (λ ls. record { state = a.state; log = ls }) (append-nil a.log)

pub steps_ended : (n budget : ℕ) (a : Machine) → a.state.end ≢ More → steps n budget a ≡ a
steps_ended zero budget a ended = refl
steps_ended (suc n) budget a ended = ap (steps n budget) (advance_ended budget a ended) ∙ steps_ended n budget a ended

-- Further steps.
pub steps_more : (j n budget : ℕ) (a : Machine) → steps j budget (steps n budget a) ≡ steps (n + j) budget a
steps_more j zero budget a = ap (λ k. steps k budget a) (let e : j ≡ 0 + j = omega arith in e)
steps_more j (suc n) budget a = steps_more j n budget (advance budget a) ∙ ap (λ k. steps k budget a) (let e : suc (n + j) ≡ suc n + j = omega arith in e)

-- A turn goes on by a step, and is over where the machine has ended.
pub turned_next : (n : ℕ) (s : Progress) → record (turned n s) { machine = advance (turned n s).budget (turned n s).machine } ≡ turned (n + 1) s
turned_next n s =
    let next : suc n ≡ n + 1 = omega arith in
    ap (λ (a : Machine). record s { machine = a }) (sym (steps_last n s.budget s.machine) ∙ ap (λ k. steps k s.budget s.machine) next)

pub turned_ended : (n most : ℕ) (s : Progress) → n ≤ most → (turned n s).machine.state.end ≢ More → turned n s ≡ turned most s
turned_ended n most s low ended =
    let rest = most - n in
    let all : n + rest ≡ most = omega arith in
    ap (λ (a : Machine). record s { machine = a })
    (sym (steps_ended rest s.budget (steps n s.budget s.machine) ended) ∙ steps_more rest n s.budget s.machine ∙ ap (λ k. steps k s.budget s.machine) all)
