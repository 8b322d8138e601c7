-- The log of a search that ended with Unsat: its last line, and no other, is the empty clause.
use Rattle.std.proofs.Common.{◌≡◌, ◌≢◌, ℕ, zero, suc, ◌+◌, ◌*◌, true, false, cond, nat_eq, nat_le, List, [], ◌∷◌, ◌++◌, refl, ap, sym, ◌∙◌, subst, inl, inr}
use Rattle.std.specs.Prelude.{Some, None}
use Rattle.std.specs.List.{range_with_len}
use Rattle.std.specs.declared.option.Option.{Option}
use Rattle.std.proofs.lemmas.List.{append-nil}
use Rattle.sat_form.specs.Literals.{Literal}
use Rattle.sat_form.specs.Log.{Logged}
use Rattle.search_learn.specs.declared.Step.{Step}
use Rattle.search_learn.specs.declared.Turn.TheVariants.{More, Unsat}
use Rattle.search_learn.specs.Luby.{luby}
use Rattle.search_learn.specs.Trail.{level, cut, unit_literal, is_assigned}
use Rattle.search_learn.specs.Analysis.{Lesson, lesson}
use Rattle.search_learn.specs.Machine.{Clause, State, Moved, Machine, clause_at, false_clause, has_unit, is_sat, assign, propagate, propagate_one, choose, decide, conflict_with, after_lesson, add_lesson, count_conflict, quietly, step, step_if, move, logged, next_id, advance, steps, machine}
use Rattle.search_learn.proofs.Cases.{case_ended, step_before}
use Rattle.search_learn.proofs.Reached.{same_propagated}
use Rattle.search_learn.proofs.Runs.{is_more}
use Rattle.lrat_trim.specs.Derivation.{IsFinished}

-- What a step learns, and what becomes of the clauses.
pub data Learns (m : State) (r : Moved) : Type 0 where
  nothing : r.learnt ≡ None → r.state.end ≢ Unsat → r.state.clauses ≡ m.clauses → Learns m r
  last : (s : Lesson) → r.learnt ≡ Some s → s.lits ≡ [] → r.state.end ≡ Unsat → Learns m r
  another : (s : Lesson) → r.learnt ≡ Some s → s.lits ≢ [] → r.state.end ≢ Unsat → r.state.clauses ≡ m.clauses ++ record { id = m.inputs + (m.conflicts + 1); lits = s.lits } ∷ [] → Learns m r

goes_on : (m : State) → m.end ≡ More → m.end ≢ Unsat
goes_on m more h = let e : More ≡ Unsat = sym more ∙ h in cc

conflict_learns : (m : State) (s : Lesson) → m.end ≡ More → Learns m (conflict_with m s)
conflict_learns m s more =
    elim s.lits as (λ ls. s.lits ≡ ls → Learns m (record { state = after_lesson (count_conflict m) s ls; learnt = Some s })) [
      | [] ↦ λ empty. last s refl empty refl
      | l ∷ ls ↦ λ some.
          let x = add_lesson (count_conflict m) s in
          another s refl (λ none. let e : [] ≡ l ∷ ls = sym none ∙ some in cc)
          (elim (nat_eq x.since (64 * luby (x.restarts + 1))) as (λ t. (elim t as (λ _. State) [ true ↦ record x { trail = cut 0 x.trail; restarts = x.restarts + 1; since = 0 } | false ↦ x ]).end ≢ Unsat) [ true ↦ goes_on m more | false ↦ goes_on m more ])
          (elim (nat_eq x.since (64 * luby (x.restarts + 1))) as (λ t. (elim t as (λ _. State) [ true ↦ record x { trail = cut 0 x.trail; restarts = x.restarts + 1; since = 0 } | false ↦ x ]).clauses ≡ x.clauses) [ true ↦ refl | false ↦ refl ])
    ] refl

-- A round doesn't end the machine.
same_end_one : (seen : List Step) (c : Clause) (o : Option Literal) (m : State) → (propagate_one seen c o m).end ≡ m.end
same_end_one seen c None m = refl
same_end_one seen c (Some l) m =
    elim (is_assigned m.trail l) as (λ b. (cond b m (assign m (record { lit = l; level = level seen; reason = c.id }))).end ≡ m.end) [ true ↦ refl | false ↦ refl ]

same_end : (seen : List Step) (cs : List Clause) (m : State) → (propagate seen cs m).end ≡ m.end
same_end seen [] m = refl
same_end seen (c ∷ cs) m = same_end seen cs (propagate_one seen c (unit_literal seen c.lits) m) ∙ same_end_one seen c (unit_literal seen c.lits) m

move_learns : (m : State) (o : Option Clause) → m.end ≡ More → Learns m (move m o)
move_learns m (Some c) more = conflict_learns m (lesson (clause_at m.clauses) m.trail (level m.trail) c.id) more
move_learns m None more =
    elim (has_unit m) as (λ b. Learns m (elim b as (λ _. Moved) [ true ↦ quietly (propagate m.trail m.clauses m) | false ↦ quietly (decide m (choose m 0 (range_with_len 1 m.vars))) ])) [
      | true ↦ nothing refl (λ h. goes_on m more (sym (same_end m.trail m.clauses m) ∙ h)) (same_propagated m.trail m.clauses m).clauses
      | false ↦ nothing refl (goes_on m more) refl
    ]

pub step_learns : (budget : ℕ) (m : State) → m.end ≡ More → Learns m (step budget m)
step_learns budget m more =
    subst (Learns m) (sym (step_before budget m more))
    (elim (is_sat m) as (λ b. Learns m (step_if b (nat_le budget m.spent) m)) [
      | true ↦ nothing refl (λ h. cc) refl
      | false ↦ elim (nat_le budget m.spent) as (λ b. Learns m (step_if false b m)) [ true ↦ nothing refl (λ h. cc) refl | false ↦ move_learns m (false_clause m) more ]
    ])

-- no line is the empty clause
abbrev IsOpen : List Logged → Type 0
IsOpen [] = Unit {0}
IsOpen (l ∷ ls) = (l.lits ≢ []) × IsOpen ls

open_push : (log : List Logged) (l : Logged) → IsOpen log → l.lits ≢ [] → IsOpen (log ++ l ∷ [])
open_push [] l none some = (some, tt)
open_push (k ∷ log) l none some = (none.0, open_push log l none.1 some)

finished_push : (log : List Logged) (l : Logged) → IsOpen log → l.lits ≡ [] → IsFinished (log ++ l ∷ [])
finished_push [] l none empty = empty
finished_push (k ∷ []) l none empty = (none.0, empty)
finished_push (k ∷ j ∷ log) l none empty = (none.0, finished_push (j ∷ log) l none.1 empty)

record LogFits (a : Machine) : Type 0 where
  running : a.state.end ≢ Unsat → IsOpen a.log
  finished : a.state.end ≡ Unsat → IsFinished a.log

abbrev with_learnt : Machine → Option Lesson → List Logged
with_learnt a o = a.log ++ logged a.state o

advance_fits : (budget : ℕ) (a : Machine) → LogFits a → LogFits (advance budget a)
advance_fits budget a fits =
    elim (is_more a.state.end) [
      | inr ended ↦
          let same : advance budget a ≡ a = ap (λ (r : Moved). record { state = r.state; log = with_learnt a r.learnt }) (case_ended budget a.state ended) ∙ ap (λ ls. record { state = a.state; log = ls }) (append-nil a.log) in
          subst LogFits (sym same) fits
      | inl more ↦ elim (step_learns budget a.state more) [
        | nothing none open_end same_clauses ↦
            let same_log : (advance budget a).log ≡ a.log = ap (with_learnt a) none ∙ append-nil a.log in
            record { running = λ _. subst IsOpen (sym same_log) (fits.running (goes_on a.state more)); finished = λ h. absurd (open_end h) }
        | last s is empty unsat ↦
            let log_is : (advance budget a).log ≡ a.log ++ record { id = next_id a.state; lits = s.lits; hints = s.hints } ∷ [] = ap (with_learnt a) is in
            record {
              running = λ h. absurd (h unsat);
              finished = λ _. subst IsFinished (sym log_is) (finished_push a.log _ (fits.running (goes_on a.state more)) empty);
            }
        | another s is some open_end more_clauses ↦
            let log_is : (advance budget a).log ≡ a.log ++ record { id = next_id a.state; lits = s.lits; hints = s.hints } ∷ [] = ap (with_learnt a) is in
            record {
              running = λ _. subst IsOpen (sym log_is) (open_push a.log _ (fits.running (goes_on a.state more)) some);
              finished = λ h. absurd (open_end h);
            }
      ]
    ]

steps_fit : (n budget : ℕ) (a : Machine) → LogFits a → LogFits (steps n budget a)
steps_fit zero budget a fits = fits
steps_fit (suc n) budget a fits = steps_fit n budget (advance budget a) (advance_fits budget a fits)

pub unsat_logged : (n vars : ℕ) (cs : List (List Literal)) (budget : ℕ) → (steps n budget (machine vars cs)).state.end ≡ Unsat → IsFinished (steps n budget (machine vars cs)).log
unsat_logged n vars cs budget = (steps_fit n budget (machine vars cs) (record { running = λ _. tt; finished = λ h. cc })).finished
