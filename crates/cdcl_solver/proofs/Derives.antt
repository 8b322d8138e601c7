-- The log of the machine is one whose lines follow from the clauses before them, so that the trimmed lines check.
use Rattle.std.proofs.Common.{◌≡◌, ◌≢◌, ℕ, zero, suc, ◌+◌, ◌≤◌, Bool, true, false, cond, nat_eq, List, [], ◌∷◌, ◌++◌, length, map, refl, ap, sym, ◌∙◌, subst, arith, inl, inr}
use Rattle.std.specs.Prelude.{Some, None}
use Rattle.std.specs.List.{find}
use Rattle.std.specs.Option.{option_map, option_map_or}
use Rattle.std.specs.declared.option.Option.{Option}
use Rattle.std.proofs.lemmas.Grind.{common_steps}
use Rattle.std.proofs.lemmas.List.{append-nil}
use Rattle.sat_form.specs.Literals.{Literal, member, negate}
use Rattle.sat_form.specs.Log.{Logged}
use Rattle.sat_form.specs.Assignment.{clause_false}
use Rattle.search_learn.specs.declared.Turn.TheVariants.{More, Unsat}
use Rattle.search_learn.specs.Trail.{assigned}
use Rattle.search_learn.specs.Analysis.{Lesson}
use Rattle.search_learn.specs.Machine.{Clause, State, Machine, clause_at, numbered, step, logged, next_id, after_move, advance, steps, machine}
use Rattle.search_learn.proofs.Cases.{case_ended, steps_last}
use Rattle.search_learn.proofs.Counted.{IsTaught, step_taught, run_logged}
use Rattle.search_learn.proofs.Hints.{hints_earlier, rising_end}
use Rattle.search_learn.proofs.Keeps.{Kept, Rising}
use Rattle.search_learn.proofs.Lessons.{found_here}
use Rattle.search_learn.proofs.Reached.{reached_kept}
use Rattle.search_learn.proofs.Runs.{is_more}
use Rattle.lrat_lines.specs.Judge.{Clauses, Checks, add_clause, clause_of, given, given_from, take_hints}
use Rattle.lrat_lines.specs.Judge.Taken.{Conflict}
use Rattle.lrat_trim.specs.Derived.{AreNumbered, AreDerived}
use Rattle.lrat_trim.specs.Trim.{trim}
use Rattle.lrat_trim.proofs.Derived.{clause_add, clause_first, trimmed_check}
use Rattle.cdcl_solver.proofs.Finished.{step_learns, unsat_logged}
use Rattle.cdcl_solver.proofs.Finished.Learns.{nothing, last, another}
use Rattle.cdcl_solver.proofs.Going.{inputs_steps}
use Rattle.search_learn.specs.Engine.{Engine}
use Rattle.sat_form.specs.Shape.{variables_within}
use Rattle.sat_form.proofs.Numbers.{eq_not_below}
use Rattle.sat_form.proofs.Sets.{absurd_bool, both}
use Rattle.lrat_trim.specs.Derivation.{Derivation, IsFinished, are_earlier}
use Rattle.cdcl_solver.specs.Kept.{IsRunning}
use Rattle.cdcl_solver.proofs.Lesson.{learnt_checks}

-- the clauses behind a log
abbrev after : Clauses → List Logged → Clauses
after db [] = db
after db (l ∷ ls) = after (add_clause db l.id l.lits) ls

after_push : (db : Clauses) (ls : List Logged) (l : Logged) → after db (ls ++ l ∷ []) ≡ add_clause (after db ls) l.id l.lits
after_push db [] l = refl
after_push db (k ∷ ls) l = after_push (add_clause db k.id k.lits) ls l

numbered_push : (id : ℕ) (ls : List Logged) (l : Logged) → AreNumbered id ls → l.id ≡ id + length ls → are_earlier l.id l.hints ≡ true → AreNumbered id (ls ++ l ∷ [])
numbered_push id [] l all is earlier = let e : l.id ≡ id = omega arith in (e, subst (λ (n : ℕ). are_earlier n l.hints ≡ true) e earlier, tt)
numbered_push id (k ∷ ls) l all is earlier = (all.0, all.1, numbered_push (id + 1) ls l all.2 (omega arith) earlier)

derived_push : (db : Clauses) (ls : List Logged) (l : Logged) → AreDerived db ls → take_hints (after db ls) (map negate l.lits) l.hints ≡ Conflict → AreDerived db (ls ++ l ∷ [])
derived_push db [] l all goes = (goes, tt)
derived_push db (k ∷ ls) l all goes = (all.0, derived_push (add_clause db k.id k.lits) ls l all.1 goes)

-- the literals of the machine's clause with an id
abbrev lits_at : List Clause → ℕ → Option (List Literal)
lits_at cs id = option_map (λ c. c.lits) (find (λ c. nat_eq c.id id) cs)

lits_first : (c : Clause) (cs : List Clause) (id : ℕ) → lits_at (c ∷ cs) id ≡ cond (nat_eq c.id id) (Some c.lits) (lits_at cs id)
lits_first c cs id = elim (nat_eq c.id id) as (λ b. option_map (λ (x : Clause). x.lits) (cond b (Some c) (find (λ x. nat_eq x.id id) cs)) ≡ cond b (Some c.lits) (lits_at cs id)) [ true ↦ refl | false ↦ refl ]

given_same : (k : ℕ) (cs : List (List Literal)) (id : ℕ) → clause_of (given_from k cs) id ≡ lits_at (numbered k cs) id
given_same k [] id = refl
given_same k (c ∷ cs) id =
    clause_first (record { id = k; lits = c }) (given_from (k + 1) cs) id
    ∙ ap (λ o. cond (nat_eq k id) (Some c) o) (given_same (k + 1) cs id)
    ∙ sym (lits_first (record { id = k; lits = c }) (numbered (k + 1) cs) id)

none_above : (low high : ℕ) (cs : List Clause) (id : ℕ) → Rising low high cs → high ≤ id → lits_at cs id ≡ None
none_above low high [] id rising over = refl
none_above low high (c ∷ cs) id rising over =
    let under = rising_end (c.id + 1) high cs rising.1 in
    lits_first c cs id ∙ ap (λ b. cond b (Some c.lits) (lits_at cs id)) (eq_not_below c.id id (omega arith)) ∙ none_above (c.id + 1) high cs id rising.1 over

-- one clause more, under an id that was free
lits_push : (cs : List Clause) (c : Clause) (id : ℕ) → lits_at cs c.id ≡ None → lits_at (cs ++ c ∷ []) id ≡ cond (nat_eq c.id id) (Some c.lits) (lits_at cs id)
lits_push [] c id none = lits_first c [] id
lits_push (k ∷ cs) c id none =
    let apart = parts (nat_eq k.id c.id) refl (sym (lits_first k cs c.id) ∙ none) in
    lits_first k (cs ++ c ∷ []) id
    ∙ ap (λ o. cond (nat_eq k.id id) (Some k.lits) o) (lits_push cs c id apart.1)
    ∙ swap (nat_eq k.id id) (nat_eq c.id id) refl refl apart.0
    ∙ ap (λ o. cond (nat_eq c.id id) (Some c.lits) o) (sym (lits_first k cs id))
  where
    parts : (b : Bool) → nat_eq k.id c.id ≡ b → cond b (Some k.lits) (lits_at cs c.id) ≡ None → (nat_eq k.id c.id ≡ false) × (lits_at cs c.id ≡ None)
    parts true is h = cc
    parts false is h = (is, h)

    clash : {P : Type 0} (m n id : ℕ) → nat_eq m id ≡ true → nat_eq n id ≡ true → nat_eq m n ≡ false → P
    clash m n id a b c = absurd (wrong m n id a b c)
      where
        wrong : (m n id : ℕ) → nat_eq m id ≡ true → nat_eq n id ≡ true → nat_eq m n ≡ false → ⊥
        wrong m n id a b c = grind (arith, common_steps)

    swap : (p q : Bool) → nat_eq k.id id ≡ p → nat_eq c.id id ≡ q → nat_eq k.id c.id ≡ false → cond p (Some k.lits) (cond q (Some c.lits) (lits_at cs id)) ≡ cond q (Some c.lits) (cond p (Some k.lits) (lits_at cs id))
    swap true true p q apart = clash k.id c.id id p q apart
    swap true false p q apart = refl
    swap false true p q apart = refl
    swap false false p q apart = refl

-- What the log tells.
record Tells (cs : List (List Literal)) (a : Machine) : Type 0 where
  numbered : AreNumbered (length cs + 1) a.log
  derived : AreDerived (given cs) a.log
  clauses : a.state.end ≢ Unsat → (id : ℕ) → clause_of (after (given cs) a.log) id ≡ lits_at a.state.clauses id

-- a literal's clause is one of those
there_with : (cs : List Clause) (id : ℕ) (l : Literal) → member (clause_at cs id) l ≡ true → lits_at cs id ≡ Some (clause_at cs id)
there_with cs id l =
    elim (find (λ c. nat_eq c.id id) cs) as (λ o. member (option_map_or (λ (c : Clause). c.lits) o []) l ≡ true → option_map (λ (c : Clause). c.lits) o ≡ Some (option_map_or (λ (c : Clause). c.lits) o [])) [
      | None ↦ λ has. absurd_bool has
      | Some c ↦ λ _. refl
    ]

-- The hints of what a step learns lead to a conflict on the clauses behind the log.
goes : (m : State) (db : Clauses) (s : Lesson) (budget : ℕ) → Kept m → ((id : ℕ) → clause_of db id ≡ lits_at m.clauses id) → IsTaught budget m s → take_hints db (map negate s.lits) s.hints ≡ Conflict
goes m db s budget kept same taught =
    let here = found_here m taught.clause kept taught.found in
    let lits : clause_at m.clauses taught.clause.id ≡ taught.clause.lits = ap (λ o. option_map_or (λ (x : Clause). x.lits) o []) here.0.found in
    let there_false : lits_at m.clauses taught.clause.id ≡ Some (clause_at m.clauses taught.clause.id) = ap (λ o. option_map (λ (x : Clause). x.lits) o) here.0.found ∙ ap (λ x. Some x) (sym lits) in
    ap (λ (x : Lesson). take_hints db (map negate x.lits) x.hints) taught.is
    ∙ learnt_checks db (clause_at m.clauses) m.vars m.trail taught.clause.id
    (λ id l has. same id ∙ there_with m.clauses id l has) (same taught.clause.id ∙ there_false) kept.is_trail
    (ap (clause_false (assigned m.trail)) lits ∙ here.1)

abbrev line_of : State → Lesson → Logged
line_of m s = record { id = next_id m; lits = s.lits; hints = s.hints }

module _ (vars : ℕ) (cs : List (List Literal)) (budget : ℕ) (within : variables_within vars cs ≡ true) where
  abbrev at : ℕ → Machine
  at n = steps n budget (machine vars cs)

  push_tells : (n : ℕ) (s : Lesson) → Tells cs (at n) → (at n).state.end ≢ Unsat → (step budget (at n).state).learnt ≡ Some s
      → AreNumbered (length cs + 1) ((at n).log ++ line_of (at n).state s ∷ []) × AreDerived (given cs) ((at n).log ++ line_of (at n).state s ∷ [])
  push_tells n s tells running learnt =
      let a = at n in
      let taught = step_taught budget a.state s learnt in
      let kept = reached_kept vars cs budget a.state within (n, refl) in
      let size = (run_logged n vars cs budget).lines in
      let inputs = inputs_steps n budget (machine vars cs) in (
        numbered_push (length cs + 1) a.log (line_of a.state s) tells.numbered (omega arith) (ap (λ (x : Lesson). are_earlier (next_id a.state) x.hints) taught.is ∙ hints_earlier a.state taught.clause kept taught.found),
        derived_push (given cs) a.log (line_of a.state s) tells.derived (goes a.state (after (given cs) a.log) s budget kept (tells.clauses running) taught),
      )

  next_tells : (n : ℕ) → Tells cs (at n) → Tells cs (advance budget (at n))
  next_tells n tells =
      let a = at n in
      elim (is_more a.state.end) [
        | inr ended ↦
            let same : advance budget a ≡ a = ap (after_move a) (case_ended budget a.state ended) ∙ ap (λ ls. record { state = a.state; log = ls }) (append-nil a.log) in
            subst (Tells cs) (sym same) tells
        | inl more ↦
            let running : a.state.end ≢ Unsat = λ h. not_both (sym more ∙ h) in
            elim (step_learns budget a.state more) [
              | nothing none open_end same_clauses ↦
                  let same_log : (advance budget a).log ≡ a.log = ap (λ o. a.log ++ logged a.state o) none ∙ append-nil a.log in
                  record {
                    numbered = subst (AreNumbered (length cs + 1)) (sym same_log) tells.numbered;
                    derived = subst (AreDerived (given cs)) (sym same_log) tells.derived;
                    clauses = λ _ id. ap (λ ls. clause_of (after (given cs) ls) id) same_log ∙ tells.clauses running id ∙ ap (λ c. lits_at c id) (sym same_clauses);
                  }
              | last s is empty unsat ↦
                  let log_is : (advance budget a).log ≡ a.log ++ line_of a.state s ∷ [] = ap (λ o. a.log ++ logged a.state o) is in
                  let pushed = push_tells n s tells running is in
                  record {
                    numbered = subst (AreNumbered (length cs + 1)) (sym log_is) pushed.0;
                    derived = subst (AreDerived (given cs)) (sym log_is) pushed.1;
                    clauses = λ h. absurd (h unsat);
                  }
              | another s is some open_end more_clauses ↦
                  let log_is : (advance budget a).log ≡ a.log ++ line_of a.state s ∷ [] = ap (λ o. a.log ++ logged a.state o) is in
                  let pushed = push_tells n s tells running is in
                  let kept = reached_kept vars cs budget a.state within (n, refl) in
                  let free : lits_at a.state.clauses (next_id a.state) ≡ None = none_above 1 (next_id a.state) a.state.clauses (next_id a.state) kept.rising (omega arith) in
                  let id_is : a.state.inputs + (a.state.conflicts + 1) ≡ next_id a.state = omega arith in
                  record {
                    numbered = subst (AreNumbered (length cs + 1)) (sym log_is) pushed.0;
                    derived = subst (AreDerived (given cs)) (sym log_is) pushed.1;
                    clauses = λ _ id.
                        ap (λ ls. clause_of (after (given cs) ls) id) log_is
                        ∙ ap (λ db. clause_of db id) (after_push (given cs) a.log (line_of a.state s))
                        ∙ clause_add (after (given cs) a.log) (next_id a.state) s.lits id (tells.clauses running (next_id a.state) ∙ free)
                        ∙ ap (λ o. cond (nat_eq (next_id a.state) id) (Some s.lits) o) (tells.clauses running id)
                        ∙ sym (lits_push a.state.clauses (record { id = next_id a.state; lits = s.lits }) id free)
                        ∙ ap (λ k. lits_at (a.state.clauses ++ record { id = k; lits = s.lits } ∷ []) id) (sym id_is)
                        ∙ ap (λ c. lits_at c id) (sym more_clauses);
                  }
            ]
      ]
    where
      not_both : More ≡ Unsat → ⊥
      not_both h = cc

  tells_all : (n : ℕ) → Tells cs (at n)
  tells_all zero = record { numbered = tt; derived = tt; clauses = λ _ id. given_same 1 cs id }
  tells_all (suc n) = subst (Tells cs) (sym (steps_last n budget (machine vars cs))) (next_tells n (tells_all n))

  -- After Unsat the trimmed lines check.
  pub unsat_checks : (n : ℕ) → (at n).state.end ≡ Unsat → Checks cs (trim (length cs) (at n).log)
  unsat_checks n unsat = let tells = tells_all n in trimmed_check cs (at n).log tells.numbered tells.derived (unsat_logged n vars cs budget unsat)

-- Of a running search that ended with Unsat.
pub log_finished : (engine : Engine) (log : Derivation) → IsRunning engine log → engine.state.end ≡ Unsat → IsFinished log.lines
log_finished engine log running unsat =
    subst IsFinished (ap (λ (a : Machine). a.log) (sym running.reached))
    (unsat_logged running.count engine.vars engine.clauses engine.budget (ap (λ (a : Machine). a.state.end) (sym running.reached) ∙ unsat))

pub log_checks : (engine : Engine) (log : Derivation) → IsRunning engine log → log.inputs ≡ length engine.clauses → engine.state.end ≡ Unsat → Checks engine.clauses (trim log.inputs log.lines)
log_checks engine log running given_are unsat =
    let lines_are : (steps running.count engine.budget (machine engine.vars engine.clauses)).log ≡ log.lines = ap (λ (a : Machine). a.log) (sym running.reached) in
    subst (λ (ls : List Logged). Checks engine.clauses (trim log.inputs ls)) lines_are
    (subst (λ (n : ℕ). Checks engine.clauses (trim n (steps running.count engine.budget (machine engine.vars engine.clauses)).log)) (sym given_are)
    (unsat_checks engine.vars engine.clauses engine.budget (both _ (variables_within engine.vars engine.clauses) running.formula).1 running.count (ap (λ (a : Machine). a.state.end) (sym running.reached) ∙ unsat)))
