-- A search in turns comes to the end of its run.
use Rattle.std.proofs.Common.{◌≡◌, ◌≢◌, ℕ, ◌+◌, ◌*◌, ◌/◌, ◌≤◌, ◌<◌, List, ap, sym, ◌∙◌, subst, arith}
use Rattle.std.specs.Prelude.{nat_le, Bool, true, false, refl}
use Rattle.std.proofs.lemmas.Grind.{common_steps}
use Rattle.sat_form.specs.Literals.{Literal}
use Rattle.search_learn.specs.declared.Turn.TheVariants.{More}
use Rattle.search_learn.specs.Machine.{Machine, machine, run}
use Rattle.search_learn.proofs.Runs.{run_ends}
use Rattle.cdcl_solver.specs.Progress.{Progress, opened, turned}
use Rattle.cdcl_solver.proofs.Going.{steps_more, turned_ended}
use Rattle.search_learn.specs.declared.Turn.{Turn}
use Rattle.goal_alone.specs.Ended.{ended, HasEnded}

-- after this many turns of a thousand steps the search goes on
pub record IsGoing (vars : ℕ) (cs : List (List Literal)) (budget turns : ℕ) (s : Progress) : Type 0 where
  pub so_far : s ≡ turned (1000 * turns) (opened vars cs budget)
  pub going : 0 < turns → s.machine.state.end ≡ More

abbrev after : ℕ → List (List Literal) → ℕ → ℕ → Progress
after vars cs budget n = turned n (opened vars cs budget)

-- a turn more
turn_more : (vars : ℕ) (cs : List (List Literal)) (budget turns : ℕ) (s t : Progress) → IsGoing vars cs budget turns s → t ≡ turned 1000 s → t ≡ after vars cs budget (1000 * turns + 1000)
turn_more vars cs budget turns s t g e =
    e ∙ (ap (turned 1000) g.so_far ∙ ap (λ (a : Machine). record (opened vars cs budget) { machine = a }) (steps_more 1000 (1000 * turns) budget (machine vars cs)))

pub goes_on : (vars : ℕ) (cs : List (List Literal)) (budget turns : ℕ) (s t : Progress) → IsGoing vars cs budget turns s → t ≡ turned 1000 s → t.machine.state.end ≡ More → IsGoing vars cs budget (turns + 1) t
goes_on vars cs budget turns s t g e more =
    let n : 1000 * turns + 1000 ≡ 1000 * (turns + 1) = omega arith in
    record { so_far = turn_more vars cs budget turns s t g e ∙ ap (after vars cs budget) n; going = λ _. more }

-- the end of the run stands from then on
past_end : (vars : ℕ) (cs : List (List Literal)) (budget n : ℕ) → budget + 1 ≤ n → ended vars cs budget ≡ after vars cs budget n
past_end vars cs budget n l = turned_ended (budget + 1) n (opened vars cs budget) l (run_ends vars cs budget)

by_order : (m n : ℕ) {P : Type 0} (b : Bool) → nat_le m n ≡ b → (m ≤ n → P) → (n ≤ m → P) → P
by_order m n true e f g = f (grind (arith, common_steps))
by_order m n false e f g = g (grind (arith, common_steps))

at_end : (vars : ℕ) (cs : List (List Literal)) (budget n : ℕ) → (after vars cs budget n).machine.state.end ≢ More → after vars cs budget n ≡ ended vars cs budget
at_end vars cs budget n over =
    by_order n (budget + 1) (nat_le n (budget + 1)) refl (λ l. turned_ended n (budget + 1) (opened vars cs budget) l over) (λ l. sym (past_end vars cs budget n l))

-- a turn that ends the search ends it where the run ends
pub comes_to_end : (vars : ℕ) (cs : List (List Literal)) (budget turns : ℕ) (s t : Progress) → IsGoing vars cs budget turns s → t ≡ turned 1000 s → t.machine.state.end ≢ More → t ≡ ended vars cs budget
comes_to_end vars cs budget turns s t g e over =
    let is = turn_more vars cs budget turns s t g e in
    is ∙ at_end vars cs budget (1000 * turns + 1000) (subst (λ (x : Progress). x.machine.state.end ≢ More) is over)

-- so it doesn't go on for ever
pub no_more : (vars : ℕ) (cs : List (List Literal)) (budget turns : ℕ) (s : Progress) → IsGoing vars cs budget turns s → budget / 1000 + 1 ≤ turns → ⊥
no_more vars cs budget turns s g l =
    let enough : budget + 1 ≤ 1000 * turns = omega arith in
    let is : s ≡ ended vars cs budget = g.so_far ∙ sym (past_end vars cs budget (1000 * turns) enough) in
    run_ends vars cs budget (sym (ap (λ (x : Progress). x.machine.state.end) is) ∙ g.going (omega arith))

-- a search that has ended is where its run ends
pub whole_run : (vars : ℕ) (cs : List (List Literal)) (s : Progress) (end : Turn) → HasEnded vars cs s end → s ≡ ended vars cs s.budget
whole_run vars cs s end h =
    h.reached ∙ at_end vars cs s.budget h.steps (λ e. h.is_end (sym h.end_is ∙ (ap (λ (x : Progress). x.machine.state.end) h.reached ∙ e)))

-- where a run ends a search has ended
pub has_ended : (vars : ℕ) (cs : List (List Literal)) (budget : ℕ) (s : Progress) (end : Turn) → s ≡ ended vars cs budget → end ≡ (run vars cs budget).state.end → HasEnded vars cs s end
has_ended vars cs budget s end is e = record {
  steps = budget + 1;
  reached = is ∙ ap (λ b. turned (budget + 1) (opened vars cs b)) (sym (ap (λ (x : Progress). x.budget) is));
  end_is = ap (λ (x : Progress). x.machine.state.end) is ∙ sym e;
  is_end = λ more. run_ends vars cs budget (sym e ∙ more);
}
