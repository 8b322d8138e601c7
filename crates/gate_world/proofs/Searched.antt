-- A goal whose clauses are searched: its first state, a step, and its end.
use Rattle.std.proofs.Common.{◌≡◌, ◌≢◌, ℕ, suc, refl, sym, ap, ap₂, ◌∙◌, subst}
use Rattle.goal_reply.specs.declared.reply.Reply.{Reply}
use Rattle.goal_reply.specs.declared.reply.Reply.TheVariants as reply
use Rattle.search_learn.specs.declared.Turn.{Turn}
use Rattle.search_learn.specs.declared.Turn.TheVariants as turn
use Rattle.search_learn.specs.Machine.{Machine, machine, advance, run}
use Rattle.search_learn.proofs.Cases.{steps_last}
use Rattle.cdcl_solver.specs.Progress.{Progress, opened, turned as search_turned}
use Rattle.tseitin.specs.Clauses.{AreConeOf}
use Rattle.goal_alone.specs.Formula.{goal_clauses, goal_variables}
use Rattle.goal_alone.specs.Alone.{Answer, answer_of, solved}
use Rattle.goal_alone.specs.Ended.{HasEnded, ended}
use Rattle.goal_alone.specs.Told.{IsAnswer}
use Rattle.goal_alone.proofs.Turns.{whole_run}
use Rattle.gate_world.specs.Work.{Problem, Ended, Replied, edge_of, search_at}
use Rattle.gate_world.specs.Solving.{IsSearchOf, IsReplyOf, ShowsSearch, ShowsSolved}
use Rattle.gate_world.specs.declared.solve.Solving.{Solving}
use Rattle.gate_world.specs.declared.solve.Solved.TheVariants as code

-- a reply other than want of memory
reply_is : (r : Reply) (a : Answer) → r ≢ reply.Memory → IsAnswer r a → IsReplyOf r a
reply_is (reply.Proved text) a n h = h
reply_is (reply.False values) a n h = h
reply_is (reply.Budget spent) a n h = h
reply_is reply.Deep a n h = h
reply_is reply.Large a n h = h
reply_is reply.Memory a n h = absurd (n refl)

module _ (p : Problem) (budget : ℕ) where
  abbrev first : Progress
  first = opened (goal_variables p.hyps p.concl) (goal_clauses p.hyps p.concl) budget

  -- a search that begins
  pub search_begun : (s : Solving) → AreConeOf (edge_of p) s.cone.nodes.items s.cone.root → s.search ≡ first → IsSearchOf p budget s (machine (goal_variables p.hyps p.concl) (goal_clauses p.hyps p.concl))
  search_begun s cone is = record { cone = cone; steps = 0; reached = is; machine = ap (λ (x : Progress). x.machine) is; going = refl }

  -- an end of the machine is the goal's
  ended_at : (n : Machine) (t : Turn) → t ≢ turn.More → search_at p n t ≡ Ended (Replied (answer_of p.binders (edge_of p) (goal_clauses p.hyps p.concl) n t))
  ended_at n turn.More over = absurd (over refl)
  ended_at n turn.Sat over = refl
  ended_at n turn.Unsat over = refl
  ended_at n (turn.Budget spent) over = refl

  module _ (s : Solving) (m : Machine) (h : IsSearchOf p budget s m) (next : Progress) (is : next ≡ search_turned 1 s.search) where
    step_reached : next ≡ search_turned (suc h.steps) first
    step_reached = is ∙ ap (search_turned 1) h.reached ∙ ap (λ (x : Machine). record first { machine = x }) (sym (steps_last h.steps budget first.machine))

    step_budget : next.budget ≡ budget
    step_budget = ap (λ (x : Progress). x.budget) step_reached

    step_machine : next.machine ≡ advance budget m
    step_machine = ap (λ (x : Progress). x.machine) is ∙ ap₂ (λ b (x : Machine). advance b x) (ap (λ (x : Progress). x.budget) h.reached) h.machine

    -- the search has come to an end by this step
    pub has_ended : (t : Turn) → t ≡ next.machine.state.end → t ≢ turn.More → HasEnded (goal_variables p.hyps p.concl) (goal_clauses p.hyps p.concl) next t
    has_ended t end over = record {
      steps = suc h.steps;
      reached = subst (λ b. next ≡ search_turned (suc h.steps) (opened (goal_variables p.hyps p.concl) (goal_clauses p.hyps p.concl) b)) (sym step_budget) step_reached;
      end_is = sym end;
      is_end = over;
    }

    -- it goes on
    pub goes_on : (k : Solving) → k.cone ≡ s.cone → k.search ≡ next → turn.More ≡ next.machine.state.end → ShowsSolved p budget (code.More k) (search_at p (advance budget m) (advance budget m).state.end)
    goes_on k cone search more =
        let e : turn.More ≡ (advance budget m).state.end = more ∙ ap (λ (x : Machine). x.state.end) step_machine in
        let on : IsSearchOf p budget k (advance budget m) = record {
          cone = subst (λ c. AreConeOf (edge_of p) c.nodes.items c.root) (sym cone) h.cone;
          steps = suc h.steps;
          reached = search ∙ step_reached;
          machine = ap (λ (x : Progress). x.machine) search ∙ step_machine;
          going = sym e;
        } in
        subst (λ t. ShowsSearch p budget k (search_at p (advance budget m) t)) e on

    -- what the search comes to is the answer of its last state
    answer_is : (t : Turn) → t ≡ next.machine.state.end → t ≢ turn.More → solved p.binders p.hyps p.concl next.budget ≡ answer_of p.binders (edge_of p) (goal_clauses p.hyps p.concl) (advance budget m) t
    unfolding solved
    answer_is t end over =
        let vars : ℕ = goal_variables p.hyps p.concl in
        let whole : next ≡ ended vars (goal_clauses p.hyps p.concl) next.budget = whole_run vars (goal_clauses p.hyps p.concl) next t (has_ended t end over) in
        let same : run vars (goal_clauses p.hyps p.concl) next.budget ≡ next.machine = sym (ap (λ (x : Progress). x.machine) whole) in
        ap₂ (answer_of p.binders (edge_of p) (goal_clauses p.hyps p.concl)) (same ∙ step_machine) (ap (λ (x : Machine). x.state.end) same ∙ sym end)

    -- it has ended with this reply
    pub ends : (t : Turn) (r : Reply) → t ≡ next.machine.state.end → t ≢ turn.More → r ≢ reply.Memory → IsAnswer r (solved p.binders p.hyps p.concl next.budget)
        → ShowsSolved p budget (code.Ended r) (search_at p (advance budget m) (advance budget m).state.end)
    ends t r end over some told =
        let e : (advance budget m).state.end ≡ t = sym (end ∙ ap (λ (x : Machine). x.state.end) step_machine) in
        let a : Answer = answer_of p.binders (edge_of p) (goal_clauses p.hyps p.concl) (advance budget m) t in
        (a, ap (search_at p (advance budget m)) e ∙ ended_at (advance budget m) t over, reply_is r a some (subst (IsAnswer r) (answer_is t end over) told))
