-- What the end of a goal's search means.
use Rattle.std.proofs.Common.{◌≡◌, ℕ, ◌+◌, ◌≤◌, Bool, false, List, length, sym, ◌∙◌, ap, ap₂, arith}
use Rattle.bv_expr.specs.declared.ops.Val.{Val}
use Rattle.bv_expr.specs.Term.{Term}
use Rattle.bv_expr.specs.Goal.{Binders, AreValues, Falsifies}
use Rattle.sat_form.specs.Literals.{Literal}
use Rattle.sat_form.specs.Truth.{value_of}
use Rattle.cone_walk.specs.declared.node.ConeNode.{ConeNode}
use Rattle.tseitin.specs.Clauses.{variables}
use Rattle.search_learn.specs.declared.Turn.{Turn}
use Rattle.search_learn.specs.declared.Turn.TheVariants as turn
use Rattle.search_learn.specs.Machine.{Machine, run}
use Rattle.lrat_lines.specs.Lines.{written}
use Rattle.lrat_trim.specs.Trim.{trim}
use Rattle.cdcl_solver.specs.Progress.{Progress}
use Rattle.goal_alone.specs.Ends.{End, Made, TooDeep, TooMany}
use Rattle.goal_alone.specs.Formula.{goal_edge, goal_end, goal_clauses, goal_variables}
use Rattle.cone_walk.specs.Cone.{cone_node, cone_nodes}
use Rattle.cone_walk.specs.Order.{order}
use Rattle.gate_shape.specs.Edge.{Edge}
use Rattle.std.proofs.lemmas.List.{length-map}
use Rattle.blast_goal.specs.Values.{values_of}
use Rattle.goal_alone.specs.Satisfying.{node_bits, IsRefutation}
use Rattle.goal_alone.specs.Alone.{Answer, answer_of, solved, alone}
use Rattle.goal_alone.specs.Alone as answer
use Rattle.goal_alone.specs.Ended.{HasEnded}
use Rattle.goal_alone.proofs.Turns.{whole_run}

module _ (binders : Binders) (hyps : List Term) (concl : Term) (s : Progress) (end : Turn) (h : HasEnded (goal_variables hyps concl) (goal_clauses hyps concl) s end) where
  abbrev goal_run : Machine
  goal_run = run (goal_variables hyps concl) (goal_clauses hyps concl) s.budget

  machine_is : s.machine ≡ goal_run
  machine_is = ap (λ (x : Progress). x.machine) (whole_run (goal_variables hyps concl) (goal_clauses hyps concl) s end h)

  pub clauses_are : s.clauses ≡ goal_clauses hyps concl
  clauses_are = ap (λ (x : Progress). x.clauses) h.reached

  pub whole : s.broken ≡ false
  whole = ap (λ (x : Progress). x.broken) h.reached

  answer_at : (t : Turn) → end ≡ t → solved binders hyps concl s.budget ≡ answer_of binders (goal_edge hyps concl) (goal_clauses hyps concl) goal_run t
  unfolding solved
  answer_at t e = ap (answer_of binders (goal_edge hyps concl) (goal_clauses hyps concl) goal_run) (sym (ap (λ (m : Machine). m.state.end) machine_is) ∙ (h.end_is ∙ e))

  pub at_unsat : (text : List ℕ) → end ≡ turn.Unsat → text ≡ written (trim (length s.clauses) s.machine.log) → solved binders hyps concl s.budget ≡ answer.Proved text
  at_unsat text e is = answer_at turn.Unsat e ∙ ap answer.Proved (sym (is ∙ ap₂ (λ (cs : List (List Literal)) (m : Machine). written (trim (length cs) m.log)) clauses_are machine_is))

  pub at_sat : (nodes : List ConeNode) (signs : List Bool) (found : List Val) → end ≡ turn.Sat → nodes ≡ cone_nodes (goal_edge hyps concl) → signs ≡ s.machine.state.signs
      → found ≡ values_of binders (node_bits nodes (value_of signs)) → solved binders hyps concl s.budget ≡ answer.False found
  at_sat nodes signs found e cone values is =
      let signs_are : signs ≡ goal_run.state.signs = values ∙ ap (λ (m : Machine). m.state.signs) machine_is in
      answer_at turn.Sat e ∙ ap answer.False (sym (is ∙ ap₂ (λ ns bs. values_of binders (node_bits ns (value_of bs))) cone signs_are))

  pub at_budget : (spent : ℕ) → end ≡ turn.Budget spent → solved binders hyps concl s.budget ≡ answer.Budget spent
  at_budget spent e = answer_at (turn.Budget spent) e

module _ (binders : Binders) (hyps : List Term) (concl : Term) (budget : ℕ) where
  alone_by : (e : End) → goal_end hyps concl ≡ e → alone binders hyps concl budget ≡ elim e as (λ _. Answer) [ TooDeep ↦ answer.Deep | TooMany ↦ answer.Large | Made ↦ solved binders hyps concl budget ]
  unfolding alone
  alone_by e is = ap (λ (x : End). elim x as (λ _. Answer) [ TooDeep ↦ answer.Deep | TooMany ↦ answer.Large | Made ↦ solved binders hyps concl budget ]) is

  pub where_made : goal_end hyps concl ≡ Made → alone binders hyps concl budget ≡ solved binders hyps concl budget
  where_made e = alone_by Made e

  pub where_deep : goal_end hyps concl ≡ TooDeep → alone binders hyps concl budget ≡ answer.Deep
  where_deep e = alone_by TooDeep e

  pub where_large : goal_end hyps concl ≡ TooMany → alone binders hyps concl budget ≡ answer.Large
  where_large e = alone_by TooMany e

-- the search has a value for each node
pub enough : (e : Edge) (nodes : List ConeNode) (vars size : ℕ) → nodes ≡ cone_nodes e → vars ≡ variables e → size ≡ vars → length nodes + 1 ≤ size
unfolding cone_nodes
enough e nodes vars size is count same =
    let n : length nodes ≡ length (order e) = ap length is ∙ length-map (order e) (cone_node (order e)) in
    omega arith

-- the values that were read off falsify the goal
pub refutes : (binders : Binders) (hyps : List Term) (concl : Term) (e : Edge) (nodes : List ConeNode) (values : ℕ → Bool) (found : List Val) → nodes ≡ cone_nodes e
    → found ≡ values_of binders (node_bits nodes values) → IsRefutation binders hyps concl e values → AreValues binders found × Falsifies hyps concl found
refutes binders hyps concl e nodes values found cone is r = rw (is, cone) r
