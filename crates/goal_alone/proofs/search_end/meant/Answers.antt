use Rattle.std.proofs.Common.{◌∙◌, List, [], ◌∷◌, IsSome, length, map, sym, ap, subst, arith, inl, inr}
use Rattle.std.proofs.lemmas.List.Elements.{All-nil, All-cons, All-head, All-tail}
use Rattle.sat_form.specs.Literals.{Literal}
use Rattle.sat_form.specs.Truth.{satisfies, value_of}
use Rattle.lrat_lines.specs.Replay.{TextComesTo}
use Rattle.lrat_lines.specs.Replay.Verdict.{Accepted}
use Rattle.lrat_lines.proofs.Refutes.{checks_refutes}
use Rattle.lrat_lines.proofs.Verdicts.{checked_text_is_accepted}
use Rattle.lrat_trim.specs.Trim.{trim}
use Rattle.cdcl_solver.specs.Progress.{Progress}
use Rattle.goal_alone.specs.Formula.{goal_edge}
use Rattle.goal_alone.proofs.Ending.{clauses_are, whole, at_sat, at_unsat, at_budget, enough, refutes}
use Rattle.bv_expr.specs.Term.{Term}
use Rattle.bv_expr.specs.Goal.{Binders, IsGoal}
use Rattle.bv_expr.specs.Sorts.{IsExpr}
use Rattle.std.specs.Prelude.{All}
use Rattle.bv_normal.specs.Normal.{normal}
use Rattle.bv_normal.proofs.Normalising.{normal_keeps, fits_of}
use Rattle.bv_normal.proofs.Goaling.{goal_again, falsified_alike}
use Rattle.blast_goal.specs.Circuit.{goal_row}
use Rattle.blast_goal.specs.Values.{values_of}
use Rattle.blast_goal.proofs.Falsifying.{edge-value, edge-read}
use Rattle.blast_goal.proofs.Reading.{are_values}
use Rattle.goal_alone.proofs.Satisfied.{IsEdgeOf, falsified, satisfiable_where_falsifiable}
use Rattle.goal_alone.proofs.Telling.{valid_without_values}
use Rattle.goal_alone.proofs.search_end.meant.Goals as goal

normal_expr : (t : Term) → IsExpr t → IsExpr (normal t)
normal_expr t ex = let k = normal_keeps t (fits_of ex) in record { sorted = subst IsSome (sym k.sort_is) ex.sorted; leaves = k.leaves; shallow = omega (arith, k.depth_within, ex.shallow) }

normal_exprs : (ts : List Term) → All IsExpr ts → All IsExpr (map normal ts)
normal_exprs [] h = All-nil IsExpr
normal_exprs (t ∷ ts) h = All-cons IsExpr (normal t) (map normal ts) (normal_expr t (All-head IsExpr t ts h)) (normal_exprs ts (All-tail IsExpr t ts h))

law : (binders : Binders) (hyps : List Term) (concl : Term) → IsGoal binders hyps concl → All IsExpr hyps → IsExpr concl → IsEdgeOf binders hyps concl
unfolding goal_row
law binders hyps concl goal exprs expr =
    let again = goal_again binders hyps concl goal exprs expr in
    let alike = falsified_alike binders hyps concl goal exprs expr in
    record {
      of_values = λ values are.
          let p = edge-value binders (map normal hyps) (normal concl) again (normal_exprs hyps exprs) (normal_expr concl expr) values are in
          let q = alike values are in (λ e. q.0 (p.0 e), λ f. p.1 (q.1 f));
      of_bits = λ bits.
          let p = edge-read binders (map normal hyps) (normal concl) again (normal_exprs hyps exprs) (normal_expr concl expr) bits in
          let q = alike (values_of binders bits) (are_values binders bits goal.sorts) in (λ e. q.0 (p.0 e), λ f. p.1 (q.1 f));
    }

pub counterexample-requires : goal.counterexample-requires
counterexample-requires c =
    let g = c.args.goal.now in
    enough (goal_edge g.hyps g.concl) c.args.cone.now.nodes.items c.args.search.now.vars (length c.in-Some.values.now) c.requires.cone.nodes_are
    (ap (λ (x : Progress). x.vars) c.requires.ended.reached) c.in-Some.ensures.size

pub returns-in-Some-clause-answer : goal.returns-in-Some-clause-answer
returns-in-Some-clause-answer c =
    let g = c.args.goal.now in
    at_sat g.binders g.hyps g.concl c.args.search.now c.args.end.now c.requires.ended c.args.cone.now.nodes.items c.in-Some.values.now c.in_ok-counterexample.field-0.items
    (sym c.requires.ended.end_is ∙ c.in-Some.ensures.solved.1) c.requires.cone.nodes_are c.in-Some.ensures.values c.in_ok-counterexample.ensures

pub returns-in-Some-clause-refuted : goal.returns-in-Some-clause-refuted
returns-in-Some-clause-refuted c =
    let g = c.args.goal.now in
    let values = value_of c.in-Some.values.now in
    let same = clauses_are g.binders g.hyps g.concl c.args.search.now c.args.end.now c.requires.ended in
    refutes g.binders g.hyps g.concl (goal_edge g.hyps g.concl) c.args.cone.now.nodes.items values c.in_ok-counterexample.field-0.items c.requires.cone.nodes_are c.in_ok-counterexample.ensures
    (falsified g.binders g.hyps g.concl g.fits (law g.binders g.hyps g.concl g.fits (rw c.as_slice.ensures at c.see_terms.ensures) c.depth-depth.ensures.expr) values (sym (ap (satisfies values) same) ∙ c.in-Some.ensures.satisfied))

pub returns-in_ok-certificate-in-Unsat-clause-answer : goal.returns-in_ok-certificate-in-Unsat-clause-answer
returns-in_ok-certificate-in-Unsat-clause-answer c =
    let g = c.args.goal.now in
    at_unsat g.binders g.hyps g.concl c.args.search.now c.args.end.now c.requires.ended c.in_ok-certificate-in-Unsat.field-0.items c.in-Unsat.is c.in_ok-certificate-in-Unsat.ensures.text

pub returns-in_ok-certificate-in-Unsat-clause-proved : goal.returns-in_ok-certificate-in-Unsat-clause-proved
returns-in_ok-certificate-in-Unsat-clause-proved c =
    let g = c.args.goal.now in
    let s = c.args.search.now in
    let same = clauses_are g.binders g.hyps g.concl s c.args.end.now c.requires.ended in
    valid_without_values g.binders g.hyps g.concl s.clauses (satisfiable_where_falsifiable g.binders g.hyps g.concl g.fits (law g.binders g.hyps g.concl g.fits (rw c.as_slice.ensures at c.see_terms.ensures) c.depth-depth.ensures.expr) s.clauses same)
    (checks_refutes s.clauses (trim (length s.clauses) s.machine.log) c.in_ok-certificate-in-Unsat.ensures.checks)

pub returns-in_ok-certificate-in-Unsat-clause-accepted : goal.returns-in_ok-certificate-in-Unsat-clause-accepted
returns-in_ok-certificate-in-Unsat-clause-accepted c = λ most fits.
    let g = c.args.goal.now in
    let s = c.args.search.now in
    let text = c.in_ok-certificate-in-Unsat.field-0.items in
    let lines = trim (length s.clauses) s.machine.log in
    subst (λ (cs : List (List Literal)). TextComesTo cs most text Accepted) (clauses_are g.binders g.hyps g.concl s c.args.end.now c.requires.ended)
    (checked_text_is_accepted s.clauses most text lines fits c.in_ok-certificate-in-Unsat.ensures.lines c.in_ok-certificate-in-Unsat.ensures.checks)

pub returns-in-Budget-clause-answer : goal.returns-in-Budget-clause-answer
returns-in-Budget-clause-answer c =
    let g = c.args.goal.now in
    at_budget g.binders g.hyps g.concl c.args.search.now c.args.end.now c.requires.ended c.in-Budget.spent c.in-Budget.is

pub unreachable-requires : goal.unreachable-requires
unreachable-requires c =
    let g = c.args.goal.now in
    let whole_one = whole g.binders g.hyps g.concl c.args.search.now c.args.end.now c.requires.ended in
    elim c.in-Sat.is [
      | inl sat ↦ c.in_default.ensures.before whole_one (c.requires.ended.end_is ∙ sat)
      | inr more ↦ c.requires.ended.is_end more
    ]
