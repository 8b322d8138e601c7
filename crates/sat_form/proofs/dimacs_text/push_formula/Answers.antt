use Rattle.std.proofs.Common.{◌+◌, ◌++◌, ◌∙◌, sym, ap, append_assoc, append-nil, drop, arith}
use Rattle.std.proofs.lemmas.Grind.{common_steps}
use Rattle.sat_form.proofs.Holds.{cut_at, none_left}
use Rattle.sat_form.specs.Dimacs.{clause_text, clauses_text}
use Rattle.sat_form.proofs.dimacs_text.push_formula.Goals as goal

pub loop-clause-preserved : goal.loop-clause-preserved
loop-clause-preserved c =
    let cs = c.args.cnf.now.clauses in
    let cut = cut_at cs c.loop-clause.at c.in-Some.clause.now (sym c.in-Some.ensures) in
    let e = ap (λ items. items ++ clauses_text (drop (c.loop-clause.at + 1) cs)) c.in_ok-push_clause.ensures.ok in
    record {
      text = e ∙ (append_assoc c.loop-clause.out.items (clause_text c.in-Some.clause.now) (clauses_text (drop (c.loop-clause.at + 1) cs)) ∙ (ap (λ d. c.loop-clause.out.items ++ clauses_text d) (sym cut) ∙ c.loop-clause.invariant.text));
      keeps = grind (arith, common_steps);
    }

pub returns-clause-ok : goal.returns-clause-ok
returns-clause-ok c =
    let n = none_left c.args.cnf.now.clauses c.loop-clause.at (sym c.in_default.ensures) in
    sym (ap (λ d. c.loop-clause.out.items ++ clauses_text d) n ∙ append-nil c.loop-clause.out.items) ∙ c.loop-clause.invariant.text
