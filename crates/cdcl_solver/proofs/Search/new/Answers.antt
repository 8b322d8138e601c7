use Rattle.std.proofs.Common.{◌≡◌, ◌∙◌, ◌≤◌, ◌^◌, ap, length, subst, sym}
use Rattle.sat_form.specs.Shape.{is_formula}
use Rattle.search_learn.specs.Engine.{Engine}
use Rattle.search_learn.specs.Machine.{Machine, machine}
use Rattle.lrat_trim.specs.Derivation.{Derivation}
use Rattle.cdcl_solver.proofs.Search.new.Goals as goal

pub invariant_of-result : goal.invariant_of-result
invariant_of-result c =
    let made = c.in_ok-new.ensures in
    let log = c.new-2.ensures in (
      ap (λ (d : Derivation). d.inputs) log ∙ (c.len.ensures ∙ sym (ap (λ (e : Engine). length e.clauses) made)),
      λ _. record {
        whole = ap (λ (e : Engine). e.broken) made;
        formula = ap (λ (e : Engine). is_formula e.vars e.clauses) made ∙ c.args.cnf.now.in_range;
        limit = subst (λ b. b ≤ 2 ^ 62) (sym (ap (λ (e : Engine). e.budget) made)) c.requires;
        count = 0;
        reached = (λ i. record { state = (made i).state; log = (log i).lines }) ∙ sym (ap (λ (e : Engine). machine e.vars e.clauses) made);
      },
    )
