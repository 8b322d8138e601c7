use Rattle.std.proofs.Common.{◌∙◌, ap}
use Rattle.std.specs.Prelude.{map, []}
use Rattle.bv_typing.specs.Variables.{named}
use Rattle.bv_typing.specs.Goals.{bound_misfits, least}
use Rattle.bv_typing.specs.Judging.{env_at, judge_all, start, least_of}
use Rattle.bv_typing.proofs.InGoals.{each_noted, notes_are, misfit_is}
use Rattle.bv_typing.proofs.judging.judge.Goals as goal

pub returns-clause-noted : goal.returns-clause-noted
returns-clause-noted c = each_noted (env_at c.args.file.now c.deref.result.now) c.args.pieces.now c.in_ok-terms.terms.notes.items c.in_ok-terms.ensures.notes

pub returns-clause-notes : goal.returns-clause-notes
returns-clause-notes c =
    notes_are c.args.file.now c.args.pieces.now c.deref.result.now c.in_ok-terms.terms.notes.items
    (c.deref.ensures.value ∙ c.in_ok-bindings.ensures) c.in_ok-terms.ensures.notes

pub returns-clause-misfit : goal.returns-clause-misfit
returns-clause-misfit c =
    misfit_is c.args.file.now c.args.pieces.now c.in_ok-bindings.bindings.items c.binding_misfit.result c.in_ok-terms.terms.misfit c.earliest-misfit.result
    c.in_ok-bindings.ensures
    (c.binding_misfit.ensures ∙ ap (λ v. least (bound_misfits [] (map (named c.args.file.now) v))) c.deref-2.ensures.value)
    (c.in_ok-terms.ensures.misfit ∙ ap (λ v. least_of (judge_all (env_at c.args.file.now v) c.args.pieces.now start)) c.deref.ensures.value)
    c.earliest-misfit.ensures
