use Rattle.std.proofs.Common.{◌∙◌, ap}
use Rattle.std.specs.Prelude.{map, option_map}
use Rattle.bv_typing.specs.Source.{quoted_at}
use Rattle.bv_typing.specs.Variables.{named, binders_of}
use Rattle.bv_typing.specs.Goals.{name_between, statement}
use Rattle.bv_terms.proofs.Stating.{parts_fit, binders_are, stated}
use Rattle.bv_terms.proofs.goals.goal_of.Goals as goal

pub new-requires : goal.new-requires
new-requires c =
    let s = c.args.file.now in
    let g = c.requires.goal.goal.0 in
    let e = c.requires.goal.goal.1 in
    parts_fit s c.args.pieces.now g c.requires.goal e c.in_ok-binders.binders c.in_ok-hyps.hyps c.in_ok-hyps.concl
    (c.in_ok-binders.ensures ∙ ap (λ v. binders_of (map (named s) v)) c.deref.ensures.value ∙ binders_are s c.args.pieces.now c.args.judgement.now.bindings.items g c.requires.judged.bindings e)
    (c.in_ok-hyps.ensures g e)

pub returns : goal.returns
returns c = λ g e.
    let s = c.args.file.now in
    let head = c.head_of-head.ensures g e in
    let parts = c.in_ok-hyps.ensures g e in
    stated c.new.result (statement s g)
    (c.new.ensures.named ∙ c.in_ok-name.ensures ∙ ap (λ v. name_between s v.0 v.1) head)
    (c.new.ensures.bound ∙ c.in_ok-binders.ensures ∙ ap (λ v. binders_of (map (named s) v)) c.deref.ensures.value ∙ binders_are s c.args.pieces.now c.args.judgement.now.bindings.items g c.requires.judged.bindings e)
    (c.new.ensures.hypotheses ∙ parts.0, c.new.ensures.conclusion ∙ parts.1)
    (c.new.ensures.certificate ∙ c.in_ok-stored.ensures ∙ ap (option_map (quoted_at s)) (c.string_of.ensures g e))
