use Rattle.std.proofs.Common.{◌≡◌, ◌∷◌, Some, None, sym, ◌∙◌, reverse}
use Rattle.bv_typing.specs.Goals.{statement}
use Rattle.bv_terms.specs.Goals.{made}
use Rattle.bv_terms.proofs.Stating.{built_so, same_items, parted_are}
use Rattle.bv_terms.proofs.goals.terms_of.Goals as goal

pub parted-requires : goal.parted-requires
parted-requires c =
    let g = c.requires.goal.goal.0 in
    let s = c.args.file.now in
    let all = built_so s c.args.pieces.now c.args.judgement.now c.deref-2.result.now c.deref.result.now c.in_ok-widths.widths c.in_ok-built.field-0 c.deref-2.ensures.value c.deref.ensures.value c.in_ok-widths.ensures c.in_ok-built.ensures c.requires.judged c.requires.goal g c.requires.goal.goal.1 in
    (reverse (statement s g).hyps, (statement s g).concl, same_items c.in_ok-built.field-0 c.in-Some.built (made ((statement s g).concl ∷ reverse (statement s g).hyps)) c.in-Some.is all)

pub unreachable-requires : goal.unreachable-requires
unreachable-requires c =
    let g = c.requires.goal.goal.0 in
    let s = c.args.file.now in
    let all = built_so s c.args.pieces.now c.args.judgement.now c.deref-2.result.now c.deref.result.now c.in_ok-widths.widths c.in_ok-built.field-0 c.deref-2.ensures.value c.deref.ensures.value c.in_ok-widths.ensures c.in_ok-built.ensures c.requires.judged c.requires.goal g c.requires.goal.goal.1 in
    let no : None ≡ Some (made ((statement s g).concl ∷ reverse (statement s g).hyps)) = sym c.in-None.is ∙ all in
    cc

pub returns : goal.returns
returns c =
    parted_are c.parted.result c.args.file.now c.args.pieces.now c.in_ok-built.field-0 c.in-Some.built c.in-Some.is
    (built_so c.args.file.now c.args.pieces.now c.args.judgement.now c.deref-2.result.now c.deref.result.now c.in_ok-widths.widths c.in_ok-built.field-0 c.deref-2.ensures.value c.deref.ensures.value c.in_ok-widths.ensures c.in_ok-built.ensures c.requires.judged c.requires.goal)
    c.parted.ensures
